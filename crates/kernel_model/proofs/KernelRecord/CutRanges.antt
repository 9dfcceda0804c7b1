-- Ranges of addresses, cut in two.
use Rattle.std.proofs.Common.{◌≡◌, ℕ, zero, suc, ◌+◌, ◌-◌, ◌≤◌, refl, ap, arith}
use Rattle.std.specs.List.{range_with_len}
use Rattle.word_store.specs.Count.{hit, times}

pub times-cut : (a p n m q k : ℕ) → p + n ≡ q → n + m ≡ k → times a (range_with_len p k) ≡ times a (range_with_len p n) + times a (range_with_len q m)
times-cut a p zero m q k e f =
    let same : q ≡ p = omega arith in
    let all : k ≡ m = omega arith in
    omega (arith, ap (λ z. times a (range_with_len z m)) same, ap (λ z. times a (range_with_len p z)) all)
times-cut a p (suc n) m q k e f =
    let more : k ≡ suc (n + m) = omega arith in
    omega (arith, times-cut a (p + 1) n m q (n + m) (omega arith) refl, ap (λ z. times a (range_with_len p z)) more)

-- the words 0 to 22 of what is at t: its link, two words, its queue's head, thirteen, four of its coroutines, and two
pub times-head : (a t : ℕ) → times a (range_with_len t 23)
    ≡ hit a t + (times a (range_with_len (t + 1) 2) + (hit a (t + 3) + (times a (range_with_len (t + 4) 13)
    + (hit a (t + 17) + (hit a (t + 18) + (hit a (t + 19) + (hit a (t + 20) + times a (range_with_len (t + 21) 2))))))))
times-head a t =
    omega (
      arith,
      times-cut a (t + 1) 2 20 (t + 3) 22 (omega arith) refl,
      times-cut a (t + 3) 1 19 (t + 4) 20 (omega arith) refl,
      times-cut a (t + 4) 13 6 (t + 17) 19 (omega arith) refl,
      times-cut a (t + 17) 1 5 (t + 18) 6 (omega arith) refl,
      times-cut a (t + 18) 1 4 (t + 19) 5 (omega arith) refl,
      times-cut a (t + 19) 1 3 (t + 20) 4 (omega arith) refl,
      times-cut a (t + 20) 1 2 (t + 21) 3 (omega arith) refl,
    )

-- the words 100 to 183: eight words, twelve numbers, and the table, of which the entries up to `top` are used
pub times-root : (a top : ℕ) → top ≤ 63 → times a (range_with_len 100 84)
    ≡ times a (range_with_len 100 8) + (times a (range_with_len 108 12) + (hit a 120 + (times a (range_with_len 121 top) + times a (range_with_len (121 + top) (63 - top)))))
times-root a top few =
    let low = times-cut a 100 8 76 108 84 refl refl in
    let numbers = times-cut a 108 12 64 120 76 refl refl in
    let first = times-cut a 120 1 63 121 64 refl refl in
    let used = times-cut a 121 top (63 - top) (121 + top) 63 refl (omega arith) in
    join (times a (range_with_len 100 84)) (times a (range_with_len 100 8)) (times a (range_with_len 108 76)) (times a (range_with_len 108 12)) (times a (range_with_len 120 64)) (hit a 120)
    (times a (range_with_len 121 63)) (times a (range_with_len 121 top)) (times a (range_with_len (121 + top) (63 - top))) low numbers first used
  where
    join : (w a b c d e f g h : ℕ) → w ≡ a + b → b ≡ c + d → d ≡ (e + 0) + f → f ≡ g + h → w ≡ a + (c + (e + (g + h)))
    join w a b c d e f g h p q r s = omega arith
