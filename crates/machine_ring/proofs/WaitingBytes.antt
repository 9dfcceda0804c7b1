-- The bytes that wait: those held, and then those of the output behind the ones taken.
use Rattle.std.proofs.Common.{◌≡◌, ℕ, ◌+◌, ◌-◌, ◌≤◌, true, false, cond, List, [], ◌∷◌, ◌++◌, length, drop, take, sym, ap, ◌∙◌, arith}
use Rattle.std.specs.Prelude.{◌&&◌, is_some, nat_le, slice_get}
use Rattle.std.proofs.lemmas.Bool.{le-leb}
use Rattle.std.proofs.lemmas.List.{drop-drop, length-drop, take_all}
use Rattle.circular_buffer.specs.Buffer.{Buffer, buffer, keep_last}
use Rattle.tripos_machine.specs.State.{State}
use Rattle.tripos_machine.specs.Step.{step}
use Rattle.machine_ring.specs.Rings.{Left}
use Rattle.machine_ring.specs.Rounds.{after_step, can_step, with_step}

-- where none is held, the first is one of the output
pub drop-waiting : (held left out : List ℕ) (n : ℕ) → is_some (slice_get held 0) ≡ false → left ≡ drop 1 held
    → left ++ drop (n + 1) out ≡ drop 1 (held ++ drop n out)
drop-waiting [] left out n none is = ap (λ l. l ++ drop (n + 1) out) is ∙ sym (drop-drop 1 n out)
drop-waiting (x ∷ xs) left out n none is = cc none

-- as many as there is room for are all held
pub keep_last-all : (n : ℕ) (xs : List ℕ) → length xs ≤ n → keep_last n xs ≡ xs
keep_last-all n xs few = (let none : length xs - n ≡ 0 = omega arith in ap (λ k. drop k xs) none)

-- a slice up to the end has all
pub rest-all : (n : ℕ) (xs : List ℕ) → take (length xs - n) (drop n xs) ≡ drop n xs
rest-all n xs = take_all (length xs - n) (drop n xs) (omega (arith, length-drop n xs))

-- the machine takes a step
can-step : (most : ℕ) (x : Left) → length x.waiting ≤ 8192 → can_step most x.state ≡ true → with_step x ≡ after_step most x
can-step most x few can =
    let both : (nat_le (length x.waiting) 8192 && can_step most x.state) ≡ true = λ i. le-leb (length x.waiting) 8192 few i && can i in
    ap (λ b. cond b (with_step x) x) (sym both)

pub left-stepped : (most : ℕ) (held left : Buffer ℕ) (out : List ℕ) (taken : ℕ) (s t : State) (bytes : List ℕ)
    → length (held.items ++ drop taken out) ≤ 8192 → can_step most s ≡ true
    → left ≡ buffer (held.items ++ drop taken out) held.capacity → t ≡ (step s).state → bytes ≡ (step s).bytes
    → record { state = t; waiting = left.items ++ bytes } ≡ after_step most (record { state = s; waiting = held.items ++ drop taken out })
left-stepped most held left out taken s t bytes few can is state output =
    let all : left.items ≡ held.items ++ drop taken out = ap (λ (b : Buffer ℕ). b.items) is in
    let whole : ◌≡◌ {A = Left} (record { state = t; waiting = left.items ++ bytes }) (record { state = (step s).state; waiting = (held.items ++ drop taken out) ++ (step s).bytes }) =
    λ i. record { state = state i; waiting = all i ++ output i } in
    whole ∙ can-step most (record { state = s; waiting = held.items ++ drop taken out }) few can
