-- The numbers that digits are, from the test and back, and digit by digit.
use Rattle.std.proofs.Common.{◌≡◌, ℕ, suc, ◌<◌, ◌≤◌, ◌+◌, ◌*◌, ◌^◌, Bool, true, false, cond, ◌&&◌, Option, Some, None, List, [], ◌∷◌, length, get_or, drop, refl, sym, ap, arith, drop-cons, min, nat_le, nat_lt}
use Rattle.std.specs.Prelude.{decimal}
use Rattle.std.specs.Char.{digit_value, is_digit}
use Rattle.std.specs.List.{list_all}
use Rattle.std.specs.Str.Parse.{AllDigits, digits_value, digits_value_after}
use Rattle.std.proofs.Math.Nat.{pow-suc}
use Rattle.std.proofs.lemmas.Bool.{and_parts}
use Rattle.std.proofs.lemmas.Bool.Decides.{nat_tests}
use Rattle.std.proofs.lemmas.Fmt.{decimal_is_IsNumeral, length-decimal-le}
use Rattle.std.proofs.lemmas.List.{drop_all}
use Rattle.std.proofs.lemmas.Option.{cond_some}
use Rattle.module_text.specs.TextReader.Numbers.{IsNumber, IsNumberIn, any_number_of, are_digits, digit_of, number_in}

-- the number that digits make behind those of a value
abbrev pub number_after_value : ℕ → ℕ → List ℕ → Option ℕ
number_after_value radix value digits = cond (list_all (λ c. is_digit c radix) digits) (Some (digits_value_after radix value digits)) None

none_is : (b : Bool) (x : ℕ) → cond b (Some x) None ≡ None → b ≡ false
none_is true x e = cc e
none_is false x e = refl

one_true : (b : Bool) (v : ℕ) → cond (b && true) (Some v) None ≡ cond b (Some v) None
one_true true v = refl
one_true false v = refl

both_true : (b : Bool) (v : ℕ) → cond (b && true && true) (Some v) None ≡ cond b (Some v) None
both_true true v = refl
both_true false v = refl

module _ (radix : ℕ) where
  -- ---- the test

  all_digits : (digits : List ℕ) → list_all (λ c. is_digit c radix) digits ≡ true → AllDigits radix digits
  all_digits [] e = tt
  all_digits (c ∷ cs) e =
      let p = and_parts (is_digit c radix) (list_all (λ x. is_digit x radix) cs) e in
      let small : nat_lt (digit_value c) radix ≡ true = p.0 in
      (grind (arith, nat_tests), all_digits cs p.1)

  pass_all : (digits : List ℕ) → AllDigits radix digits → list_all (λ c. is_digit c radix) digits ≡ true
  pass_all [] h = refl
  pass_all (c ∷ cs) h =
      let lt : digit_value c < radix = h.0 in
      let small : nat_lt (digit_value c) radix ≡ true = grind (arith, nat_tests) in
      rw (small, pass_all cs h.1) refl

  -- what gave a number is one
  pub number_in-ok : (most : ℕ) (digits : List ℕ) (n : ℕ) → number_in radix most digits ≡ Some n → IsNumberIn radix most digits n
  number_in-ok most digits n e =
      let p = cond_some (are_digits radix digits && nat_le (length digits) most) (digits_value radix digits) n e in
      let a = and_parts (are_digits radix digits) (nat_le (length digits) most) p.0 in
      let b = and_parts (list_all (λ c. is_digit c radix) digits) (nat_le 1 (length digits)) a.0 in
      let some : nat_le 1 (length digits) ≡ true = b.1 in
      let few : nat_le (length digits) most ≡ true = a.1 in
      record { numeral = (grind (arith, nat_tests), all_digits digits b.0); short = grind (arith, nat_tests); value = p.1 }

  -- a number gives itself
  pub number_in-again : (most : ℕ) (digits : List ℕ) (n : ℕ) → IsNumberIn radix most digits n → number_in radix most digits ≡ Some n
  number_in-again most digits n h =
      let all = pass_all digits h.numeral.1 in
      let some : nat_le 1 (length digits) ≡ true = let p = h.numeral.0 in grind (arith, nat_tests) in
      let few : nat_le (length digits) most ≡ true = let p = h.short in grind (arith, nat_tests) in
      rw (all, some, few, h.value) refl

  -- ---- digit by digit

  -- one digit more
  pub number-more : (value c d : ℕ) (digits : List ℕ) → digit_of radix c ≡ Some d → number_after_value radix value (c ∷ digits) ≡ number_after_value radix (value * radix + d) digits
  number-more value c d digits e =
      let p = cond_some (is_digit c radix) (digit_value c) d e in
      rw p.0 (ap (λ (x : ℕ). number_after_value radix (value * radix + x) digits) p.1)

  -- no digit
  pub number-none : (value c : ℕ) (digits : List ℕ) → digit_of radix c ≡ None → number_after_value radix value (c ∷ digits) ≡ None
  number-none value c digits e = rw (none_is (is_digit c radix) (digit_value c) e) refl

  -- few digits
  pub number_in-short : (most : ℕ) (digits : List ℕ) → 1 ≤ length digits → length digits ≤ most → number_in radix most digits ≡ number_after_value radix 0 digits
  number_in-short most digits some short =
      let a : nat_le 1 (length digits) ≡ true = grind (arith, nat_tests) in
      let b : nat_le (length digits) most ≡ true = grind (arith, nat_tests) in
      rw (a, b) (both_true _ _)

  -- a value of so many digits, and one more
  pub pow-more : (value d k : ℕ) → value < radix ^ k → d < radix → value * radix + d < radix ^ suc k
  pow-more value d k small digit = rw (pow-suc radix k) (grind arith)

-- the decimal digits of a number below 10 ^ 10
pub decimal_number : (n : ℕ) → n < 10 ^ 10 → IsNumber (decimal n) n
decimal_number n lt =
    let small : n < 2 ^ 64 = omega arith in
    let d = decimal_is_IsNumeral n small in
    record { numeral = d.0; short = length-decimal-le 10 n (omega arith) lt small; value = d.1 }

-- ---- numbers of any length

-- the number that digits make behind those of a value, up to the greatest
abbrev pub any_number_after : ℕ → ℕ → List ℕ → Option ℕ
any_number_after greatest value digits =
    cond (list_all (λ c. is_digit c 10) digits) (Some (min (digits_value_after 10 value digits) greatest)) None

module _ (greatest : ℕ) where
  -- what passes the greatest number stays above it
  min_after : (a b : ℕ) (digits : List ℕ) → min a greatest ≡ min b greatest → min (digits_value_after 10 a digits) greatest ≡ min (digits_value_after 10 b digits) greatest
  min_after a b [] e = e
  min_after a b (c ∷ cs) e = min_after (a * 10 + digit_value c) (b * 10 + digit_value c) cs (omega (arith, e))

  -- one digit more
  any_number-more : (value c d : ℕ) (digits : List ℕ) → digit_of 10 c ≡ Some d
      → any_number_after greatest value (c ∷ digits) ≡ any_number_after greatest (min (min (value * 10) greatest + d) greatest) digits
  any_number-more value c d digits e =
      let p = cond_some (is_digit c 10) (digit_value c) d e in
      let same = min_after (value * 10 + digit_value c) (min (min (value * 10) greatest + d) greatest) digits (omega (arith, p.1)) in
      rw (p.0, same) refl

  -- at its place
  pub any_number-at : (value d i : ℕ) (digits : List ℕ) → i < length digits → digit_of 10 (get_or digits i 0) ≡ Some d
      → any_number_after greatest (min (min (value * 10) greatest + d) greatest) (drop (suc i) digits) ≡ any_number_after greatest value (drop i digits)
  any_number-at value d i digits lt e =
      rw (drop-cons digits i 0 lt) (sym (any_number-more value (get_or digits i 0) d (drop (suc i) digits) e))

  -- no more digits
  pub any_number-end : (value i : ℕ) (digits : List ℕ) → length digits ≤ i → value ≤ greatest → any_number_after greatest value (drop i digits) ≡ Some value
  any_number-end value i digits past low =
      let same : min value greatest ≡ value = omega arith in
      rw (drop_all i digits past, same) refl

  -- all digits
  pub any_number-all : (digits : List ℕ) → 1 ≤ length digits → any_number_of greatest digits ≡ any_number_after greatest 0 digits
  any_number-all digits some =
      let a : nat_le 1 (length digits) ≡ true = grind (arith, nat_tests) in
      rw a (one_true _ _)
