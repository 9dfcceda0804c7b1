-- The word of a token, digit by digit.
use Rattle.std.proofs.Common.{◌≡◌, ℕ, suc, ◌<◌, ◌≤◌, ◌+◌, ◌*◌, ◌-◌, ◌^◌, Some, None, List, ◌∷◌, length, get_or, refl, arith, add-one, drop-cons, lit<}
use Rattle.std.specs.Prelude.{slice_range}
use Rattle.std.proofs.Math.Nat.{pow-le-pow_right}
use Rattle.module_text.specs.TextReader.Numbers.{digit_of}
use Rattle.module_text.proofs.TextReader.NumberLemmas.{number-more, number-none, number_after_value, pow-more}

-- a range begins with its first byte
range_first : (text : List ℕ) (i end : ℕ) → i < end → end ≤ length text → slice_range text i end ≡ get_or text i 0 ∷ slice_range text (i + 1) end
range_first text i end lt le =
    let more : end - i ≡ suc (end - (i + 1)) = omega arith in
    let inside : i < length text = omega arith in
    rw (more, drop-cons text i 0 inside, add-one) refl

-- one digit more
pub digit_more : (text : List ℕ) (i end value d : ℕ) → i < end → end ≤ length text → digit_of 16 (get_or text i 0) ≡ Some d
    → number_after_value 16 value (slice_range text i end) ≡ number_after_value 16 (value * 16 + d) (slice_range text (i + 1) end)
digit_more text i end value d lt le e =
    rw (range_first text i end lt le) (number-more 16 value (get_or text i 0) d (slice_range text (i + 1) end) e)

-- no digit
pub digit_none : (text : List ℕ) (i end value : ℕ) → i < end → end ≤ length text → digit_of 16 (get_or text i 0) ≡ None → number_after_value 16 value (slice_range text i end) ≡ None
digit_none text i end value lt le e =
    rw (range_first text i end lt le) (number-none 16 value (get_or text i 0) (slice_range text (i + 1) end) e)

-- a value of as many digits as were read has room for one more
pub small_more : (value d i start end : ℕ) → value < 16 ^ (i - start) → d < 16 → start ≤ i → i < end → end - start ≤ 8 → (value * 16 + d < 2 ^ 32) × (value * 16 + d < 16 ^ (i + 1 - start))
small_more value d i start end small digit from lt short =
    let k = i - start in
    let next : i + 1 - start ≡ suc k = omega arith in
    let few : suc k ≤ 8 = omega arith in
    let bound : 16 ^ suc k ≤ 16 ^ 8 = pow-le-pow_right (lit< tt) few in
    let step = pow-more 16 value d k small digit in
    (omega (arith, step, bound), rw next step)
