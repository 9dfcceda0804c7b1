-- Words in hex, read again.
use Rattle.std.proofs.Common.{◌≡◌, ◌∙◌, ℕ, zero, suc, ◌<◌, ◌+◌, ◌*◌, ◌/◌, ◌%◌, ◌^◌, ◌==◌, ◌&&◌, Bool, true, false, inl, inr, List, [], ◌∷◌, length, slice_index, refl, ap, arith}
use Rattle.std.specs.Prelude.{not}
use Rattle.std.specs.Char.{digit_value}
use Rattle.std.specs.Int.{w32, to_be_bytes}
use Rattle.std.specs.List.{AllByRecursion}
use Rattle.std.specs.Str.Parse.{AllDigits, digits_value_after}
use Rattle.std.proofs.lemmas.Bool.{and_parts, cases_lt, eqb-true, not-true}
use Rattle.hex.specs.Hex.{encode_lower, encode_with, lower_digits}
use Rattle.hex.proofs.HexLemmas.{length-encode_with}
use Rattle.byte_streams.specs.Pieces.{hex_digits_of}
use Rattle.module_text.specs.Tokens.{is_blank}
use Rattle.module_text.specs.Words.{IsWord}

-- ---- one digit

abbrev reads_back : ℕ → Bool
reads_back d = (digit_value (slice_index lower_digits d) == d) && not (is_blank (slice_index lower_digits d))

abbrev all_read_back : ℕ → Bool
all_read_back zero = true
all_read_back (suc n) = reads_back n && all_read_back n

read_back_at : (n k : ℕ) → all_read_back n ≡ true → k < n → reads_back k ≡ true
read_back_at zero k h lt = absurd (omega arith)
read_back_at (suc n) k h lt =
    let parts = and_parts (reads_back n) (all_read_back n) h in
    elim (cases_lt k n) [
      | inl below ↦ read_back_at n k parts.1 below
      | inr top ↦
          let e : k ≡ n = omega arith in
          rw e parts.0
    ]

-- a digit has its value, and is no blank
digit : (d : ℕ) → d < 16 → (digit_value (slice_index lower_digits d) ≡ d) × (is_blank (slice_index lower_digits d) ≡ false)
digit d lt =
    let parts = and_parts (digit_value (slice_index lower_digits d) == d) (not (is_blank (slice_index lower_digits d))) (read_back_at 16 d refl lt) in
    (eqb-true (digit_value (slice_index lower_digits d)) d parts.0, not-true (is_blank (slice_index lower_digits d)) parts.1)

-- ---- bytes

abbrev AreBytes : List ℕ → Type 0
AreBytes bytes = AllByRecursion (λ b. b < 256) bytes

-- the number of bytes, the highest first, behind a value
abbrev bytes_after : ℕ → List ℕ → ℕ
bytes_after v [] = v
bytes_after v (b ∷ bs) = bytes_after (v * 256 + b) bs

value_is : (v : ℕ) (bytes : List ℕ) → AreBytes bytes → digits_value_after 16 v (encode_lower bytes) ≡ bytes_after v bytes
unfolding encode_with
value_is v [] h = refl
value_is v (b ∷ bs) h =
    let lt : b < 256 = h.0 in
    let high = digit (b / 16) (omega arith) in
    let low = digit (b % 16) (omega arith) in
    let same : (v * 16 + digit_value (slice_index lower_digits (b / 16))) * 16 + digit_value (slice_index lower_digits (b % 16)) ≡ v * 256 + b = omega (arith, high.0, low.0) in
    ap (λ (x : ℕ). digits_value_after 16 x (encode_with lower_digits bs)) same ∙ value_is (v * 256 + b) bs h.1

are_digits : (bytes : List ℕ) → AreBytes bytes → AllDigits 16 (encode_lower bytes)
unfolding encode_with
are_digits [] h = tt
are_digits (b ∷ bs) h =
    let lt : b < 256 = h.0 in
    let high = digit (b / 16) (omega arith) in
    let low = digit (b % 16) (omega arith) in
    (omega (arith, high.0), (omega (arith, low.0), are_digits bs h.1))

pub are_no_blanks : (bytes : List ℕ) → AreBytes bytes → AllByRecursion (λ c. is_blank c ≡ false) (encode_lower bytes)
unfolding encode_with
are_no_blanks [] h = tt
are_no_blanks (b ∷ bs) h =
    let lt : b < 256 = h.0 in
    ((digit (b / 16) (omega arith)).1, ((digit (b % 16) (omega arith)).1, are_no_blanks bs h.1))

-- ---- words

word_bytes : (w : ℕ) → AreBytes (to_be_bytes w32 w)
word_bytes w = (omega arith, (omega arith, (omega arith, (omega arith, tt))))

pub no_blanks : (w : ℕ) → AllByRecursion (λ c. is_blank c ≡ false) (hex_digits_of w)
no_blanks w = are_no_blanks (to_be_bytes w32 w) (word_bytes w)

pub length-hex : (w : ℕ) → length (hex_digits_of w) ≡ 8
length-hex w = length-encode_with lower_digits (to_be_bytes w32 w)

pub hex_word : (w : ℕ) → w < 2 ^ 32 → IsWord (hex_digits_of w) w
hex_word w lt =
    let size = length-hex w in
    record {
      numeral = (omega (arith, size), are_digits (to_be_bytes w32 w) (word_bytes w));
      short = omega (arith, size);
      value = value_is 0 (to_be_bytes w32 w) (word_bytes w) ∙ omega arith;
    }
