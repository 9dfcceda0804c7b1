-- Hex in lower case, from the digits to the bytes and back.
use Rattle.std.proofs.Common.{◌≡◌, ◌∙◌, ℕ, zero, suc, ◌<◌, ◌+◌, ◌-◌, ◌*◌, ◌/◌, ◌%◌, ◌==◌, ◌&&◌, Bool, true, cond, Result, Ok, Err, inl, inr, List, [], ◌∷◌, length, slice_index, Some, refl, sym, ap, arith, nat_lt}
use Rattle.std.specs.Prelude.{IsOk, MatchResult, replicate}
use Rattle.std.specs.List.{list_all}
use Rattle.std.specs.Result.{result_unwrap_or}
use Rattle.std.proofs.lemmas.Bool.{and_from, and_parts, cases_lt, eqb-true}
use Rattle.std.proofs.lemmas.Bool.Decides.{nat_tests}
use Rattle.std.proofs.lemmas.List.{length-replicate}
use Rattle.hex.specs.Hex.{IsBytes, decode_of, decode_pairs, decode_sized, encode_lower, encode_with, hex_digit_value, lower_digits, pair_value}
use Rattle.hex.specs.declared.error.FromHexError.{FromHexError}
use Rattle.hex.proofs.HexLemmas.{decode_of-encode_lower, decode_of-even, decode_of-ok, decode_sized-twice, length-encode_with}
use Rattle.hex.proofs.Pairs.{cons_byte, decode_pairs-ok_pair}
use Rattle.saved_text.specs.SavedLines.HexText.{bytes_of, is_hex, is_lower_digit}

-- ---- one digit

-- the digit of a value
abbrev digit : ℕ → ℕ
digit v = cond (nat_lt v 10) (48 + v) (87 + v)

-- the table has it, and it is a digit in lower case
abbrev is_in_table : ℕ → Bool
is_in_table v = (slice_index lower_digits v == digit v) && is_lower_digit (slice_index lower_digits v)

abbrev all_in_table : ℕ → Bool
all_in_table zero = true
all_in_table (suc n) = is_in_table n && all_in_table n

in_table_at : (n v : ℕ) → all_in_table n ≡ true → v < n → is_in_table v ≡ true
in_table_at zero v h lt = absurd (omega arith)
in_table_at (suc n) v h lt =
    let parts = and_parts (is_in_table n) (all_in_table n) h in
    elim (cases_lt v n) [
      | inl below ↦ in_table_at n v parts.1 below
      | inr top ↦
          let e : v ≡ n = omega arith in
          rw e parts.0
    ]

in_table : (v : ℕ) → v < 16 → (slice_index lower_digits v ≡ digit v) × (is_lower_digit (slice_index lower_digits v) ≡ true)
in_table v lt =
    let parts = and_parts (slice_index lower_digits v == digit v) (is_lower_digit (slice_index lower_digits v)) (in_table_at 16 v refl lt) in
    (eqb-true (slice_index lower_digits v) (digit v) parts.0, parts.1)

-- the value of a digit in lower case
abbrev value : ℕ → ℕ
value c = cond (nat_lt c 58) (c - 48) (c - 87)

value_is : (c : ℕ) → is_lower_digit c ≡ true → hex_digit_value c ≡ Some (value c)
value_is c h = grind (arith, nat_tests)

value_small : (c : ℕ) → is_lower_digit c ≡ true → value c < 16
value_small c h = grind (arith, nat_tests)

digit_again : (c : ℕ) → is_lower_digit c ≡ true → digit (value c) ≡ c
digit_again c h = grind (arith, nat_tests)

in_table_again : (c : ℕ) → is_lower_digit c ≡ true → slice_index lower_digits (value c) ≡ c
in_table_again c h = (in_table (value c) (value_small c h)).0 ∙ digit_again c h

-- ---- pairs of digits

pair_is : (i a b : ℕ) → is_lower_digit a ≡ true → is_lower_digit b ≡ true → pair_value a b i ≡ Ok (value a * 16 + value b)
pair_is i a b h k = rw (value_is a h, value_is b k) refl

-- such pairs are bytes in hex
pairs_are : (i : ℕ) (s : List ℕ) → length s % 2 ≡ 0 → list_all is_lower_digit s ≡ true → (bytes : List ℕ) × (decode_pairs i s ≡ Ok bytes) × (s ≡ encode_lower bytes)
unfolding decode_pairs encode_with
pairs_are i [] even h = ([], refl, refl)
pairs_are i (a ∷ []) even h = absurd (omega arith)
pairs_are i (a ∷ b ∷ s) even h =
    let first = and_parts (is_lower_digit a) (list_all is_lower_digit (b ∷ s)) h in
    let second = and_parts (is_lower_digit b) (list_all is_lower_digit s) first.1 in
    let more = pairs_are (i + 2) s (omega arith) second.1 in
    let va = value_small a first.0 in
    let vb = value_small b second.0 in
    let high : (value a * 16 + value b) / 16 ≡ value a = omega arith in
    let low : (value a * 16 + value b) % 16 ≡ value b = omega arith in
    let x : a ≡ slice_index lower_digits ((value a * 16 + value b) / 16) = sym (ap (slice_index lower_digits) high ∙ in_table_again a first.0) in
    let y : b ≡ slice_index lower_digits ((value a * 16 + value b) % 16) = sym (ap (slice_index lower_digits) low ∙ in_table_again b second.0) in (
      (value a * 16 + value b) ∷ more.0,
      decode_pairs-ok_pair i a b (value a * 16 + value b) s (pair_is i a b first.0 second.0) ∙ ap (cons_byte (value a * 16 + value b)) more.1,
      λ j. x j ∷ y j ∷ more.2 j,
    )

-- ---- whole texts

even : (digits : List ℕ) → is_hex digits ≡ true → length digits % 2 ≡ 0
even digits h = eqb-true (length digits % 2) 0 (and_parts (length digits % 2 == 0) (list_all is_lower_digit digits) h).0

-- the digits are the bytes that they give, in hex
pub bytes_of-ok : (digits : List ℕ) → is_hex digits ≡ true → (decode_of digits ≡ Ok (bytes_of digits)) × (digits ≡ encode_lower (bytes_of digits))
bytes_of-ok digits h =
    let p = pairs_are 0 digits (even digits h) (and_parts (length digits % 2 == 0) (list_all is_lower_digit digits) h).1 in
    let ok : decode_of digits ≡ Ok p.0 = decode_of-even digits (even digits h) ∙ p.1 in
    let same : p.0 ≡ bytes_of digits = sym (ap (λ (r : Result (List ℕ) FromHexError). result_unwrap_or r []) ok) in
    (ok ∙ ap Ok same, p.2 ∙ ap encode_lower same)

-- they are bytes, half as many as the digits
pub bytes_of-bytes : (digits : List ℕ) → is_hex digits ≡ true → (length digits ≡ 2 * length (bytes_of digits)) × IsBytes (bytes_of digits)
bytes_of-bytes digits h = let r = decode_of-ok digits (bytes_of digits) (bytes_of-ok digits h).0 in (r.2, r.3)

-- the same into room for as many
pub bytes_of-sized : (digits : List ℕ) (n : ℕ) → is_hex digits ≡ true → length digits ≡ 2 * n → decode_sized digits n ≡ Ok (bytes_of digits)
bytes_of-sized digits n h twice = decode_sized-twice digits n twice ∙ (bytes_of-ok digits h).0

lower_all : (bytes : List ℕ) → ((i : ℕ) → slice_index bytes i < 256) → list_all is_lower_digit (encode_lower bytes) ≡ true
unfolding encode_with
lower_all [] h = refl
lower_all (b ∷ bytes) h =
    let fits : b < 256 = h 0 in
    let x = (in_table (b / 16) (omega arith)).1 in
    let y = (in_table (b % 16) (omega arith)).1 in
    and_from _ _ x (and_from _ _ y (lower_all bytes (λ i. h (suc i))))

-- bytes in hex are hex, and give the bytes
pub is_hex-encode : (bytes : List ℕ) → IsBytes bytes → (is_hex (encode_lower bytes) ≡ true) × (bytes_of (encode_lower bytes) ≡ bytes)
is_hex-encode bytes h =
    let len = length-encode_with lower_digits bytes in
    let two : length (encode_lower bytes) % 2 ≡ 0 = omega (arith, len) in
    let test : (length (encode_lower bytes) % 2 == 0) ≡ true = grind (arith, nat_tests) in
    (and_from _ _ test (lower_all bytes h), ap (λ (r : Result (List ℕ) FromHexError). result_unwrap_or r []) (decode_of-encode_lower bytes h))

-- what decoding into room gave
into_by : (d : Result (List ℕ) FromHexError) (r : Result (Unit {0}) FromHexError) (out bytes : List ℕ) → d ≡ Ok bytes → MatchResult d (λ bs. (r ≡ Ok tt) × (out ≡ bs)) (λ e. r ≡ Err e) → IsOk r × (out ≡ bytes)
into_by (Ok bs) r out bytes e m = let same : bs ≡ bytes = cc in (rw m.0 refl, m.1 ∙ same)
into_by (Err x) r out bytes e m = cc e

pub decoded_into : (digits : List ℕ) (n : ℕ) (r : Result (Unit {0}) FromHexError) (out : List ℕ) → is_hex digits ≡ true → length digits ≡ 2 * n
    → MatchResult (decode_sized digits (length {A = ℕ} (replicate n 0))) (λ bs. (r ≡ Ok tt) × (out ≡ bs)) (λ e. r ≡ Err e) → IsOk r × (out ≡ bytes_of digits)
decoded_into digits n r out h twice m =
    into_by (decode_sized digits (length {A = ℕ} (replicate n 0))) r out (bytes_of digits) (ap (decode_sized digits) (length-replicate {A = ℕ} n 0) ∙ bytes_of-sized digits n h twice) m

-- two digits a byte
pub length-digits : (bytes : List ℕ) → length (encode_lower bytes) ≡ 2 * length bytes
length-digits bytes = length-encode_with lower_digits bytes
