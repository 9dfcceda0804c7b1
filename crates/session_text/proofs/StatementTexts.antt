-- Statements that are printed.
use Rattle.std.proofs.Common.{◌≡◌, ℕ, zero, suc, ◌<◌, ◌≤◌, ◌^◌, ◌&&◌, true, List, [], ◌∷◌, length, nat_le, refl, arith}
use Rattle.std.specs.Prelude.{decimal}
use Rattle.std.specs.Char.{is_ascii_graphic}
use Rattle.std.specs.List.{list_all}
use Rattle.std.proofs.lemmas.Bool.{and_from, and_parts}
use Rattle.std.proofs.lemmas.Bool.Decides.{nat_tests}
use Rattle.hex.specs.Hex.{IsBytes, encode_lower}
use Rattle.hex.proofs.HexLemmas.{decode_of-encode_lower}
use Rattle.ram_disc.specs.Name.{is_name, is_name_byte}
use Rattle.module_text.proofs.TextReader.NumberLemmas.{decimal_number}
use Rattle.session_text.specs.Canonical.{statement_text}
use Rattle.session_text.specs.Statements.{Statement, File, Task, At, Key, Go, States, is_field, is_text}

-- numbers of ten digits at most, fields, text and a byte
abbrev pub IsPrintable : Statement → Type 0
IsPrintable (File name) = is_field name ≡ true
IsPrintable (Task id pri stack names) =
    (id < 10 ^ 10) × (pri < 10 ^ 10) × (stack < 10 ^ 10) × (1 ≤ length names) × (list_all is_field names ≡ true)
IsPrintable (At step text) = (step < 10 ^ 10) × (is_text text ≡ true)
IsPrintable (Key step byte) = (step < 10 ^ 10) × IsBytes (byte ∷ [])
IsPrintable (Go steps) = steps < 10 ^ 10

-- one byte is bytes
pub IsBytes-one : (byte : ℕ) → byte < 256 → IsBytes (byte ∷ [])
IsBytes-one byte h zero = h
IsBytes-one byte h (suc i) = omega arith

-- its line states it
pub states_text : (x : Statement) → IsPrintable x → States x (statement_text x)
states_text (File name) h = (h, refl)
states_text (Task id pri stack names) h =
    (decimal id, decimal pri, decimal stack, decimal_number id h.0, decimal_number pri h.1, decimal_number stack h.2, h.3, h.4, refl)
states_text (At step text) h = (decimal step, decimal_number step h.0, h.1, refl)
states_text (Key step byte) h = (decimal step, encode_lower (byte ∷ []), decimal_number step h.0, decode_of-encode_lower (byte ∷ []) h.1, refl)
states_text (Go steps) h = (decimal steps, refl, decimal_number steps h)

graphic_name : (bytes : List ℕ) → list_all is_name_byte bytes ≡ true → list_all is_ascii_graphic bytes ≡ true
graphic_name [] h = refl
graphic_name (c ∷ cs) h =
    let p = and_parts (is_name_byte c) (list_all is_name_byte cs) h in
    let b : is_name_byte c ≡ true = p.0 in
    let g : is_ascii_graphic c ≡ true = grind (arith, nat_tests) in
    and_from _ _ g (graphic_name cs p.1)

-- a name is a field
pub is_field-name : (bytes : List ℕ) → is_name bytes ≡ true → is_field bytes ≡ true
is_field-name bytes e =
    let p = and_parts (nat_le 1 (length bytes) && nat_le (length bytes) 12) (list_all is_name_byte bytes) e in
    let q = and_parts (nat_le 1 (length bytes)) (nat_le (length bytes) 12) p.0 in
    and_from _ _ q.0 (graphic_name bytes p.1)

-- and names are fields
pub are_fields-names : (names : List (List ℕ)) → list_all is_name names ≡ true → list_all is_field names ≡ true
are_fields-names [] h = refl
are_fields-names (name ∷ names) h =
    let p = and_parts (is_name name) (list_all is_name names) h in
    and_from _ _ (is_field-name name p.0) (are_fields-names names p.1)
