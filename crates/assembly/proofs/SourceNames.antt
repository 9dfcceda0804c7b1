-- The names, numbers and labels of a listing, as parts of a line.
use Rattle.std.proofs.Common.{◌≡◌, ◌∙◌, ℕ, pos, ◌-◌, ◌^◌, ◌<◌, Bool, true, false, not, ◌&&◌, ◌==◌, Some, None, Option, List, [], ◌∷◌, ◌++◌, length, drop, refl, sym, ap, subst, arith, nat_lt, nat_le, length-append}
use Rattle.std.specs.Prelude.{codes, decimal, nat_eq}
use Rattle.std.specs.Char.{is_ascii_alphanumeric}
use Rattle.std.specs.List.{AllByRecursion, ends_with, list_all}
use Rattle.std.specs.Option.{option_map, option_map_or}
use Rattle.std.specs.Str.Parse.{AllDigits, digits_value}
use Rattle.std.proofs.Math.Seq.{take-append_seam}
use Rattle.std.proofs.lemmas.Bool.{and_parts, not-true}
use Rattle.std.proofs.lemmas.Bool.Decides.{nat_tests}
use Rattle.std.proofs.lemmas.Fmt.{decimal_is_IsNumeral, length-decimal-le}
use Rattle.std.proofs.lemmas.Str.Parse.{digit_from_value}
use Rattle.module_text.specs.TextReader.Numbers.{number_of as digits_number_of}
use Rattle.module_text.proofs.TextReader.NumberLemmas.{decimal_number, number_in-again}
use Rattle.instruction_set.specs.InstructionTable.Table.{Entry, entry, column0, column1, column2, column3, column4, column5, column6, column7}
use Rattle.instruction_set.proofs.InstructionTable.Entries.{passes_at, passes_below}
use Rattle.assembly.specs.AssemblyText.LineText.{before_colon}
use Rattle.assembly.specs.AssemblyText.Names.{label_of}
use Rattle.assembly.specs.AssemblyText.Numbers.{number_of}
use Rattle.assembly.proofs.AssemblyText.InstructionLemmas.{byte_below}
use Rattle.assembly.specs.Source.{label}
use Rattle.assembly.proofs.LineParts.{IsPart, IsPartByte}
use Rattle.assembly.proofs.AssemblyText.SaidLines.{colon-read}

-- ---- digits

digit_bytes : (digits : List ℕ) → AllDigits 10 digits → AllByRecursion IsPartByte digits
digit_bytes [] h = tt
digit_bytes (c ∷ cs) h =
    let r = digit_from_value c h.0 in
    (((λ e. absurd (omega arith)), (λ e. absurd (omega arith)), (λ e. absurd (omega arith)), (λ e. absurd (omega arith))), digit_bytes cs h.1)

alphanumeric : (digits : List ℕ) → AllDigits 10 digits → list_all is_ascii_alphanumeric digits ≡ true
alphanumeric [] h = refl
alphanumeric (c ∷ cs) h =
    let r = digit_from_value c h.0 in
    let yes : is_ascii_alphanumeric c ≡ true = grind (arith, nat_tests) in
    rw (yes, alphanumeric cs h.1) refl

pub decimal_part : (n : ℕ) → n < 2 ^ 64 → IsPart (decimal n)
decimal_part n lt = let d = (decimal_is_IsNumeral n lt).0 in (d.0, digit_bytes (decimal n) d.1)

no_sign : (digits : List ℕ) → AllDigits 10 digits → 0 < length digits → number_of digits ≡ option_map pos (digits_number_of digits)
no_sign [] h some = absurd (omega arith)
no_sign (c ∷ cs) h some =
    let r = digit_from_value c h.0 in
    let no : (45 == c) ≡ false = grind (arith, nat_tests) in
    rw no refl

pub decimal_read : (n : ℕ) → n < 10 ^ 10 → number_of (decimal n) ≡ Some (pos n)
decimal_read n lt =
    let d = (decimal_is_IsNumeral n (omega arith)).0 in
    no_sign (decimal n) d.1 d.0 ∙ ap (option_map pos) (number_in-again 10 10 (decimal n) n (decimal_number n lt))

pub decimal_same : (m n : ℕ) → m < 2 ^ 64 → n < 2 ^ 64 → decimal m ≡ decimal n → m ≡ n
decimal_same m n p q e = sym (decimal_is_IsNumeral m p).1 ∙ ap (digits_value 10) e ∙ (decimal_is_IsNumeral n q).1

-- ---- labels

L_byte : IsPartByte 76
L_byte = ((λ e. absurd (omega arith)), (λ e. absurd (omega arith)), (λ e. absurd (omega arith)), (λ e. absurd (omega arith)))

colon_byte : IsPartByte 58
colon_byte = ((λ e. absurd (omega arith)), (λ e. absurd (omega arith)), (λ e. absurd (omega arith)), (λ e. absurd (omega arith)))

with_colon : (part : List ℕ) → AllByRecursion IsPartByte part → AllByRecursion IsPartByte (part ++ codes ":")
with_colon [] h = (colon_byte, tt)
with_colon (c ∷ cs) h = (h.0, with_colon cs h.1)

pub label_part : (a : ℕ) → a < 2 ^ 64 → IsPart (label a)
label_part a lt = (omega arith, (L_byte, (decimal_part a lt).1))

pub colon_part : (a : ℕ) → a < 2 ^ 64 → IsPart (label a ++ codes ":")
colon_part a lt = (omega arith, (L_byte, with_colon (decimal a) (decimal_part a lt).1))

pub label_read : (a : ℕ) → a < 10 ^ 10 → label_of (label a) ≡ Some (label a)
label_read a lt =
    let d = (decimal_is_IsNumeral a (omega arith)).0 in
    let short : nat_le (length (decimal a)) 15 ≡ true = let le = length-decimal-le 10 a (omega arith) lt (omega arith) in grind (arith, nat_tests) in
    rw (short, alphanumeric (decimal a) d.1) refl

pub label_same : (a b : ℕ) → a < 2 ^ 64 → b < 2 ^ 64 → label a ≡ label b → a ≡ b
label_same a b p q e = decimal_same a b p q (ap (drop 1) e)

-- ---- the names of the table

abbrev is_part_byte : ℕ → Bool
is_part_byte c = not (c == 10) && (not (c == 13) && (not (c == 32) && not (c == 59)))

abbrev is_part_name : List ℕ → Bool
is_part_name name = nat_lt 0 (length name) && (list_all is_part_byte name && not (ends_with nat_eq name (codes ":")))

abbrev fits : Option Entry → Bool
fits o = option_map_or (λ e. is_part_name e.name) o true

all_fit : passes_below (λ byte. fits (entry byte)) 256 ≡ true
unfolding passes_below entry column0 column1 column2 column3 column4 column5 column6 column7
all_fit = refl

pub tested_bytes : (part : List ℕ) → list_all is_part_byte part ≡ true → AllByRecursion IsPartByte part
tested_bytes [] h = tt
tested_bytes (c ∷ cs) h =
    let p = and_parts (is_part_byte c) (list_all is_part_byte cs) h in
    let a = and_parts (not (c == 10)) (not (c == 13) && (not (c == 32) && not (c == 59))) p.0 in
    let b = and_parts (not (c == 13)) (not (c == 32) && not (c == 59)) a.1 in
    let d = and_parts (not (c == 32)) (not (c == 59)) b.1 in
    let t0 : not (c == 10) ≡ true = a.0 in
    let t1 : not (c == 13) ≡ true = b.0 in
    let t2 : not (c == 32) ≡ true = d.0 in
    let t3 : not (c == 59) ≡ true = d.1 in
    ((grind (arith, nat_tests), grind (arith, nat_tests), grind (arith, nat_tests), grind (arith, nat_tests)), tested_bytes cs p.1)

no_colon : (name : List ℕ) → not (ends_with nat_eq name (codes ":")) ≡ true → before_colon name ≡ None
no_colon name h = rw (not-true (ends_with nat_eq name (codes ":")) h) refl

name_tested : (name : List ℕ) → is_part_name name ≡ true → IsPart name × (before_colon name ≡ None)
name_tested name h =
    let p = and_parts (nat_lt 0 (length name)) (list_all is_part_byte name && not (ends_with nat_eq name (codes ":"))) h in
    let q = and_parts (list_all is_part_byte name) (not (ends_with nat_eq name (codes ":"))) p.1 in
    let some : nat_lt 0 (length name) ≡ true = p.0 in
    ((grind (arith, nat_tests), tested_bytes name q.0), no_colon name q.1)

named : (o : Option Entry) (row : Entry) → o ≡ Some row → fits o ≡ true → is_part_name row.name ≡ true
named None row e h = absurd (cc)
named (Some x) row e h = let same : x ≡ row = cc in subst (λ (r : Entry). is_part_name r.name ≡ true) same h

pub name_part : (byte : ℕ) (row : Entry) → entry byte ≡ Some row → IsPart row.name × (before_colon row.name ≡ None)
name_part byte row e =
    name_tested row.name (named (entry byte) row e (passes_at (λ b. fits (entry b)) 256 byte all_fit (byte_below byte row e)))
