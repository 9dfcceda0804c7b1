-- Each name is once, and is found.
use Rattle.std.proofs.Common.{◌≡◌, ◌≢◌, ◌∙◌, sym, ap, ℕ, Bool, true, false, cond, ◌==◌, inl, inr, Some, None, Option, List, [], ◌∷◌, refl, arith}
use Rattle.std.specs.List.{find, range_with_len}
use Rattle.std.specs.Option.{option_map, option_map_or}
use Rattle.std.specs.Str.{bytes_eq}
use Rattle.std.proofs.lemmas.Bool.{cases_lt}
use Rattle.std.proofs.lemmas.Bool.Decides.{nat_tests}
use Rattle.std.proofs.lemmas.Slice.Eq.{bytes_eq-Decides}
use Rattle.instruction_set.specs.InstructionTable.Table.{Entry, entry, column0, column1, column2, column3, column4, column5, column6, column7}
use Rattle.instruction_set.specs.InstructionTable.Names.{byte_named, has_name, name_at}
use Rattle.instruction_set.specs.InstructionTable.Private.Places.{kept_byte}
use Rattle.instruction_set.proofs.InstructionTable.Entries.{passes_below, passes_at, entry_past}
use Rattle.word_store.proofs.Elements.{find-passes}

-- whether an entry has the name
abbrev named_so : List ℕ → Option Entry → Bool
named_so name o = option_map_or (λ e. bytes_eq e.name name) o false

named_from : (name : List ℕ) (o : Option Entry) → named_so name o ≡ true → option_map (λ e. e.name) o ≡ Some name
named_from name None h = cc
named_from name (Some e) h = ap Some ((bytes_eq-Decides e.name name).0 h)

named_to : (name : List ℕ) (o : Option Entry) → option_map (λ e. e.name) o ≡ Some name → named_so name o ≡ true
named_to name None h = cc
named_to name (Some e) h = (bytes_eq-Decides e.name name).1 (cc)

-- the row of a byte has the name exactly where its test passes
pub has_name_from : (name : List ℕ) (byte : ℕ) → has_name name byte ≡ true → name_at byte ≡ Some name
has_name_from name byte = named_from name (entry byte)

has_name_to : (name : List ℕ) (byte : ℕ) → name_at byte ≡ Some name → has_name name byte ≡ true
has_name_to name byte = named_to name (entry byte)

-- whether the byte is the first with the name of its row
abbrev is_first : ℕ → Bool
is_first byte = option_map_or (λ e. option_map_or (λ b. b == byte) (byte_named e.name) false) (entry byte) true

all_first : passes_below is_first 256 ≡ true
unfolding passes_below entry column0 column1 column2 column3 column4 column5 column6 column7 byte_named
all_first = refl

is_byte : (o : Option ℕ) (byte : ℕ) → option_map_or (λ b. b == byte) o false ≡ true → o ≡ Some byte
is_byte None byte h = cc
is_byte (Some b) byte h = grind (arith, nat_tests)

first_of : (name : List ℕ) (byte : ℕ) (o : Option Entry) → option_map_or (λ e. option_map_or (λ b. b == byte) (byte_named e.name) false) o true ≡ true → option_map (λ e. e.name) o ≡ Some name → byte_named name ≡ Some byte
first_of name byte None h e = cc
first_of name byte (Some row) h e = let same : row.name ≡ name = cc in ap byte_named (sym same) ∙ is_byte (byte_named row.name) byte h

-- the byte of a row is found by the name of the row
pub byte_named_at : (name : List ℕ) (byte : ℕ) → name_at byte ≡ Some name → byte_named name ≡ Some byte
byte_named_at name byte e =
    elim (cases_lt byte 256) [
      | inl lt ↦ first_of name byte (entry byte) (passes_at is_first 256 byte all_first lt) e
      | inr past ↦ let none = entry_past byte past in cc
    ]

-- the row of the byte that is found has the name
pub byte_named_has : (name : List ℕ) (byte : ℕ) → byte_named name ≡ Some byte → name_at byte ≡ Some name
unfolding byte_named
byte_named_has name byte h = has_name_from name byte (find-passes (has_name name) (range_with_len 0 256) byte h)

-- no two rows have one name
pub once : (a b : ℕ) (name : List ℕ) → name_at a ≡ Some name → name_at b ≡ Some name → a ≡ b
once a b name p q = let s = sym (byte_named_at name a p) ∙ byte_named_at name b q in cc

-- ---- the byte that is kept for a name

same_byte : (b byte : ℕ) → (b == byte) ≡ true → b ≡ byte
same_byte b byte h = grind (arith, nat_tests)

-- whether the byte is the one that is kept for the name of its row
abbrev is_kept : ℕ → Bool
is_kept byte = option_map_or (λ e. kept_byte e.name == byte) (entry byte) true

all_kept : passes_below is_kept 256 ≡ true
unfolding passes_below entry column0 column1 column2 column3 column4 column5 column6 column7 kept_byte
all_kept = refl

kept_from : (name : List ℕ) (byte : ℕ) (o : Option Entry) → option_map_or (λ e. kept_byte e.name == byte) o true ≡ true → option_map (λ e. e.name) o ≡ Some name → kept_byte name ≡ byte
kept_from name byte None h e = cc
kept_from name byte (Some row) h e = let same : row.name ≡ name = cc in ap kept_byte (sym same) ∙ same_byte (kept_byte row.name) byte h

-- the byte of a row is kept for the name of the row
kept_at : (name : List ℕ) (byte : ℕ) → name_at byte ≡ Some name → kept_byte name ≡ byte
kept_at name byte e =
    elim (cases_lt byte 256) [
      | inl lt ↦ kept_from name byte (entry byte) (passes_at is_kept 256 byte all_kept lt) e
      | inr past ↦ let none = entry_past byte past in cc
    ]

-- where the row of the byte that is kept for a name has another name, no row has it
pub never_named : (name : List ℕ) → has_name name (kept_byte name) ≡ false → (byte : ℕ) → name_at byte ≢ Some name
never_named name h byte e =
    let passes = has_name_to name byte e in
    let fails : has_name name byte ≡ false = ap (has_name name) (sym (kept_at name byte e)) ∙ h in
    cc

-- a name that no row has is not found
unnamed_from : (name : List ℕ) (o : Option ℕ) → byte_named name ≡ o → ((byte : ℕ) → name_at byte ≢ Some name) → o ≡ None
unnamed_from name None e h = refl
unnamed_from name (Some byte) e h = absurd (h byte (byte_named_has name byte e))

pub unnamed : (name : List ℕ) → ((byte : ℕ) → name_at byte ≢ Some name) → byte_named name ≡ None
unnamed name h = unnamed_from name (byte_named name) refl h
