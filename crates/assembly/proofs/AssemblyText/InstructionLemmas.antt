-- What the names of the table and numbers make.
use Rattle.std.proofs.Common.{◌≡◌, ◌∙◌, ap, ℕ, pos, negsuc, ◌<◌, Bool, true, ◌&&◌, inl, inr, Some, None, Option, List, ◌∷◌, Result, Ok, refl, subst, arith}
use Rattle.std.specs.Option.{is_none, option_map, option_map_or}
use Rattle.std.proofs.lemmas.Bool.{and_parts, cases_lt}
use Rattle.std.proofs.lemmas.Bool.Decides.{nat_tests}
use Rattle.instruction_set.specs.InstructionTable.Names.{byte_named}
use Rattle.instruction_set.specs.InstructionTable.Operand.{HasRoom, operand_bytes}
use Rattle.instruction_set.specs.InstructionTable.Table.{Entry, entry, column0, column1, column2, column3, column4, column5, column6, column7}
use Rattle.instruction_set.specs.declared.instruction_table.forms.Form.{Form}
use Rattle.instruction_set.specs.declared.instruction_table.forms.Form.TheVariants.{Plain, Byte, BytePlus, Half, Word, Relative, Indirect, Switch}
use Rattle.instruction_set.proofs.InstructionTable.Entries.{entry_past, passes_at, passes_below}
use Rattle.instruction_set.proofs.InstructionTable.NameLemmas.{byte_named_at}
use Rattle.instruction_set.specs.OperandForms.Decoded.{decoded}
use Rattle.instruction_set.specs.OperandForms.BytesAt.{HasBytesAt, with_number}
use Rattle.instruction_set.proofs.OperandForms.Encoding.{number_decoded}
use Rattle.assembly.specs.AssemblyText.Directives.{directive_named}
use Rattle.assembly.specs.AssemblyText.InstructionOperands.{operands_with}
use Rattle.assembly.specs.AssemblyText.Names.{has_name_form}
use Rattle.assembly.specs.AssemblyText.Numbers.{is_from_to, word_of}
use Rattle.assembly.specs.AssemblyText.LineText.{instruction, instruction_named, statement_named}
use Rattle.assembly.specs.declared.assembly_text.errors.LineError.{LineError}
use Rattle.assembly.specs.declared.assembly_text.operands.Operands.{Operands}
use Rattle.assembly.specs.declared.assembly_text.statements.Statement.{Statement}
use Rattle.assembly.specs.declared.assembly_text.statements.Statement.TheVariants.{Fixed}

-- ---- each name of the table is a name, and no directive's

abbrev is_instruction_name : List ℕ → Bool
is_instruction_name name = has_name_form name && is_none (directive_named name)

abbrev fits : Option Entry → Bool
fits o = option_map_or (λ e. is_instruction_name e.name) o true

all_fit : passes_below (λ byte. fits (entry byte)) 256 ≡ true
unfolding passes_below entry column0 column1 column2 column3 column4 column5 column6 column7
all_fit = refl

pub byte_below : (byte : ℕ) (row : Entry) → entry byte ≡ Some row → byte < 256
byte_below byte row e = elim (cases_lt byte 256) [ inl lt ↦ lt | inr past ↦ let none = entry_past byte past in absurd (cc) ]

name_fits : (o : Option Entry) (row : Entry) → o ≡ Some row → fits o ≡ true → is_instruction_name row.name ≡ true
name_fits None row e h = absurd (cc)
name_fits (Some x) row e h = let same : x ≡ row = cc in subst (λ (r : Entry). is_instruction_name r.name ≡ true) same h

is_none_from : {A : Type 0} (o : Option A) → is_none o ≡ true → o ≡ None
is_none_from None h = refl
is_none_from (Some x) h = absurd (cc)

-- ---- the instruction of a name

named_from : (name : List ℕ) (byte : ℕ) (row : Entry) → byte_named name ≡ Some byte → entry byte ≡ Some row → instruction_named name ≡ Some (byte, row.form)
named_from name byte row b e = rw (b, e) refl

named : (byte : ℕ) (row : Entry) → entry byte ≡ Some row → instruction_named row.name ≡ Some (byte, row.form)
named byte row e = named_from row.name byte row (byte_named_at row.name byte (ap (option_map (λ r. r.name)) e)) e

-- ---- its bytes

with_room : (byte n : ℕ) (form : Form) → HasRoom form n → instruction byte form (operands_with form n) ≡ Ok (Fixed (byte ∷ operand_bytes form n))
with_room byte n (Plain k) h = refl
with_room byte n Byte h =
    let inside : is_from_to (pos 0) (pos 255) (pos n) ≡ true = grind (arith, nat_tests) in
    let same : word_of (pos n) ≡ n = omega arith in
    rw (inside, same) refl
with_room byte n BytePlus h =
    let inside : is_from_to (pos 256) (pos 511) (pos n) ≡ true = grind (arith, nat_tests) in
    let same : word_of (pos n) ≡ n = omega arith in
    rw (inside, same) refl
with_room byte n Half h =
    let inside : is_from_to (pos 0) (pos 65535) (pos n) ≡ true = grind (arith, nat_tests) in
    let same : word_of (pos n) ≡ n = omega arith in
    rw (inside, same) refl
with_room byte n Word h =
    let inside : is_from_to (negsuc 2147483647) (pos 4294967295) (pos n) ≡ true = grind (arith, nat_tests) in
    let same : word_of (pos n) ≡ n = omega arith in
    rw (inside, same) refl
with_room byte n Relative h = absurd h
with_room byte n Indirect h = absurd h
with_room byte n Switch h = refl

-- the name of a row stands for its instruction, whatever its operands are
pub statement_of_row : (byte : ℕ) (row : Entry) (operands : Operands) → entry byte ≡ Some row → statement_named row.name operands ≡ instruction byte row.form operands
statement_of_row byte row operands e =
    let tests = name_fits (entry byte) row e (passes_at (λ b. fits (entry b)) 256 byte all_fit (byte_below byte row e)) in
    let p = and_parts (has_name_form row.name) (is_none (directive_named row.name)) tests in
    let directive = is_none_from (directive_named row.name) p.1 in
    let instr = named byte row e in
    rw (p.0, directive, instr) refl

pub made : (byte n : ℕ) (row : Entry) → entry byte ≡ Some row → HasRoom row.form n → statement_named row.name (operands_with row.form n) ≡ Ok (Fixed (byte ∷ operand_bytes row.form n))
made byte n row e h = statement_of_row byte row (operands_with row.form n) e ∙ with_room byte n row.form h

bytes_of : (a b : List ℕ) (r : Result Statement LineError) → r ≡ Ok (Fixed a) → r ≡ Ok (Fixed b) → a ≡ b
bytes_of a b r p q = cc

pub decoded_again : (code : ℕ → Option ℕ) (pc byte n : ℕ) (row : Entry) (bytes : List ℕ) → entry byte ≡ Some row → HasRoom row.form n → statement_named row.name (operands_with row.form n) ≡ Ok (Fixed bytes) → HasBytesAt code pc bytes → decoded code pc ≡ Ok (with_number byte row n)
decoded_again code pc byte n row bytes e h s bytes_there =
    let same = bytes_of bytes (byte ∷ operand_bytes row.form n) (statement_named row.name (operands_with row.form n)) s (made byte n row e h) in
    number_decoded code pc byte n row e h (subst (HasBytesAt code pc) same bytes_there)
