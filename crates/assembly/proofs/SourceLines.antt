-- Each line of a source text, read: what it says, and the bytes that it gives.
use Rattle.std.proofs.Common.{◌≡◌, ◌≢◌, ◌∙◌, ℕ, pos, negsuc, ◌+◌, ◌-◌, ◌*◌, ◌%◌, ◌^◌, ◌<◌, ◌≤◌, inl, inr, Bool, true, false, cond, Some, None, Option, List, [], ◌∷◌, ◌++◌, length, Result, Ok, Err, refl, sym, ap, subst, arith, nat_le, nat_lt}
use Rattle.std.specs.Prelude.{codes, decimal, unwrap_or}
use Rattle.std.specs.List.{AllByRecursion, join_with_byte}
use Rattle.std.proofs.lemmas.Bool.{cases_lt}
use Rattle.std.proofs.lemmas.Bool.Decides.{nat_tests}
use Rattle.word_store.specs.Arithmetic.{add}
use Rattle.instruction_set.specs.InstructionTable.Operand.{HasRoom, low_bytes, operand_bytes, operand_size}
use Rattle.instruction_set.specs.InstructionTable.Table.{Entry, entry}
use Rattle.instruction_set.specs.declared.instruction_table.forms.Form.{Form}
use Rattle.instruction_set.specs.declared.instruction_table.forms.Form.TheVariants.{Plain, Byte, BytePlus, Half, Word, Relative, Indirect, Switch}
use Rattle.instruction_set.specs.OperandForms.Decoded.{decoded}
use Rattle.instruction_set.specs.OperandForms.Offset.{byte_offset}
use Rattle.instruction_set.specs.declared.operand_forms.instructions.DecodeEnd.{DecodeEnd}
use Rattle.instruction_set.specs.declared.operand_forms.instructions.Instr.{Instr}
use Rattle.instruction_set.proofs.OperandForms.Inversion.{number_back, parts_of, relative_back}
use Rattle.assembly.specs.AssemblyText.InstructionOperands.{operands_with}
use Rattle.assembly.specs.AssemblyText.Labels.{Table}
use Rattle.assembly.specs.AssemblyText.LineText.{before_colon, line_of, instruction, line_of_parts, statement_named, statement_of}
use Rattle.assembly.specs.AssemblyText.Numbers.{is_from_to, word_of}
use Rattle.assembly.specs.AssemblyText.Operands.{operands_of}
use Rattle.assembly.specs.AssemblyText.Pieces.{distance, piece_of, plain}
use Rattle.assembly.specs.AssemblyText.Places.{end_of, pairs_of, place_of}
use Rattle.assembly.specs.declared.assembly_text.operands.Operands.TheVariants.{Label, Number}
use Rattle.assembly.specs.declared.assembly_text.places.Place.{Place}
use Rattle.assembly.specs.declared.assembly_text.statements.Line.{Line}
use Rattle.assembly.specs.declared.assembly_text.statements.Statement.{Statement}
use Rattle.assembly.specs.declared.assembly_text.statements.Statement.TheVariants as says
use Rattle.assembly.proofs.AssemblyText.InstructionLemmas.{made, statement_of_row}
use Rattle.assembly.specs.ModuleListing.Listing.{listed, listed_as}
use Rattle.assembly.specs.PlainCode.{IsPlainAs, IsPlainAt, IsPlainForm}
use Rattle.assembly.specs.Source.{label, operand_parts, parts_as, parts_at}
use Rattle.assembly.proofs.CodeBytes.{bytes_from, bytes_from_place}
use Rattle.assembly.proofs.LineParts.{IsPart, parts_read}
use Rattle.assembly.proofs.SourceNames.{colon_part, decimal_part, decimal_read, label_part, label_read, name_part, tested_bytes}
use Rattle.assembly.proofs.AssemblyText.SaidLines.{colon-read}

-- the table has the label of the offset, there
abbrev pub HasLabel : Table → ℕ → Type 0
HasLabel table t = (place : Place) × (table (label t) ≡ Some place) × (place.offset ≡ t)

-- the name and the operand of a line
pub record IsNamed (parts : List (List ℕ)) (s : Statement) : Type 0 where
  pub name : List ℕ
  pub rest : List (List ℕ)
  pub all : parts ≡ name ∷ rest
  pub are_parts : AllByRecursion IsPart parts
  pub no_label : before_colon name ≡ None
  pub read : statement_of parts ≡ Ok s

-- Parts that are read as a statement, which is where it is put and gives so many bytes of the code, where the table has
-- what it leads to.
pub record IsSaid (code : ℕ → Option ℕ) (leads : ℕ → Type 0) (a size : ℕ) (parts : List (List ℕ)) : Type 0 where
  pub statement : Statement
  pub named : IsNamed parts statement
  pub place : place_of statement a ≡ a
  pub no_pair : pairs_of statement ≡ 0
  pub ends : end_of statement a ≡ a + size
  pub given : (table : Table) → ((t : ℕ) → leads t → HasLabel table t) → piece_of table a statement ≡ Ok (plain (bytes_from code size a))

-- ---- the line

-- a line with this label, or with none
abbrev pub line_with : Bool → ℕ → Statement → Line
line_with has_label a s = record { label = cond has_label (Some (label a)) None; statement = s }

parts_with : (has_label : Bool) (a : ℕ) (parts : List (List ℕ)) → a < 10 ^ 10 → AllByRecursion IsPart parts → AllByRecursion IsPart (cond has_label ((label a ++ codes ":") ∷ parts) parts)
parts_with true a parts lt h = (colon_part a (omega arith), h)
parts_with false a parts lt h = h

line_with_label : (a : ℕ) (parts : List (List ℕ)) (s : Statement) → a < 10 ^ 10 → IsNamed parts s → line_of_parts ((label a ++ codes ":") ∷ parts) ≡ Ok (line_with true a s)
line_with_label a parts s lt h = rw (colon-read (label a), label_read a lt, h.read) refl

line_without : (a : ℕ) (parts : List (List ℕ)) (s : Statement) → IsNamed parts s → line_of_parts parts ≡ Ok (line_with false a s)
line_without a parts s h =
    let read : statement_of (h.name ∷ h.rest) ≡ Ok s = ap statement_of (sym h.all) ∙ h.read in
    ap line_of_parts h.all ∙ rw (h.no_label, read) refl

line_by : (has_label : Bool) (a : ℕ) (parts : List (List ℕ)) (s : Statement) → a < 10 ^ 10 → IsNamed parts s → line_of_parts (cond has_label ((label a ++ codes ":") ∷ parts) parts) ≡ Ok (line_with has_label a s)
line_by true a parts s lt h = line_with_label a parts s lt h
line_by false a parts s lt h = line_without a parts s h

pub line_parts : (has_label : Bool) (a : ℕ) (parts : List (List ℕ)) (s : Statement) → a < 10 ^ 10 → IsNamed parts s → AllByRecursion IsPart (cond has_label ((label a ++ codes ":") ∷ parts) parts)
line_parts has_label a parts s lt h = parts_with has_label a parts lt h.are_parts

pub line_read : (has_label : Bool) (a : ℕ) (parts : List (List ℕ)) (s : Statement) → a < 10 ^ 10 → IsNamed parts s
    → line_of (join_with_byte 32 (cond has_label ((label a ++ codes ":") ∷ parts) parts)) ≡ Ok (line_with has_label a s)
unfolding line_of
line_read has_label a parts s lt h =
    ap line_of_parts (parts_read (cond has_label ((label a ++ codes ":") ∷ parts) parts) (line_parts has_label a parts s lt h)) ∙ line_by has_label a parts s lt h

-- ---- what a statement gives

fixed_piece : (table : Table) (a : ℕ) (bytes : List ℕ) → piece_of table a (says.Fixed bytes) ≡ Ok (plain bytes)
unfolding piece_of
fixed_piece table a bytes = refl

relative_piece : (table : Table) (a byte b : ℕ) (label : List ℕ) (place : Place) → table label ≡ Some place → distance 128 (a + 1) place.offset ≡ Ok b → piece_of table a (says.Relative byte label) ≡ Ok (plain (byte ∷ b ∷ []))
unfolding piece_of
relative_piece table a byte b label place found near = rw (found, near) refl

in_reach : (from to b : ℕ) → from ≤ to + 128 → to < from + 128 → (to + 2 * 128 - from) % (2 * 128) ≡ b → distance 128 from to ≡ Ok b
in_reach from to b low high e =
    let above : nat_le from (to + 128) ≡ true = grind (arith, nat_tests) in
    let below : nat_lt to (from + 128) ≡ true = grind (arith, nat_tests) in
    rw (above, below, e) refl

-- a byte leads to the target from which it was decoded
byte_reaches : (a b t : ℕ) → a < 2 ^ 30 → b < 256 → t < 2 ^ 30 → t ≡ add (add a 1) (byte_offset b) → distance 128 (a + 1) t ≡ Ok b
byte_reaches a b t small lt near e =
    elim (cases_lt b 128) [
      | inl low ↦
          let yes : nat_lt b 128 ≡ true = grind (arith, nat_tests) in
          let offset : byte_offset b ≡ b = rw yes (omega arith) in
          let at : t ≡ a + 1 + b = omega (arith, offset) in
          in_reach (a + 1) t b (omega arith) (omega arith) (omega arith)
      | inr high ↦
          let no : nat_lt b 128 ≡ false = grind (arith, nat_tests) in
          let offset : byte_offset b ≡ 2 ^ 32 - 256 + b = rw no (omega arith) in
          let at : t + 256 ≡ a + 1 + b = omega (arith, offset) in
          in_reach (a + 1) t b (omega arith) (omega arith) (omega arith)
    ]

-- ---- a byte alone

byte_named : (byte : ℕ) → byte < 256 → IsNamed (codes "DB" ∷ decimal byte ∷ []) (says.Fixed (byte ∷ []))
byte_named byte lt =
    let inside : is_from_to (negsuc 127) (pos 255) (pos byte) ≡ true = grind (arith, nat_tests) in
    let low : low_bytes 1 (word_of (pos byte)) ≡ byte ∷ [] = ap (λ (b : ℕ). b ∷ []) (omega arith) in
    record {
      name = codes "DB";
      rest = decimal byte ∷ [];
      all = refl;
      are_parts = ((omega arith, tested_bytes (codes "DB") refl), (decimal_part byte (omega arith), tt));
      no_label = refl;
      read = rw (decimal_read byte (omega arith), inside, low) refl;
    }

byte_said : (code : ℕ → Option ℕ) (leads : ℕ → Type 0) (a : ℕ) → unwrap_or (code a) 0 < 256 → IsSaid code leads a 1 (codes "DB" ∷ decimal (unwrap_or (code a) 0) ∷ [])
byte_said code leads a lt = record {
  statement = says.Fixed (unwrap_or (code a) 0 ∷ []);
  named = byte_named (unwrap_or (code a) 0) lt;
  place = refl;
  no_pair = refl;
  ends = refl;
  given = λ table has. fixed_piece table a (unwrap_or (code a) 0 ∷ []);
}

-- ---- an instruction with a number

pub record AreOperands (form : Form) (i : Instr) : Type 0 where
  pub read : operands_of (operand_parts form i) ≡ operands_with form i.operand
  pub are_parts : AllByRecursion IsPart (operand_parts form i)

one_number : (form : Form) (i : Instr) (n : ℕ) → operand_parts form i ≡ decimal n ∷ [] → operands_with form i.operand ≡ Number (pos n) → n < 10 ^ 10 → AreOperands form i
one_number form i n parts with_it lt = record {
  read = ap operands_of parts ∙ rw (decimal_read n lt, with_it) refl;
  are_parts = subst (AllByRecursion IsPart) (sym parts) (decimal_part n (omega arith), tt);
}

number_operands : (form : Form) (i : Instr) → HasRoom form i.operand → AreOperands form i
number_operands (Plain k) i room = record { read = refl; are_parts = tt }
number_operands Byte i room = one_number Byte i i.operand refl refl (omega arith)
number_operands BytePlus i room = one_number BytePlus i i.operand refl refl (omega arith)
number_operands Half i room = one_number Half i i.operand refl refl (omega arith)
number_operands Word i room = one_number Word i i.operand refl refl (omega arith)
number_operands Relative i room = absurd room
number_operands Indirect i room = absurd room
number_operands Switch i room = record { read = refl; are_parts = tt }

length-operand_bytes : (form : Form) (n : ℕ) → length (operand_bytes form n) ≡ operand_size form
length-operand_bytes (Plain k) n = refl
length-operand_bytes Byte n = refl
length-operand_bytes BytePlus n = refl
length-operand_bytes Half n = refl
length-operand_bytes Word n = refl
length-operand_bytes Relative n = refl
length-operand_bytes Indirect n = refl
length-operand_bytes Switch n = refl

size_small : (form : Form) → operand_size form ≤ 4
size_small (Plain k) = omega arith
size_small Byte = omega arith
size_small BytePlus = omega arith
size_small Half = omega arith
size_small Word = omega arith
size_small Relative = omega arith
size_small Indirect = omega arith
size_small Switch = omega arith

-- ---- in code of bytes, whose targets are near

module _ (code : ℕ → Option ℕ) (leads : ℕ → Type 0) (are_bytes : (a b : ℕ) → code a ≡ Some b → b < 256) (near : (t : ℕ) → leads t → t < 2 ^ 30) where
  number_said : (a : ℕ) (i : Instr) (row : Entry) → a < 2 ^ 30 → decoded code a ≡ Ok i → entry i.byte ≡ Some row → row.form ≢ Relative → row.form ≢ Indirect → IsSaid code leads a i.length (row.name ∷ operand_parts row.form i)
  number_said a i row small h e r x =
      let back = number_back code are_bytes a i row h e r x in
      let bytes = i.byte ∷ operand_bytes row.form i.operand in
      let size : length bytes ≡ i.length = omega (arith, back.2, length-operand_bytes row.form i.operand) in
      let few = size_small row.form in
      let here : bytes ≡ bytes_from code i.length a = bytes_from_place code a bytes (omega (arith, length-operand_bytes row.form i.operand)) back.1 ∙ ap (λ (n : ℕ). bytes_from code n a) size in
      let operands = number_operands row.form i back.0 in
      let named = name_part i.byte row e in
      record {
        statement = says.Fixed bytes;
        named = record {
          name = row.name;
          rest = operand_parts row.form i;
          all = refl;
          are_parts = (named.0, operands.are_parts);
          no_label = named.1;
          read = ap (statement_named row.name) operands.read ∙ made i.byte i.operand row e back.0;
        };
        place = refl;
        no_pair = refl;
        ends = ap (λ (n : ℕ). a + n) size;
        given = λ table has. fixed_piece table a bytes ∙ ap (λ (l : List ℕ). Ok (plain l)) here;
      }

  label_operand_read : (t : ℕ) → t < 10 ^ 10 → operands_of (label t ∷ []) ≡ Label (label t)
  label_operand_read t lt = rw (label_read t lt) refl

  relative_read : (i : Instr) (row : Entry) → entry i.byte ≡ Some row → row.form ≡ Relative → i.target < 10 ^ 10 → statement_named row.name (operands_of (label i.target ∷ [])) ≡ Ok (says.Relative i.byte (label i.target))
  relative_read i row e f lt =
      ap (statement_named row.name) (label_operand_read i.target lt) ∙ statement_of_row i.byte row (Label (label i.target)) e ∙ ap (λ (form : Form). instruction i.byte form (Label (label i.target))) f

  relative_said : (a : ℕ) (i : Instr) (row : Entry) → a < 2 ^ 30 → decoded code a ≡ Ok i → entry i.byte ≡ Some row → row.form ≡ Relative → leads i.target → IsSaid code leads a i.length (row.name ∷ operand_parts row.form i)
  relative_said a i row small h e f to =
      let back = relative_back code are_bytes a i row h e f in
      let lt = near i.target to in
      let bytes = i.byte ∷ back.0 ∷ [] in
      let size : 2 ≡ i.length = sym back.4 in
      let here : bytes ≡ bytes_from code i.length a = bytes_from_place code a bytes (omega arith) back.2 ∙ ap (λ (n : ℕ). bytes_from code n a) size in
      let named = name_part i.byte row e in
      let parts : label i.target ∷ [] ≡ operand_parts row.form i = ap (λ (form : Form). operand_parts form i) (sym f) in
      record {
        statement = says.Relative i.byte (label i.target);
        named = record {
          name = row.name;
          rest = operand_parts row.form i;
          all = refl;
          are_parts = (named.0, subst (AllByRecursion IsPart) parts (label_part i.target (omega arith), tt));
          no_label = named.1;
          read = ap (λ (l : List (List ℕ)). statement_named row.name (operands_of l)) (sym parts) ∙ relative_read i row e f (omega arith);
        };
        place = refl;
        no_pair = refl;
        ends = ap (λ (n : ℕ). a + n) size;
        given = λ table has.
            let at = has i.target to in
            let reach : distance 128 (a + 1) at.0.offset ≡ Ok back.0 = ap (distance 128 (a + 1)) at.2 ∙ byte_reaches a back.0 i.target small back.1 lt back.3 in
            relative_piece table a i.byte back.0 (label i.target) at.0 at.1 reach ∙ ap (λ (l : List ℕ). Ok (plain l)) here;
      }

  -- by its form
  form_said : (a : ℕ) (i : Instr) (row : Entry) (form : Form) → a < 2 ^ 30 → decoded code a ≡ Ok i → entry i.byte ≡ Some row → row.form ≡ form → IsPlainForm leads form i → IsSaid code leads a i.length (row.name ∷ operand_parts row.form i)
  form_said a i row Relative small h e f plain = relative_said a i row small h e f plain
  form_said a i row Indirect small h e f plain = absurd plain
  form_said a i row form small h e f plain = number_said a i row small h e (λ r. cc (sym f ∙ r)) (λ x. cc (sym f ∙ x))

  -- by what is decoded
  said_as : (a byte : ℕ) (o : Option Entry) (d : Result Instr DecodeEnd) → a < 2 ^ 30 → byte ≡ unwrap_or (code a) 0 → byte < 256 → entry byte ≡ o → decoded code a ≡ d → IsPlainAs leads o d → IsSaid code leads a (listed_as o d a byte).length (parts_as o d byte)
  said_as a byte (Some row) (Ok i) small at lt e h plain =
      let byte_there = (parts_of code a i h).byte_found in
      let same : byte ≡ i.byte = at ∙ ap (λ (o : Option ℕ). unwrap_or o 0) byte_there in
      form_said a i row row.form small h (ap entry (sym same) ∙ e) refl plain
  said_as a byte (Some row) (Err end) small at lt e h plain = rw at (byte_said code leads a (subst (λ (b : ℕ). b < 256) at lt))
  said_as a byte None (Ok i) small at lt e h plain = rw at (byte_said code leads a (subst (λ (b : ℕ). b < 256) at lt))
  said_as a byte None (Err end) small at lt e h plain = rw at (byte_said code leads a (subst (λ (b : ℕ). b < 256) at lt))

  byte_low : (o : Option ℕ) → ((b : ℕ) → o ≡ Some b → b < 256) → unwrap_or o 0 < 256
  byte_low None h = omega arith
  byte_low (Some b) h = h b refl

  pub said_at : (a : ℕ) → a < 2 ^ 30 → IsPlainAt leads code a → IsSaid code leads a (listed code a).length (parts_at code a)
  said_at a small plain =
      let byte = unwrap_or (code a) 0 in
      said_as a byte (entry byte) (decoded code a) small refl (byte_low (code a) (are_bytes a)) refl refl plain
