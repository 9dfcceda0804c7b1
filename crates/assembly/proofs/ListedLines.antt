-- The lines of plain code in the listing of its hunk, and their texts there.
use Rattle.std.proofs.Common.{◌≡◌, ◌∙◌, ℕ, zero, suc, ◌+◌, ◌*◌, ◌≤◌, Bool, true, false, cond, Some, None, Option, List, [], ◌∷◌, ◌++◌, length, Result, Ok, Err, refl, sym, ap, subst, arith, append_assoc, length-append, nat_lt}
use Rattle.std.specs.Prelude.{codes, decimal, unwrap_or}
use Rattle.std.specs.List.{AllByRecursion, join_with_byte}
use Rattle.std.proofs.lemmas.Bool.Decides.{nat_tests}
use Rattle.byte_streams.specs.Pieces.{joined}
use Rattle.word_store.specs.Bytes.{byte_at}
use Rattle.module_text.specs.declared.modules.Hunk.{Hunk}
use Rattle.instruction_set.specs.InstructionTable.Table.{Entry, entry}
use Rattle.instruction_set.specs.declared.instruction_table.forms.Form.{Form}
use Rattle.instruction_set.specs.declared.instruction_table.forms.Form.TheVariants.{Plain, Byte, BytePlus, Half, Word, Relative, Indirect, Switch}
use Rattle.instruction_set.specs.OperandForms.Decoded.{decoded}
use Rattle.instruction_set.specs.declared.operand_forms.instructions.DecodeEnd.{DecodeEnd}
use Rattle.instruction_set.specs.declared.operand_forms.instructions.Instr.{Instr}
use Rattle.assembly.specs.AssemblyText.Places.{first_offset}
use Rattle.assembly.specs.ModuleListing.Cover.{Follow, ListedLine, hunk_lines, line_at, lines_between}
use Rattle.assembly.specs.ModuleListing.Lines.{instruction_line}
use Rattle.assembly.specs.ModuleListing.Listing.{listed, listed_as}
use Rattle.assembly.specs.PlainCode.{IsPlainAs, IsPlainAt, IsPlainCode, IsPlainForm}
use Rattle.assembly.specs.Source.{operand_parts, parts_as, source_line}
use Rattle.assembly.proofs.SourcePrograms.{follow_le}

-- ---- the text of a line

abbrev never : ℕ → Type 0
never t = ⊥

-- a name and a number behind an address
number_text : (front name number : List ℕ) → front ++ (32 ∷ (name ++ (32 ∷ (number ++ (10 ∷ []))))) ≡ front ++ (32 ∷ ((name ++ 32 ∷ number) ++ (10 ∷ [])))
number_text front name number = ap (λ (l : List ℕ). front ++ (32 ∷ l)) (sym (append_assoc name (32 ∷ number) (10 ∷ [])))

form_text : (form : Form) (a : ℕ) (name : List ℕ) (i : Instr) → IsPlainForm never form i
    → instruction_line form a name i ≡ joined (decimal a ∷ codes " " ∷ join_with_byte 32 (name ∷ operand_parts form i) ∷ codes "\n" ∷ [])
form_text (Plain k) a name i plain = refl
form_text Byte a name i plain = number_text (decimal a) name (decimal i.operand)
form_text BytePlus a name i plain = number_text (decimal a) name (decimal i.operand)
form_text Half a name i plain = number_text (decimal a) name (decimal i.operand)
form_text Word a name i plain = number_text (decimal a) name (decimal i.operand)
form_text Relative a name i plain = absurd plain
form_text Indirect a name i plain = absurd plain
form_text Switch a name i plain = refl

text_as : (o : Option Entry) (d : Result Instr DecodeEnd) (a byte : ℕ) → IsPlainAs never o d
    → (listed_as o d a byte).text ≡ joined (decimal a ∷ codes " " ∷ join_with_byte 32 (parts_as o d byte) ∷ codes "\n" ∷ [])
text_as (Some row) (Ok i) a byte plain = form_text row.form a row.name i plain
text_as (Some row) (Err e) a byte plain = refl
text_as None (Ok i) a byte plain = refl
text_as None (Err e) a byte plain = refl

pub line_text : (code : ℕ → Option ℕ) (a : ℕ) → IsPlainAt never code a → (listed code a).text ≡ joined (decimal a ∷ codes " " ∷ source_line false code a ∷ codes "\n" ∷ [])
line_text code a plain = text_as (entry (unwrap_or (code a) 0)) (decoded code a) a (unwrap_or (code a) 0) plain

-- ---- the lines in the listing

module _ (code : ℕ → Option ℕ) (end : ℕ) where
  abbrev HasBack : List ListedLine → List ListedLine → Type 0
  HasBack all lines = (back : List ListedLine) × (all ≡ lines ++ back)

  -- lines that follow one another, each of them the listed one, come next
  come_next : (most a b : ℕ) (lines : List ListedLine) → AllByRecursion (λ line. line ≡ line_at code line.offset) lines → Follow a b lines → b ≤ end → end ≤ a + most → HasBack (lines_between code end most a) lines
  come_next most a b [] each follow le enough = (lines_between code end most a, refl)
  come_next zero a b (line ∷ lines) each follow le enough = let rest = follow_le (a + line.length) b lines follow.2 in let some = follow.1 in absurd (omega arith)
  come_next (suc most) a b (line ∷ lines) each follow le enough =
      let rest = follow_le (a + line.length) b lines follow.2 in
      let some = follow.1 in
      let inside : nat_lt a end ≡ true = grind (arith, nat_tests) in
      let here : line_at code a ≡ line = ap (line_at code) (sym follow.0) ∙ sym each.0 in
      let next : a + (listed code a).length ≡ a + line.length = ap (λ (l : ListedLine). a + l.length) here in
      let more = come_next most (a + line.length) b lines each.1 follow.2 le (omega arith) in
      (more.0, rw (inside, next, more.1) (ap (λ (l : ListedLine). l ∷ (lines ++ more.0)) here))

  -- what comes behind lines that follow one another
  come_behind : (most a b c : ℕ) (front rest lines : List ListedLine) → lines_between code end most a ≡ front ++ rest → Follow a b front → end ≤ a + most
      → AllByRecursion (λ line. line ≡ line_at code line.offset) lines → Follow b c lines → c ≤ end → HasBack rest lines
  come_behind most a b c [] rest lines all follow enough each then le =
      subst (λ (l : List ListedLine). HasBack l lines) all (come_next most a c lines each (subst (λ (o : ℕ). Follow o c lines) (sym follow) then) le enough)
  come_behind zero a b c (line ∷ front) rest lines all follow enough each then le = absurd (cc)
  come_behind (suc most) a b c (line ∷ front) rest lines all follow enough each then le = by_place (nat_lt a end) all (λ e. come_behind most (a + line.length) b c front rest lines e follow.2 (omega (arith, follow.1)) each then le)
    where
      by_place : (inside : Bool) → cond inside (line_at code a ∷ lines_between code end most (a + (listed code a).length)) [] ≡ line ∷ (front ++ rest)
          → (lines_between code end most (a + line.length) ≡ front ++ rest → HasBack rest lines) → HasBack rest lines
      by_place true e later =
          let here : line_at code a ≡ line = cc in
          let tail : lines_between code end most (a + (listed code a).length) ≡ front ++ rest = cc in
          later (ap (λ (l : ListedLine). lines_between code end most (a + l.length)) (sym here) ∙ tail)
      by_place false e later = absurd (cc)

pub in_listing : (has_label : ℕ → Bool) (lines : List ListedLine) (h : Hunk) → IsPlainCode has_label lines h → (front rest : List ListedLine) → hunk_lines h.words ≡ front ++ rest → Follow 0 first_offset front
    → (back : List ListedLine) × (rest ≡ lines ++ back)
in_listing has_label lines h p front rest all follow =
    let size : length h.words ≡ length p.code + 2 = ap (λ (l : List ℕ). length l) p.all ∙ omega (arith, length-append p.code (0 ∷ [])) in
    come_behind (byte_at h.words) (4 * length h.words) (4 * length h.words) 0 first_offset (first_offset + 4 * length p.code) front rest lines all follow (omega arith) p.listed p.follow (omega arith)
