-- Hunks that are plain code: their listing says all that is in them.
use Rattle.std.specs.Prelude.{◌≡◌, ℕ, ◌+◌, ◌*◌, ◌^◌, ◌<◌, ◌≤◌, ◌==◌, Bool, true, List, [], ◌∷◌, ◌++◌, length, Option, Some, Result, Ok, unwrap_or}
use Rattle.std.specs.List.{AllByRecursion, list_any}
use Rattle.word_store.specs.Bytes.{byte_at}
use Rattle.module_text.specs.declared.modules.Hunk.{Hunk}
use Rattle.instruction_set.specs.InstructionTable.Table.{Entry, entry}
use Rattle.instruction_set.specs.declared.instruction_table.forms.Form.{Form}
use Rattle.instruction_set.specs.declared.instruction_table.forms.Form.TheVariants.{Relative, Indirect}
use Rattle.instruction_set.specs.OperandForms.Decoded.{decoded}
use Rattle.instruction_set.specs.declared.operand_forms.instructions.DecodeEnd.{DecodeEnd}
use Rattle.instruction_set.specs.declared.operand_forms.instructions.Instr.{Instr}
use Rattle.assembly.specs.AssemblyText.Places.{first_offset, most_words}
use Rattle.assembly.specs.ModuleListing.Cover.{Follow, ListedLine, line_at}

-- a line with a label is at the offset
abbrev pub IsLabelled : (ℕ → Bool) → List ListedLine → ℕ → Type 0
IsLabelled has_label lines a = (list_any (λ line. line.offset == a) lines ≡ true) × (has_label a ≡ true)

-- an instruction without a target, or with a relative one that is led to
abbrev pub IsPlainForm : (ℕ → Type 0) → Form → Instr → Type 0
IsPlainForm leads Relative i = leads i.target
IsPlainForm leads Indirect i = ⊥
IsPlainForm leads _ i = Unit {0}

-- such an instruction, or a byte that is listed alone
abbrev pub IsPlainAs : (ℕ → Type 0) → Option Entry → Result Instr DecodeEnd → Type 0
IsPlainAs leads (Some row) (Ok i) = IsPlainForm leads row.form i
IsPlainAs leads _ _ = Unit {0}

-- the instruction or the byte at an address is plain: its line says all of it
abbrev pub IsPlainAt : (ℕ → Type 0) → (ℕ → Option ℕ) → ℕ → Type 0
IsPlainAt leads code a = IsPlainAs leads (entry (unwrap_or (code a) 0)) (decoded code a)

-- The hunk is its length, the words of code, and a 0, with nothing to relocate. These lines of its listing begin at the
-- first of the code and end before the 0; none of them has an indirect form, and each relative target is one of them that
-- has a label.
pub record IsPlainCode (has_label : ℕ → Bool) (lines : List ListedLine) (h : Hunk) : Type 0 where
  -- its words of code
  pub code : List ℕ
  -- its length, these and a 0 are all its words
  pub all : h.words ≡ length h.words ∷ code ++ 0 ∷ []
  -- each is a word
  pub are_words : AllByRecursion (λ w. w < 2 ^ 32) h.words
  -- assembly can make so many
  pub fits : length h.words ≤ most_words
  -- nothing is relocated
  pub bare : h.relocations ≡ []
  -- the lines are those of its listing
  pub listed : AllByRecursion (λ line. line ≡ line_at (byte_at h.words) line.offset) lines
  -- they follow one another from the code's first byte to its end
  pub follow : Follow first_offset (first_offset + 4 * length code) lines
  -- none has an indirect form, and each relative target has a label
  pub plain : AllByRecursion (λ line. IsPlainAt (IsLabelled has_label lines) (byte_at h.words) line.offset) lines
