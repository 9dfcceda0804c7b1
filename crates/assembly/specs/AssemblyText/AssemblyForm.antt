-- What it is that a text assembles to a module, or is refused.
use Rattle.std.specs.Prelude.{ℕ, ◌≡◌, ◌+◌, ◌<◌, ◌≤◌, ◌⊎◌, true, Some, List, [], ◌∷◌, ◌++◌, length, Ok, Err}
use Rattle.std.specs.List.Sorted.{IsStrictlyIncreasing}
use Rattle.std.specs.List.{AllByRecursion, AllZip, filter_map, flat_map, list_any}
use Rattle.std.specs.Str.{bytes_eq}
use Rattle.module_text.specs.declared.modules.Module.{Module}
use Rattle.module_text.specs.TextReader.Lines.{lines_of}
use Rattle.assembly.specs.AssemblyText.Assembly.{module_of}
use Rattle.assembly.specs.AssemblyText.Encoding.{Code}
use Rattle.assembly.specs.AssemblyText.Labels.{Table}
use Rattle.assembly.specs.AssemblyText.LineErrors.{code_of}
use Rattle.assembly.specs.AssemblyText.Pieces.{piece_of}
use Rattle.assembly.specs.AssemblyText.Places.{first_offset, most_words}
use Rattle.assembly.specs.AssemblyText.Program.{IsProgram, IsTable, labels_of, placed, program_size}
use Rattle.assembly.specs.AssemblyText.LineText.{line_of}
use Rattle.assembly.specs.declared.assembly_text.errors.LineError.{LineError}
use Rattle.assembly.specs.declared.assembly_text.errors.LineError.TheVariants.{RepeatedLabel, HunkTooLong}
use Rattle.assembly.specs.declared.assembly_text.pieces.Piece.{Piece}
use Rattle.assembly.specs.declared.assembly_text.statements.Line.{Line}

-- the pieces are what the lines give at their offsets, where the labels name what the table says
abbrev pub AreGiven : Table → List (ℕ × Line) → List Piece → Type 0
AreGiven table lines pieces = AllZip (λ at piece. piece_of table at.0 at.1.statement ≡ Ok piece) lines pieces

-- all bytes, relocations and pairs, in the order of the lines
abbrev pub code_of_pieces : List Piece → Code
code_of_pieces pieces = record {
  bytes = flat_map (λ piece. piece.bytes) pieces;
  relocations = filter_map (λ piece. piece.relocation) pieces;
  pairs = filter_map (λ piece. piece.pair) pieces;
}

-- Some table gives each label its line's place and, with it, each line its bytes at its offset; these are the module's.
pub record Assembles (text : List ℕ) (m : Module) : Type 0 where
  -- what the lines say
  pub program : List Line
  -- the place of each label
  pub table : Table
  -- the bytes, relocations and pairs of each line
  pub pieces : List Piece
  -- the lines are the program
  pub lines : IsProgram (lines_of text) program
  -- the table has its labels
  pub labels : IsTable table program
  -- the lines are given the pieces by the table
  pub given : AreGiven table (placed first_offset program) pieces
  -- the module is made of these
  pub made : m ≡ module_of (code_of_pieces pieces)

-- the relocations of each hunk are in rising order
abbrev pub RelocationsRise : Module → Type 0
RelocationsRise m = AllByRecursion (λ hunk. IsStrictlyIncreasing hunk.relocations) m.hunks

-- the line defines a label that one of these lines defines
pub record RepeatsLabel (program : List Line) (line : Line) : Type 0 where
  -- the label
  pub name : List ℕ
  -- the line defines it
  pub label : line.label ≡ Some name
  -- one of these lines defines it
  pub before : list_any (bytes_eq name) (labels_of program) ≡ true

-- after these lines, the line makes the hunk too long
abbrev pub IsTooMuch : List Line → Line → Type 0
IsTooMuch program line = most_words < program_size (program ++ line ∷ [])

-- the line can be read, and what it says cannot follow these lines
abbrev pub CannotFollow : List Line → List ℕ → LineError → Type 0
CannotFollow program text RepeatedLabel = (line : Line) × (line_of text ≡ Ok line) × RepeatsLabel program line
CannotFollow program text HunkTooLong = (line : Line) × (line_of text ≡ Ok line) × IsTooMuch program line
CannotFollow program text e = ⊥

-- what is wrong with a line after these: it cannot be read, or it cannot follow them
abbrev pub IsWrong : List Line → List ℕ → LineError → Type 0
IsWrong program text e = (line_of text ≡ Err e) ⊎ CannotFollow program text e

-- The lines before line n are right, and line n is not: e has the lowest code of what is wrong with it.
pub record IsBadLine (text : List ℕ) (n : ℕ) (e : LineError) : Type 0 where
  -- the lines before it
  pub front : List (List ℕ)
  -- the line
  pub line : List ℕ
  -- the lines after it
  pub rest : List (List ℕ)
  -- what the lines before it say
  pub program : List Line
  -- these are all lines
  pub all : lines_of text ≡ front ++ line ∷ rest
  -- its number, from 1
  pub number : n ≡ length front + 1
  -- the lines before it are right
  pub before : IsProgram front program
  -- it is wrong in this way
  pub wrong : IsWrong program line e
  -- and in none with a lower code
  pub lowest : (d : LineError) → IsWrong program line d → code_of e ≤ code_of d

-- No line is wrong in itself. Those before line n are given their bytes, and line n is not.
pub record IsBadOperand (text : List ℕ) (n : ℕ) (e : LineError) : Type 0 where
  -- what the lines say
  pub program : List Line
  -- the place of each label
  pub table : Table
  -- what the lines before it are given
  pub pieces : List Piece
  -- the lines before it, each with its offset in bytes
  pub front : List (ℕ × Line)
  -- the line, with its offset
  pub line : ℕ × Line
  -- the lines after it
  pub rest : List (ℕ × Line)
  -- the lines are the program
  pub lines : IsProgram (lines_of text) program
  -- the table has its labels
  pub labels : IsTable table program
  -- these are all lines
  pub all : placed first_offset program ≡ front ++ line ∷ rest
  -- its number, from 1
  pub number : n ≡ length front + 1
  -- the lines before it are given their pieces
  pub before : AreGiven table front pieces
  -- it is refused its piece
  pub wrong : piece_of table line.0 line.1.statement ≡ Err e

-- the text is refused at line n with that code
abbrev pub IsRefused : List ℕ → ℕ → ℕ → Type 0
IsRefused text n code = (e : LineError) × (code ≡ code_of e) × (IsBadLine text n e ⊎ IsBadOperand text n e)
