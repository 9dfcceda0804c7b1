-- What a map is: what the lines of its text state.
use Rattle.std.specs.Prelude.{ℕ, ◌≡◌, ◌+◌, false, List, [], ◌∷◌, map, IsTrue, Result, Ok}
use Rattle.std.specs.List.{AllByRecursion, flat_map}
use Rattle.module_text.specs.TextReader.Lines.{lines_of}
use Rattle.module_text.specs.TextReader.Refusal.{Refusal}
use Rattle.module_text.specs.TextReader.Steps.{◌>>=◌}
use Rattle.program_places.specs.MapOfText.{has_words}
use Rattle.program_places.specs.Refusals.{is_cut_off}
use Rattle.program_places.specs.Statements.{statement_of}
use Rattle.program_places.specs.declared.maps.MappedHunk.{MappedHunk}
use Rattle.program_places.specs.declared.maps.MappedLine.{MappedLine}
use Rattle.program_places.specs.declared.maps.PlacedHunk.{PlacedHunk}
use Rattle.program_places.specs.declared.maps.ProgramMap.{ProgramMap}
use Rattle.program_places.specs.declared.statements.Statement.{Statement}
use Rattle.program_places.specs.declared.statements.Statement.TheVariants.{Program, Hunk, Line, At}

-- what lines state, the first of which has this number
abbrev pub statements_from : ℕ → List (List ℕ) → Result (List Statement) Refusal
statements_from n [] = Ok []
statements_from n (line ∷ lines) = do
  statement ← statement_of n line
  statements ← statements_from (n + 1) lines
  Ok (statement ∷ statements)

-- the lines of a hunk's file
abbrev pub line_statements : List ℕ → List MappedLine → List Statement
line_statements name lines = map (λ line. Line name line) lines

-- a hunk: its program, then its words, and then its lines, all with its name
abbrev pub hunk_statements : MappedHunk → List Statement
hunk_statements hunk = Program hunk.name hunk.file ∷ Hunk hunk.name hunk.words ∷ line_statements hunk.name hunk.lines

-- a statement of a hunk, which is any but that of a place
abbrev pub of_hunk : Statement → List Statement
of_hunk (At placed) = []
of_hunk statement = statement ∷ []

-- the place that is stated, if one is
abbrev pub place_of : Statement → List PlacedHunk
place_of (At placed) = placed ∷ []
place_of statement = []

-- The text is this map's: its lines state the hunks, one after another, each of which has words. The places stand anywhere between.
pub record IsMap (text : List ℕ) (m : ProgramMap) : Type 0 where
  -- the last line has a LF
  pub ended : is_cut_off text ≡ false
  -- what its lines state
  pub statements : List Statement
  pub stated : statements_from 1 (lines_of text) ≡ Ok statements
  -- the hunks, in their order
  pub hunks : flat_map of_hunk statements ≡ flat_map hunk_statements m.hunks
  pub words : AllByRecursion (λ hunk. IsTrue (has_words hunk)) m.hunks
  -- the places, in their order
  pub placed : flat_map place_of statements ≡ m.placed
