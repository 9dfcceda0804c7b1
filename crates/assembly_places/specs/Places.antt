-- Where the bytes of each line of an assembly text are.
use Rattle.std.specs.Prelude.{ℕ, ◌+◌, ◌==◌, ◌||◌, Bool, true, false, not, if◌then◌else◌, List, [], ◌∷◌, ◌++◌, length, codes, decimal, is_some, Option, Some, None, Result, Ok, Err}
use Rattle.byte_streams.specs.Pieces.{joined}
use Rattle.module_text.specs.TextReader.Lines.{lines_of}
use Rattle.assembly.specs.AssemblyText.KeptLabels.{layout_of}
use Rattle.assembly.specs.AssemblyText.LineText.{line_of}
use Rattle.assembly.specs.AssemblyText.Places.{place_of}
use Rattle.assembly.specs.AssemblyText.Survey.{Layout, admitted, no_lines, with_line}
use Rattle.assembly.specs.declared.assembly_text.errors.LineError.{LineError}
use Rattle.assembly.specs.declared.assembly_text.statements.Line.{Line}
use Rattle.assembly.specs.declared.assembly_text.statements.Statement.{Statement}
use Rattle.assembly.specs.declared.assembly_text.statements.Statement.TheVariants.{Fixed, Global}
use Rattle.assembly_errors.specs.Reports.{assembly_errors}
use Rattle.tool_texts.specs.Told.{Told}
use Rattle.assembly_places.specs.declared.places.Walk.{Walk}

-- what is known after some lines
pub record Walked : Type 0 where
  -- where they are
  pub layout : Layout
  -- the label that is last, or `-`
  pub label : List ℕ

-- what the code knows
abbrev pub walked_of : Walk → Walked
walked_of w = record { layout = layout_of w.known; label = w.label }

-- before the first line
abbrev pub no_walk : Walked
no_walk = record { layout = no_lines; label = codes "-" }

-- the label that is last after a line
abbrev pub label_after : Option (List ℕ) → List ℕ → List ℕ
label_after (Some label) last = label
label_after None last = last

-- a line that says this gives bytes, or is a boundary
abbrev pub has_bytes : Statement → Bool
has_bytes (Fixed bytes) = not (length bytes == 0)
has_bytes (Global number label) = false
has_bytes _ = true

-- a line has a place
abbrev pub is_placed : Line → Bool
is_placed line = is_some line.label || has_bytes line.statement

-- after a line
abbrev pub line_walked : Walked → Line → Walked
line_walked w line = record { layout = with_line w.layout line; label = label_after line.label w.label }

-- the place of line n, which is at an offset and has this label last
abbrev pub place_text : ℕ → ℕ → List ℕ → List ℕ
place_text n offset label = joined (decimal offset ∷ codes " " ∷ decimal n ∷ codes " " ∷ label ∷ codes "\n" ∷ [])

-- the place of line n, if it has one
abbrev pub line_place : ℕ → Walked → Line → List ℕ
line_place n w line =
    if is_placed line then place_text n (place_of line.statement w.layout.offset) (label_after line.label w.label) else []

-- after a line, by whether it may come next
abbrev pub admitted_walk : Walked → Line → Result Unit LineError → Walked
admitted_walk w line (Ok u) = line_walked w line
admitted_walk w line (Err e) = w

-- after a line that says this
abbrev pub read_walk : Walked → Line → Walked
read_walk w line = admitted_walk w line (admitted w.layout line)

-- the place of line n, by whether it may come next
abbrev pub admitted_place : ℕ → Walked → Line → Result Unit LineError → List ℕ
admitted_place n w line (Ok u) = line_place n w line
admitted_place n w line (Err e) = []

-- the place of line n, which says this
abbrev pub read_place : ℕ → Walked → Line → List ℕ
read_place n w line = admitted_place n w line (admitted w.layout line)

-- after a line that was read, or not
abbrev pub reading_walk : Walked → Result Line LineError → Walked
reading_walk w (Ok line) = read_walk w line
reading_walk w (Err e) = w

-- after a line
abbrev pub walk_line : Walked → List ℕ → Walked
walk_line w text = reading_walk w (line_of text)

-- the place of line n, which was read, or not
abbrev pub reading_place : ℕ → Walked → Result Line LineError → List ℕ
reading_place n w (Ok line) = read_place n w line
reading_place n w (Err e) = []

-- the place of line n
abbrev pub place_line : ℕ → Walked → List ℕ → List ℕ
place_line n w text = reading_place n w (line_of text)

-- the places of the lines from line n on
abbrev pub places_from : ℕ → Walked → List (List ℕ) → List ℕ
places_from n w [] = []
places_from n w (text ∷ texts) = place_line n w text ++ places_from (n + 1) (walk_line w text) texts

-- the places of the lines of a text, by what is wrong in it
abbrev pub places_by : List ℕ → Told → Told
places_by text t = if t.is_wrong then t else record { is_wrong = false; bytes = places_from 1 no_walk (lines_of text) }

-- Where the bytes of each line of a text are, or what is wrong in it; the name is that of the file, or empty.
abbrev pub assembly_places : List ℕ → List ℕ → Told
assembly_places name text = places_by text (assembly_errors name text)
