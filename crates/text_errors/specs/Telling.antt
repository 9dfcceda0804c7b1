-- What is said of a text that is refused.
use Rattle.std.specs.Prelude.{ℕ, ◌≡◌, Bool, true, false, List, [], ◌++◌, Option, Some, None}
use Rattle.module_text.specs.TextReader.Refusal.{Refusal, refusal}
use Rattle.tool_texts.specs.Reports.{head_text, place_text, shown_text}
use Rattle.tool_texts.specs.Told.{Told}
use Rattle.text_errors.specs.declared.telling.Refusal.{Refusal as KeptRefusal}

-- the refusal that the code keeps
abbrev pub refusal_of : KeptRefusal → Refusal
refusal_of r = refusal r.line r.code

-- the line around the column, and a mark under the column, where there is such a line
abbrev pub line_part : Option (List ℕ) → ℕ → List ℕ
line_part (Some line) column = shown_text line column
line_part None column = []

-- what is said of an error: its place, the words with the code, and the line
abbrev pub said_text : List ℕ → ℕ → ℕ → List ℕ → Option (List ℕ) → ℕ → List ℕ
said_text name line code words shown column =
    place_text name line ++ (head_text words code ++ line_part shown column)

-- A text begins with an error of this line and this code: in some words, and with more after it.
abbrev pub BeginsWith : List ℕ → Refusal → List ℕ → Type 0
BeginsWith name r text =
    (words : List ℕ) × (more : List ℕ) × text ≡ place_text name r.line ++ (head_text words r.code ++ more)

-- Nothing is said of a text that the program takes. Of another, what is said begins with the line and the code of the program's refusal.
abbrev pub IsSaid : List ℕ → Option Refusal → Told → Type 0
IsSaid name None t = t ≡ record { is_wrong = false; bytes = [] }
IsSaid name (Some r) t = t.is_wrong ≡ true × BeginsWith name r t.bytes
