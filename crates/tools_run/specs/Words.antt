-- Which tool the words of the command line ask for.
use Rattle.std.specs.Prelude.{ℕ, List, [], ◌∷◌, codes, Option, Some, None, if◌then◌else◌}
use Rattle.std.specs.Option.{option_map}
use Rattle.std.specs.Str.{bytes_eq}
use Rattle.tools_run.specs.declared.commands.Asked.{Asked}
use Rattle.tools_run.specs.declared.commands.Tool.{Tool}
use Rattle.tools_run.specs.declared.commands.Tool.TheVariants.{Asm, AsmErrors, AsmNotes, AsmPlaces, Marks, Needs, Partings, Picture, Session, Unasm}

-- the tool that a word is, if it is one
abbrev pub tool_named : List ℕ → Option Tool
tool_named word =
    if bytes_eq word (codes "asm") then Some Asm else
    if bytes_eq word (codes "asm-errors") then Some AsmErrors else
    if bytes_eq word (codes "asm-notes") then Some AsmNotes else
    if bytes_eq word (codes "asm-places") then Some AsmPlaces else
    if bytes_eq word (codes "session") then Some Session else
    if bytes_eq word (codes "picture") then Some Picture else
    if bytes_eq word (codes "marks") then Some Marks else
    if bytes_eq word (codes "unasm") then Some Unasm else
    if bytes_eq word (codes "needs") then Some Needs else
    if bytes_eq word (codes "partings") then Some Partings else
    None

-- a tool, with a name of its input
abbrev pub asked_with_name : List ℕ → List ℕ → Option Asked
asked_with_name word name = option_map (λ tool. record { tool = tool; name = name }) (tool_named word)

-- what all words together ask for, if they ask for something: a tool, and the name of its input, where it has one
abbrev pub asked_of : List (List ℕ) → Option Asked
asked_of (word ∷ []) = asked_with_name word []
asked_of (word ∷ name ∷ []) = asked_with_name word name
asked_of _ = None

-- what is said where the words ask for nothing
abbrev pub usage_text : List ℕ
usage_text = codes "* usage: tripos_tools TOOL or TOOL NAME, where TOOL is asm, asm-errors, asm-notes, asm-places, session, picture, marks, unasm, needs or partings\n"
