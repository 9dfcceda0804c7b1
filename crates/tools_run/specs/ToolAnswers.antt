-- The answer of a tool to a text.
use Rattle.std.specs.Prelude.{ℕ, ◌≡◌, Bool, true, false, List, Option, Some, None}
use Rattle.tool_texts.specs.Told.{Told}
use Rattle.assembly_errors.specs.Reports.{assembly_errors}
use Rattle.assembly_notes.specs.Notes.{assembly_notes}
use Rattle.assembly_places.specs.Places.{assembly_places}
use Rattle.friendly_assembly.specs.PlainText.{friendly_told}
use Rattle.program_answers.specs.Answer.{Answer}
use Rattle.session_making.specs.Tool.{session_told}
use Rattle.module_code.specs.ReadBack.{ReadsBack}
use Rattle.told_answers.specs.ToldAnswers.{IsToldBy, told_answer}
use Rattle.tools_run.specs.declared.commands.Asked.{Asked}
use Rattle.tools_run.specs.declared.commands.Tool.{Tool}
use Rattle.tools_run.specs.declared.commands.Tool.TheVariants.{Asm, AsmErrors, AsmNotes, AsmPlaces, Marks, Needs, Partings, Picture, Session, Unasm}

-- what a tool gives of a text with this name, where a definition says it: a picture is drawn as it is, marks are told as they are, and so are what a
-- module is read back as and where two runs part
abbrev pub told : Tool → List ℕ → List ℕ → Option Told
told Asm name text = Some (friendly_told name text)
told AsmErrors name text = Some (assembly_errors name text)
told AsmNotes name text = Some (assembly_notes name text)
told AsmPlaces name text = Some (assembly_places name text)
told Session name text = Some (session_told text)
told Picture name text = None
told Marks name text = None
told Unasm name text = None
told Needs name text = None
told Partings name text = None

-- what is given is what the definition says, where there is one
abbrev pub IsGiven : Option Told → Told → Type 0
IsGiven (Some t) given = given ≡ t
IsGiven None given = Unit {0}

-- What is said of what a tool gives: its definition, where it has one; and that the assembly of a module makes it again.
abbrev pub Tells : Tool → List ℕ → List ℕ → Told → Type 0
Tells Unasm name text given = ReadsBack text given
Tells tool name text given = IsGiven (told tool name text) given

-- an answer that says what a tool gives
abbrev pub IsAnswerOf : Tool → List ℕ → List ℕ → Answer → Type 0
IsAnswerOf Unasm name text a = (t : Told) × ReadsBack text t × a ≡ told_answer t
IsAnswerOf tool name text a = IsToldBy (told tool name text) a

-- an answer of a tool to a text
abbrev pub IsToolAnswer : Asked → List ℕ → Answer → Type 0
IsToolAnswer asked text a = IsAnswerOf asked.tool asked.name text a

-- whether a definition says what a tool gives
abbrev pub is_defined : Tool → Bool
is_defined Picture = false
is_defined Marks = false
is_defined Unasm = false
is_defined Needs = false
is_defined Partings = false
is_defined tool = true

-- words ask for no tool, or for one whose definition says what it gives
abbrev pub HasDefinition : Option Asked → Type 0
HasDefinition None = Unit {0}
HasDefinition (Some asked) = is_defined asked.tool ≡ true
