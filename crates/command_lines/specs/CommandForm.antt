-- What it is that a line asks of the shell, or why it is refused, rule by rule.
use Rattle.std.specs.Prelude.{◌≡◌, ◌≢◌, ℕ, ◌^◌, ◌&&◌, Bool, true, false, if◌then◌else◌, List, [], ◌∷◌, ◌++◌, codes, nat_lt, Some, None, Result, Ok, Err}
use Rattle.std.specs.List.{AllByRecursion, list_all}
use Rattle.std.specs.Str.Parse.{digits_value}
use Rattle.module_text.specs.TextReader.Numbers.{are_digits}
use Rattle.ram_disc.specs.Name.{is_name}
use Rattle.command_lines.specs.ArgumentTemplates.Args.{Args}
use Rattle.command_lines.specs.ArgumentTemplates.Cut.{IsFreeOf, MayEnd}
use Rattle.command_lines.specs.declared.argument_templates.args.Arg.{Arg}
use Rattle.ram_disc.specs.declared.codes.TheConstants.{BAD_NAME}
use Rattle.command_lines.specs.declared.commands.Command.{Command}
use Rattle.command_lines.specs.declared.commands.Command.TheVariants.{Nothing, «Type», Examine, Delete, Rename, Status, Map, Hold, Release, ChangePriority, Break, Run, Finish, Start}
use Rattle.command_lines.specs.declared.command_names.CommandName.{CommandName}
use Rattle.command_lines.specs.declared.command_names.CommandName.TheVariants.{TypeFile, ListFiles, DeleteFile, RenameFile, ListTasks, CountBlocks, HoldTask, ReleaseTask, SetPriority, SetFlags, RunProgram, FinishMachine}
use Rattle.command_lines.specs.Arguments.{is_set_at, text_at}
use Rattle.command_lines.specs.Command.{flags_or_b}
use Rattle.command_lines.specs.CommandNames.{command_named}

-- ---- the line and its word

-- a line of spaces alone
abbrev pub IsBlank : List ℕ → Type 0
IsBlank line = AllByRecursion (λ c. c ≡ 32) line

-- a line, its first word, and what follows that
pub data Parts : List ℕ → List ℕ → List ℕ → Type 0 where
  -- spaces in front belong to neither
  space : {line word rest : List ℕ} → Parts line word rest → Parts (32 ∷ line) word rest
  -- the word goes up to the next space, or the line's end; a quote is a byte as others
  word : {first : ℕ} {text rest : List ℕ} → first ≢ 32 → IsFreeOf 32 text → MayEnd rest → Parts (first ∷ (text ++ rest)) (first ∷ text) rest

-- ---- what follows the name of a command

-- the template by which the arguments of each command are read
abbrev pub template_of : CommandName → List ℕ
template_of TypeFile = codes "FILE/A"
template_of ListFiles = codes ""
template_of DeleteFile = codes "FILE/A"
template_of RenameFile = codes "FROM/A,TO=AS/A"
template_of ListTasks = codes ""
template_of CountBlocks = codes ""
template_of HoldTask = codes "TASK/A"
template_of ReleaseTask = codes "TASK/A"
template_of SetPriority = codes "TASK/A,PRI/A"
template_of SetFlags = codes "TASK/A,B/S,C/S,D/S,E/S"
template_of RunProgram = codes "PROGRAM/A,PRI/K"
template_of FinishMachine = codes ""

-- the arguments of a command that have to be numbers
abbrev pub numbers_in : CommandName → List ℕ → List Arg → List (List ℕ)
numbers_in HoldTask rest args = text_at rest args 0 ∷ []
numbers_in ReleaseTask rest args = text_at rest args 0 ∷ []
numbers_in SetPriority rest args = text_at rest args 0 ∷ text_at rest args 1 ∷ []
numbers_in SetFlags rest args = text_at rest args 0 ∷ []
numbers_in RunProgram rest args = if is_set_at args 1 then text_at rest args 1 ∷ [] else []
numbers_in _ rest args = []

-- the arguments of a command that have to be names of files
abbrev pub names_in : CommandName → List ℕ → List Arg → List (List ℕ)
names_in TypeFile rest args = text_at rest args 0 ∷ []
names_in DeleteFile rest args = text_at rest args 0 ∷ []
names_in RenameFile rest args = text_at rest args 0 ∷ text_at rest args 1 ∷ []
names_in RunProgram rest args = text_at rest args 0 ∷ []
names_in _ rest args = []

-- the number that a text is in decimal, with any number of digits; it is below 2 ^ 32
abbrev pub value_of : List ℕ → ℕ
value_of text = digits_value 10 text

-- decimal digits, one or more, whose number is a word
abbrev pub is_number : List ℕ → Bool
is_number text = are_digits 10 text && nat_lt (value_of text) (2 ^ 32)

-- the command that the arguments make
abbrev pub made : CommandName → List ℕ → List Arg → Command
made TypeFile rest args = «Type» (text_at rest args 0)
made ListFiles rest args = Examine
made DeleteFile rest args = Delete (text_at rest args 0)
made RenameFile rest args = Rename (text_at rest args 0) (text_at rest args 1)
made ListTasks rest args = Status
made CountBlocks rest args = Map
made HoldTask rest args = Hold (value_of (text_at rest args 0))
made ReleaseTask rest args = Release (value_of (text_at rest args 0))
made SetPriority rest args = ChangePriority (value_of (text_at rest args 0)) (value_of (text_at rest args 1))
made SetFlags rest args = Break (value_of (text_at rest args 0)) (flags_or_b args)
made RunProgram rest args = Run (text_at rest args 0) (if is_set_at args 1 then Some (value_of (text_at rest args 1)) else None)
made FinishMachine rest args = Finish

-- What the name of a command and what follows it ask. The codes of the template come first, then 55 for an argument that is no number,
-- then 40 for one that is no name.
pub data Takes (name : CommandName) (rest : List ℕ) : Result Command ℕ → Type 0 where
  refused : {code : ℕ} → Args (template_of name) rest (Err code) → Takes name rest (Err code)
  no_number : {args : List Arg} → Args (template_of name) rest (Ok args) → list_all is_number (numbers_in name rest args) ≡ false → Takes name rest (Err 55)
  no_name : {args : List Arg} → Args (template_of name) rest (Ok args) → list_all is_number (numbers_in name rest args) ≡ true →
      list_all is_name (names_in name rest args) ≡ false → Takes name rest (Err BAD_NAME)
  taken : {args : List Arg} → Args (template_of name) rest (Ok args) → list_all is_number (numbers_in name rest args) ≡ true →
      list_all is_name (names_in name rest args) ≡ true → Takes name rest (Ok (made name rest args))

-- ---- the whole line

-- whether nothing follows a program
abbrev pub without_arguments : Result (List Arg) ℕ → Result (Unit {0}) ℕ
without_arguments (Ok args) = Ok tt
without_arguments (Err code) = Err code

-- what a line asks of the shell: a command, or the code with which it is refused
pub data Asks (line : List ℕ) : Result Command ℕ → Type 0 where
  -- a line without a word asks nothing
  nothing : IsBlank line → Asks line (Ok Nothing)
  -- the word names a command
  command : {first rest : List ℕ} {name : CommandName} {outcome : Result Command ℕ} → Parts line first rest → command_named first ≡ Some name →
      Takes name rest outcome → Asks line outcome
  -- any other word is a program, where it is a name; what is wrong with what follows it is told when the program is there
  program : {first rest : List ℕ} {after : Result (List Arg) ℕ} → Parts line first rest → command_named first ≡ None → is_name first ≡ true →
      Args (codes "") rest after → Asks line (Ok (Start first (without_arguments after)))
  no_program : {first rest : List ℕ} → Parts line first rest → command_named first ≡ None → is_name first ≡ false → Asks line (Err BAD_NAME)
