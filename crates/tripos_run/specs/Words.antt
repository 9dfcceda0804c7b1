-- What the words of the command line ask for.
use Rattle.std.specs.Prelude.{ℕ, ◌^◌, List, [], ◌∷◌, codes, Option, Some, None, nat_lt, if◌then◌else◌}
use Rattle.std.specs.Option.{option_and_then, option_map}
use Rattle.std.specs.Str.{bytes_eq}
use Rattle.module_text.specs.TextReader.Numbers.{number_of}
use Rattle.tripos_run.specs.declared.commands.Command.{Command}
use Rattle.tripos_run.specs.declared.commands.Command.TheVariants.{Run as RunCommand, Dump as DumpCommand, Trace as TraceCommand, Asm as AsmCommand, Disasm as DisasmCommand, Debug as DebugCommand, Save as SaveCommand, Resume as ResumeCommand, Ring as RingCommand}
use Rattle.tripos_run.specs.declared.commands.Job.{Job}
use Rattle.tripos_run.specs.declared.commands.Job.TheVariants.{Answer as AnswerJob, Generate as GenerateJob}

-- the command that a word is, if it is one
abbrev pub command_named : List ℕ → Option Command
command_named word =
    if bytes_eq word (codes "run") then Some RunCommand else
    if bytes_eq word (codes "dump") then Some DumpCommand else
    if bytes_eq word (codes "trace") then Some TraceCommand else
    if bytes_eq word (codes "asm") then Some AsmCommand else
    if bytes_eq word (codes "disasm") then Some DisasmCommand else
    if bytes_eq word (codes "debug") then Some DebugCommand else
    if bytes_eq word (codes "save") then Some SaveCommand else
    if bytes_eq word (codes "resume") then Some ResumeCommand else
    if bytes_eq word (codes "ring") then Some RingCommand else
    None

-- a number of 1 to 10 digits that a machine word can hold
abbrev pub seed : ℕ → Option ℕ
seed n = if nat_lt n (2 ^ 32) then Some n else None

-- the words `gen` and a number, which ask for the session that the number makes
abbrev pub generation : List ℕ → List ℕ → Option Job
generation word number = if bytes_eq word (codes "gen") then option_map GenerateJob (option_and_then seed (number_of number)) else None

-- what the words ask for, if they ask for something: a command's word, or `gen` and a number
abbrev pub job_of : List (List ℕ) → Option Job
job_of (word ∷ []) = option_map AnswerJob (command_named word)
job_of (word ∷ number ∷ []) = generation word number
job_of _ = None
