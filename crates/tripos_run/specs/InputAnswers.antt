-- Which answer the program's words and its input get.
use Rattle.std.specs.Prelude.{ℕ, ◌≡◌, List, length, Option, Some, None}
use Rattle.module_text.specs.ModuleOfText.{module_of}
use Rattle.assembly.specs.AssemblyText.Assembly.{assembled}
use Rattle.session_text.specs.SessionOfText.{session_of}
use Rattle.tripos_run.specs.SessionGenerator.Generated.{generated}
use Rattle.program_answers.specs.Answer.{Answer}
use Rattle.program_answers.specs.Input.{IsInputAnswer}
use Rattle.program_answers.specs.declared.status.Status.TheVariants.{Usage}
use Rattle.tripos_run.specs.Answer.{debugging_answer, listed, made_answer, session_answer}
use Rattle.tripos_run.specs.RingAnswers.{ring_answer}
use Rattle.tripos_run.specs.SavedAnswers.{IsResumedText, IsSaved}
use Rattle.tripos_run.specs.Texts.{usage_text}
use Rattle.tripos_run.specs.Words.{job_of}
use Rattle.tripos_run.specs.declared.commands.Command.{Command}
use Rattle.tripos_run.specs.declared.commands.Command.TheVariants.{Run as RunCommand, Dump as DumpCommand, Trace as TraceCommand, Asm as AsmCommand, Disasm as DisasmCommand, Debug as DebugCommand, Save as SaveCommand, Resume as ResumeCommand, Ring as RingCommand}
use Rattle.tripos_run.specs.declared.commands.Job.{Job}
use Rattle.tripos_run.specs.declared.commands.Job.TheVariants.{Answer as AnswerJob, Generate as GenerateJob}
use Rattle.tripos_run.specs.declared.reports.Report.TheVariants.{Console, Events, Sums, Words}

-- ---- texts

-- `asm` writes the module of an assembly text, `disasm` the listing of a module, `debug` debugs a session, `save` saves its machine,
-- `resume` goes on with a saved one, `ring` takes the rounds of two, and the others run a session
abbrev pub IsTextAnswer : Command → List ℕ → Answer → Type 0
IsTextAnswer AsmCommand text a = a ≡ made_answer (assembled text)
IsTextAnswer DisasmCommand text a = a ≡ made_answer (listed (module_of text))
IsTextAnswer RunCommand text a = a ≡ session_answer Console (session_of text)
IsTextAnswer DumpCommand text a = a ≡ session_answer Words (session_of text)
IsTextAnswer TraceCommand text a = a ≡ session_answer Events (session_of text)
IsTextAnswer DebugCommand text a = a ≡ debugging_answer text
IsTextAnswer SaveCommand text a = IsSaved (session_of text) a
IsTextAnswer ResumeCommand text a = IsResumedText text a
IsTextAnswer RingCommand text a = a ≡ ring_answer text

-- ---- words

-- the session that a number makes is run, and summed up
unfoldable pub generated_answer : ℕ → Answer
generated_answer n = session_answer (Sums (length (generated n))) (session_of (generated n))

-- the answer to words that ask for nothing
abbrev pub usage_answer : Answer
usage_answer = record { status = Usage; bytes = usage_text }

-- words that ask for nothing get the usage
abbrev pub IsJobAnswer : Option Job → List ℕ → Answer → Type 0
IsJobAnswer None input a = a ≡ usage_answer
IsJobAnswer (Some (AnswerJob command)) input a = IsInputAnswer (IsTextAnswer command) input a
IsJobAnswer (Some (GenerateJob n)) input a = a ≡ generated_answer n

-- the answer to these words and this input, of which there is one at most
abbrev pub IsAnswer : List (List ℕ) → List ℕ → Answer → Type 0
IsAnswer words input a = IsJobAnswer (job_of words) input a
