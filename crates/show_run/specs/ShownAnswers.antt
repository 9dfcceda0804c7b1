-- What is shown of the run of a session, in words.
use Rattle.std.specs.Prelude.{ℕ, ◌-◌, ◌==◌, if◌then◌else◌, min, List, [], ◌++◌, Result, Ok, Err}
use Rattle.module_text.specs.TextReader.Refusal.{Refusal}
use Rattle.session_text.specs.declared.sessions.Session.{Session}
use Rattle.tripos_machine.specs.Boot.{boot}
use Rattle.tripos_machine.specs.State.{State}
use Rattle.tripos_machine.specs.Step.{Stepped, run}
use Rattle.program_answers.specs.Answer.{Answer, no_boot_answer, refused_answer}
use Rattle.program_answers.specs.declared.status.Status.TheVariants.{Done}
use Rattle.state_text.specs.StateText.{state_text}
use Rattle.state_text.specs.declared.programs.Program.{Program}
use Rattle.show_run.specs.StepLog.StepLines.{boot_lines, log_text}
use Rattle.show_run.specs.SessionPrograms.{named_programs}
use Rattle.show_run.specs.WordWrites.{boot_write, writes_text}
use Rattle.show_run.specs.declared.commands.Show.{Show}
use Rattle.show_run.specs.declared.commands.Show.TheVariants.{Log, State as ShowState, Writes}

-- the state in which a run of so many steps stops, with the names of these programs
abbrev pub shown_state : List Program → ℕ → State → List ℕ
shown_state programs go s = state_text programs (run go s).state

-- the steps before the first one that is shown, and those from there to the last
abbrev pub skipped : ℕ → ℕ → ℕ
skipped first go = min (first - 1) go

-- how many steps are shown, of a run of so many
abbrev pub shown : ℕ → ℕ → ℕ → ℕ
shown first last go = min last go - skipped first go

-- what happened in the boot, where the first step is 0
abbrev pub boot_part : ℕ → State → List ℕ
boot_part first s = if first == 0 then boot_lines s else []

-- what happened in the steps from the first to the last, of a run of so many
abbrev pub steps_part : ℕ → ℕ → ℕ → State → List ℕ
steps_part first last go s = log_text (shown first last go) (run (skipped first go) s).state

-- the boot, where it is asked for, and the steps
abbrev pub log_of : ℕ → ℕ → ℕ → State → List ℕ
log_of first last go s = boot_part first s ++ steps_part first last go s

-- the steps from the first to the last, of a run of so many, that write the word at an address, and what the boot writes there
abbrev pub writes_of : ℕ → ℕ → ℕ → ℕ → State → List ℕ
writes_of a first last go s = boot_write first a s ++ writes_text (shown first last go) a (run (skipped first go) s).state

-- what is asked for, of a run of so many steps
abbrev pub shown_text : Show → List Program → ℕ → State → List ℕ
shown_text ShowState programs go s = shown_state programs go s
shown_text (Log first last) programs go s = log_of first last go s
shown_text (Writes address first last) programs go s = writes_of address first last go s

-- what was asked for is shown
abbrev pub shown_answer : List ℕ → Answer
shown_answer text = record { status = Done; bytes = text }

-- the machine of a session, where that boots
abbrev pub machine_answer : Show → List Program → ℕ → Result Stepped Refusal → Answer
machine_answer asked programs go (Ok x) = shown_answer (shown_text asked programs go x.state)
machine_answer asked programs go (Err r) = no_boot_answer r

-- what is asked for of a session, or the refusal of its text
abbrev pub session_answer : Show → Result Session Refusal → Answer
session_answer asked (Ok s) = machine_answer asked (named_programs asked s) s.go (boot s)
session_answer asked (Err r) = refused_answer r
