-- What is written where a machine is saved, and where a saved machine goes on.
use Rattle.std.specs.Prelude.{ℕ, ◌≡◌, ◌⊎◌, Option, Some, None, List, length, Result, Ok, Err}
use Rattle.module_text.specs.TextReader.Lines.{lines_of}
use Rattle.module_text.specs.TextReader.Refusal.{Refusal, refusal}
use Rattle.session_text.specs.declared.sessions.Session.{Session}
use Rattle.tripos_machine.specs.Boot.{boot}
use Rattle.kernel_model.specs.declared.kernel_record.stops.Stop.{Stop}
use Rattle.tripos_machine.specs.State.{IsSound, State, steps_of, stop_of}
use Rattle.tripos_machine.specs.Step.{Stepped, run}
use Rattle.saved_text.specs.Canonical.{canonical}
use Rattle.saved_text.specs.ImageOfText.{image_of}
use Rattle.saved_text.specs.declared.images.Image.{Image}
use Rattle.saved_machine.specs.MachineImage.Machines.{HasMachine, IsMachineOf}
use Rattle.saved_machine.specs.ImagePrint.Numbers.{HasWordsAndBytes}
use Rattle.saved_machine.specs.ImagePrint.SavedImage.{saved_image}
use Rattle.program_answers.specs.Answer.{Answer, no_boot_answer, refused_answer}
use Rattle.tripos_run.specs.Answer.{end_since, run_answer, status_of}
use Rattle.tripos_run.specs.Texts.{closing_text}
use Rattle.tripos_run.specs.declared.reports.Report.TheVariants.{Console}
use Rattle.program_answers.specs.declared.status.Status.TheVariants.{Done}

-- ---- a machine is saved

-- A machine that goes on is written as its text, with the steps that it is to take: it is one between steps, its words are words, and its
-- bytes bytes. Of one that has stopped the closing line alone is written.
abbrev pub IsKept : ℕ → ℕ → State → Option Stop → Answer → Type 0
IsKept version go s None a = (a ≡ record { status = Done; bytes = canonical (saved_image version s go) }) × IsSound s × HasWordsAndBytes s
IsKept version go s (Some stop) a = a ≡ record { status = status_of stop; bytes = closing_text (steps_of s) stop }

-- this state is that of the session's machine, after its steps
abbrev pub IsSavedState : Session → State → Answer → Type 0
IsSavedState s after a = IsKept s.version s.go after (stop_of after) a

-- the answer to a session whose machine is to be saved, where it boots, and where it does not
abbrev pub IsSavedSession : Session → Result Stepped Refusal → Answer → Type 0
IsSavedSession s (Ok x) a = IsSavedState s (run s.go x.state).state a
IsSavedSession s (Err r) a = a ≡ no_boot_answer r

-- the answer to the text of such a session
abbrev pub IsSaved : Result Session Refusal → Answer → Type 0
IsSaved (Ok s) a = IsSavedSession s (boot s) a
IsSaved (Err r) a = a ≡ refused_answer r

-- ---- a saved machine goes on

-- its console bytes, and the closing line, which counts the steps that it takes now
abbrev pub resumed_answer : ℕ → State → Answer
resumed_answer go s = run_answer Console (end_since (steps_of s) (run go s))

-- the code of a text that has the form of a saved machine, and is none
abbrev pub no_machine_code : ℕ
no_machine_code = 10

-- The machine of an image goes on. Where there is none, the text is refused at its last line, which has this number.
abbrev pub IsResumedImage : ℕ → Image → Answer → Type 0
IsResumedImage last x a =
    ((s : State) × IsMachineOf x s × (a ≡ resumed_answer x.go s))
    ⊎ ((HasMachine x → ⊥) × (a ≡ refused_answer (refusal last no_machine_code)))

-- the answer to the text of a saved machine, whose last line has this number
abbrev pub IsResumed : ℕ → Result Image Refusal → Answer → Type 0
IsResumed last (Ok x) a = IsResumedImage last x a
IsResumed last (Err r) a = a ≡ refused_answer r

-- the answer to the text of a saved machine
abbrev pub IsResumedText : List ℕ → Answer → Type 0
IsResumedText text a = IsResumed (length (lines_of text)) (image_of text) a
