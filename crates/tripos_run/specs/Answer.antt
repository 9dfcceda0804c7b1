-- The program's answer to its words and its input: a status, and the bytes that it writes.
use Rattle.std.specs.Prelude.{ℕ, ◌≡◌, ◌+◌, ◌-◌, drop, List, [], ◌++◌, length, Option, Some, None, Result, Ok, Err, if◌then◌else◌}
use Rattle.module_text.specs.TextReader.Lines.{lines_of as text_lines}
use Rattle.module_text.specs.TextReader.Refusal.{Refusal, refusal}
use Rattle.module_text.specs.declared.modules.Module.{Module}
use Rattle.assembly.specs.ModuleListing.HunkListing.{listing_of_module}
use Rattle.session_text.specs.Front.{front_end, front_lines}
use Rattle.session_text.specs.SessionOfText.{session_lines}
use Rattle.session_text.specs.declared.sessions.Session.{Session}
use Rattle.tripos_run.specs.SessionGenerator.Summary.{summary}
use Rattle.kernel_model.specs.declared.kernel_record.stops.Stop.{Stop}
use Rattle.kernel_model.specs.declared.kernel_record.stops.Stop.TheVariants.{Steps, Quit, Finish, Fault}
use Rattle.kernel_lists.specs.declared.packet_queue.events.KernelEvent.{KernelEvent}
use Rattle.program_answers.specs.TraceLog.Traced.{lines_of}
use Rattle.tripos_machine.specs.Boot.{boot}
use Rattle.tripos_machine.specs.Runs.{end_of_run}
use Rattle.tripos_machine.specs.State.{State, steps_of, stop_of, words_of}
use Rattle.tripos_machine.specs.Step.{Stepped, quietly, run}
use Rattle.debugger.specs.declared.orders.BadLine.{BadLine}
use Rattle.debugger.specs.Debugged.{Told, debugged}
use Rattle.debugger.specs.OrderLines.{first_bad, goes_back}
use Rattle.program_answers.specs.Answer.{Answer, no_boot_answer, refused_answer}
use Rattle.program_answers.specs.declared.status.Status.{Status}
use Rattle.program_answers.specs.declared.status.Status.TheVariants.{Done, GuestFault}
use Rattle.tripos_run.specs.declared.reports.Report.{Report}
use Rattle.tripos_run.specs.declared.reports.Report.TheVariants.{Console, Events, Sums, Words}
use Rattle.tripos_run.specs.Texts.{closing_text, dump_text}

-- ---- runs

-- the exit status of the program, by the reason for which the machine stopped
abbrev pub status_of : Stop → Status
status_of Steps = Done
status_of (Quit code) = Done
status_of Finish = Done
status_of (Fault code address task) = GuestFault

-- a run of a machine of either kind: its console bytes, its events, the steps taken, why it ended, and the words at the end
pub record RunEnd : Type 0 where
  -- the bytes that went to the console
  pub bytes : List ℕ
  -- the events, in their order
  pub events : List KernelEvent
  -- how many steps were taken
  pub steps : ℕ
  -- why the run ended
  pub stop : Stop
  -- the words of the store
  pub words : List ℕ

-- a run ended after so many steps, for this reason, and with these words
pub record AreEnd (x : RunEnd) (steps : ℕ) (stop : Stop) (words : List ℕ) : Type 0 where
  -- the steps
  pub steps_are : steps ≡ x.steps
  -- why it ended
  pub stop_is : stop ≡ x.stop
  -- the words of the store
  pub words_are : words ≡ x.words

-- the events that were there before the run come first
abbrev pub end_after : List KernelEvent → Stepped → RunEnd
end_after before x = record {
  bytes = x.bytes;
  events = before ++ x.events;
  steps = steps_of x.state;
  stop = end_of_run (stop_of x.state);
  words = words_of x.state;
}

-- the run of a machine that had taken some steps before it
abbrev pub end_since : ℕ → Stepped → RunEnd
end_since before x = record (end_after [] x) { steps = steps_of x.state - before }

-- what is written of a run before the closing line: its console bytes, a line for each event, or the sums of the console bytes
abbrev pub text_before : Report → RunEnd → List ℕ
text_before Console x = x.bytes
text_before Words x = x.bytes
text_before Events x = lines_of x.events
text_before (Sums session_bytes) x = summary session_bytes x.bytes

-- and after the closing line: the words that are not 0, where they are asked for
abbrev pub words_text : Report → List ℕ → List ℕ
words_text Words words = dump_text 0 words
words_text _ words = []

-- a text, and after it the closing line, and the words where they are asked for
abbrev pub closed_answer : Report → List ℕ → RunEnd → Answer
closed_answer report before x = record {
  status = status_of x.stop;
  bytes = before ++ (closing_text x.steps x.stop ++ words_text report x.words);
}

-- the answer to a run, in the form that is asked for
abbrev pub run_answer : Report → RunEnd → Answer
run_answer report x = closed_answer report (text_before report x) x

-- the run of a machine, where its session boots
abbrev pub machine_answer : Report → ℕ → Result Stepped Refusal → Answer
machine_answer report go (Ok x) = run_answer report (end_after x.events (run go x.state))
machine_answer report go (Err r) = no_boot_answer r

-- the answer to a session: its run, or that its text is refused
abbrev pub session_answer : Report → Result Session Refusal → Answer
session_answer report (Ok s) = machine_answer report s.go (boot s)
session_answer report (Err r) = refused_answer r

-- ---- a session that is debugged by the lines after it

-- what the lines wrote, and the closing line of the last state
abbrev pub told_answer : Told → Answer
told_answer t = closed_answer Console t.bytes (end_after [] (quietly t.after.state))

-- a history is kept exactly where some line undoes steps, and it begins with nothing past
abbrev pub first_past : List (List ℕ) → Option (List State)
first_past lines = if goes_back lines then Some [] else None

-- the machine of a session, where that boots
abbrev pub lines_answer : ℕ → List (List ℕ) → Result Stepped Refusal → Answer
lines_answer budget lines (Ok x) = told_answer (debugged budget lines x.state (first_past lines))
lines_answer budget lines (Err r) = no_boot_answer r

-- before it boots the lines are checked
abbrev pub checked_by : Option BadLine → Answer → Answer
checked_by (Some bad) answer = refused_answer (refusal bad.line bad.code)
checked_by None answer = answer

-- the first of them has this number
abbrev pub checked_answer : Session → ℕ → List (List ℕ) → Answer
checked_answer s first lines = checked_by (first_bad first lines) (lines_answer s.go lines (boot s))

-- the session ends with the first line that begins with `GO `
abbrev pub front_answer : List ℕ → Result Session Refusal → Answer
front_answer text (Ok s) = checked_answer s (length (front_lines text) + 1) (text_lines (drop (front_end text) text))
front_answer text (Err r) = refused_answer r

-- the answer to a session with lines of the debugger after it
abbrev pub debugging_answer : List ℕ → Answer
debugging_answer text = front_answer text (session_lines (front_lines text))

-- ---- texts

-- a text that is made of the input, or the refusal of the input
abbrev pub made_answer : Result (List ℕ) Refusal → Answer
made_answer (Ok text) = record { status = Done; bytes = text }
made_answer (Err r) = refused_answer r

-- the listing of a module
abbrev pub listed : Result Module Refusal → Result (List ℕ) Refusal
listed (Ok m) = Ok (listing_of_module m.hunks)
listed (Err r) = Err r
