-- What `trace` writes.
use Rattle.std.specs.Prelude.{◌≡◌, ◌++◌}
use Rattle.session_text.specs.declared.sessions.Session.{Session}
use Rattle.tripos_machine.specs.Histories.{HasBootHistory}
use Rattle.tripos_machine.specs.Runs.{end_of_run}
use Rattle.tripos_machine.specs.State.{steps_of, stop_of}
use Rattle.tripos_machine.specs.Step.{Stepped, run}
use Rattle.program_answers.specs.TraceLog.Traced.{lines_of}
use Rattle.program_answers.specs.Answer.{Answer}
use Rattle.tripos_run.specs.Texts.{closing_text}

-- what `trace` answers to a session that boots so
pub record TracesHistory (s : Session) (x : Stepped) (a : Answer) : Type 0 where
  -- the answer is a line for each event of the boot, then for each event of the session's steps, and then the closing line
  pub lines : a.bytes ≡ lines_of (x.events ++ (run s.go x.state).events) ++ closing_text (steps_of (run s.go x.state).state) (end_of_run (stop_of (run s.go x.state).state))
  -- and these events are a history of the packets, from none on
  pub history : HasBootHistory s.go x
