use Rattle.std.proofs.Common.{[], ◌++◌, refl, subst}
use Rattle.tripos_machine.specs.State.{State}
use Rattle.tripos_machine.specs.Step.{boot_events, quietly, run}
use Rattle.program_answers.specs.TraceLog.Traced.{lines_of}
use Rattle.program_answers.specs.Answer.{Answers}
use Rattle.tripos_run.specs.Answer.{closed_answer, end_after}
use Rattle.tripos_run.specs.declared.reports.Report.TheVariants.{Events}
use Rattle.tripos_run.proofs.AnswerParts.{Answers-behind, AppendsPrefix-closed}
use Rattle.tripos_run.proofs.machines.trace_machine.Goals as goal

pub returns-in-Ok-clause-answer : goal.returns-in-Ok-clause-answer
returns-in-Ok-clause-answer g c =
    let holds = g.K.Sink.holds in
    let k = c.args.machine.now.state in
    let x = run c.args.go k in
    let end = c.write_run_end in
    let closed = subst (λ (j : State). Answers (closed_answer Events c.in-Ok.pending (end_after [] (quietly j))) (holds c.gather_events.new.out) (holds end.new.out) end.result) c.in-Ok.ensures.end.0 end.ensures.answer in
    Answers-behind Events (end_after (boot_events k) x) (lines_of (boot_events k ++ x.events)) _ end.result refl c.in-Ok.ensures.lines end.ensures.ends closed

pub returns-in-Err-clause-answer : goal.returns-in-Err-clause-answer
returns-in-Err-clause-answer g c =
    let k = c.args.machine.now.state in
    let x = run c.args.go k in
    AppendsPrefix-closed Events (end_after (boot_events k) x) (lines_of (boot_events k ++ x.events)) _ _ c.in-Err.ensures.lines
