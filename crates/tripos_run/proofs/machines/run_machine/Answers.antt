use Rattle.std.proofs.Common.{[], subst}
use Rattle.byte_streams.proofs.GatheredTexts.{IsCut-first}
use Rattle.tripos_machine.specs.State.{State}
use Rattle.tripos_machine.specs.Step.{boot_events, quietly, run}
use Rattle.program_answers.specs.Answer.{Answers}
use Rattle.tripos_run.specs.Answer.{closed_answer, end_after}
use Rattle.tripos_run.proofs.AnswerParts.{Answers-behind, AppendsPrefix-closed}
use Rattle.tripos_run.proofs.machines.run_machine.Goals as goal

pub returns-in-Ok-clause-answer : goal.returns-in-Ok-clause-answer
returns-in-Ok-clause-answer g c =
    let holds = g.K.Sink.holds in
    let k = c.args.machine.now.state in
    let x = run c.args.go k in
    let end = c.write_run_end in
    let closed = subst (λ (j : State). Answers (closed_answer c.args.report c.run.new.pending (end_after [] (quietly j))) (holds c.run.new.out) (holds end.new.out) end.result) c.in-Ok.ensures.end.0.state end.ensures.answer in
    Answers-behind c.args.report (end_after (boot_events k) x) x.bytes _ end.result c.new-pending.ensures c.in-Ok.ensures.bytes end.ensures.ends closed

pub returns-in-Err-clause-answer : goal.returns-in-Err-clause-answer
returns-in-Err-clause-answer g c =
    let k = c.args.machine.now.state in
    let x = run c.args.go k in
    AppendsPrefix-closed c.args.report (end_after (boot_events k) x) x.bytes _ _ (IsCut-first c.new-pending.ensures c.in-Err.ensures.bytes)
