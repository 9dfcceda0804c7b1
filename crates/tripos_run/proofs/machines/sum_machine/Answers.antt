use Rattle.std.proofs.Common.{[], subst}
use Rattle.byte_streams.specs.Pending.{IsCut, IsGathered}
use Rattle.byte_streams.proofs.GatheredTexts.{IsCut-first}
use Rattle.tripos_run.specs.SessionGenerator.Summary.{summary}
use Rattle.tripos_machine.specs.State.{State}
use Rattle.tripos_machine.specs.Step.{boot_events, quietly, run}
use Rattle.program_answers.specs.Answer.{Answers}
use Rattle.tripos_run.specs.Answer.{closed_answer, end_after}
use Rattle.tripos_run.specs.declared.reports.Report.TheVariants.{Sums}
use Rattle.tripos_run.proofs.AnswerParts.{Answers-behind, AppendsPrefix-closed}
use Rattle.tripos_run.proofs.machines.sum_machine.Goals as goal

pub returns-in-Ok-clause-answer : goal.returns-in-Ok-clause-answer
returns-in-Ok-clause-answer g c =
    let holds = g.K.Sink.holds in
    let n = c.args.session_bytes in
    let k = c.args.machine.now.state in
    let x = run c.args.go k in
    let end = c.write_run_end in
    let closed = subst (λ (j : State). Answers (closed_answer (Sums n) c.gather_summary.new.pending (end_after [] (quietly j))) (holds c.gather_summary.new.out) (holds end.new.out) end.result) c.sum_run-tally.ensures.end.0 end.ensures.answer in
    let gathered = subst (λ v. IsGathered (holds c.args.out.now) (holds c.gather_summary.new.out) c.new-pending.result c.gather_summary.new.pending (summary n v)) c.sum_run-tally.ensures.bytes c.in-Ok.ensures.text in
    Answers-behind (Sums n) (end_after (boot_events k) x) (summary n x.bytes) _ end.result c.new-pending.ensures gathered end.ensures.ends closed

pub returns-clause-answer : goal.returns-clause-answer
returns-clause-answer g c =
    let holds = g.K.Sink.holds in
    let n = c.args.session_bytes in
    let k = c.args.machine.now.state in
    let x = run c.args.go k in
    let cut = subst (λ v. IsCut (holds c.args.out.now) (holds c.gather_summary.new.out) c.new-pending.result (summary n v)) c.sum_run-tally.ensures.bytes c.in-Err.ensures.text in
    AppendsPrefix-closed (Sums n) (end_after (boot_events k) x) (summary n x.bytes) _ _ (IsCut-first c.new-pending.ensures cut)
