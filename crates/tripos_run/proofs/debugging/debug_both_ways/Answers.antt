use Rattle.std.proofs.Common.{◌≡◌, [], Some, subst}
use Rattle.std.specs.Prelude.{IfOk}
use Rattle.byte_streams.specs.Pending.{Gathers}
use Rattle.byte_streams.proofs.GatheredTexts.{IsCut-first}
use Rattle.module_text.specs.TextReader.Lines.{lines_of}
use Rattle.tripos_machine.specs.State.{State}
use Rattle.tripos_machine.specs.Step.{quietly}
use Rattle.debugger.specs.Debugged.{debugged}
use Rattle.program_answers.specs.Answer.{Answers}
use Rattle.tripos_run.specs.Answer.{closed_answer, end_after}
use Rattle.tripos_run.specs.declared.reports.Report.TheVariants.{Console}
use Rattle.tripos_run.proofs.AnswerParts.{Answers-behind, AppendsPrefix-closed}
use Rattle.tripos_run.proofs.debugging.debug_both_ways.Goals as goal

pub returns-in-Ok-clause-answer : goal.returns-in-Ok-clause-answer
returns-in-Ok-clause-answer g c =
    let holds = g.K.Sink.holds in
    let told = debugged c.args.budget (lines_of c.args.lines.now) c.args.machine.state (Some []) in
    let back = c.debug_back-machine in
    let end = c.write_run_end in
    let state = subst (λ r. IfOk r (λ x. ◌≡◌ {A = State} back.result.0.state told.after.state)) c.in-Ok.is back.ensures.state in
    let text = subst (Gathers (holds c.args.out.now) (holds back.new.out) c.new-pending.result back.new.pending told.bytes) c.in-Ok.is back.ensures.text in
    let closed = subst (λ (s : State). Answers (closed_answer Console back.new.pending (end_after [] (quietly s))) (holds back.new.out) (holds end.new.out) end.result) state end.ensures.answer in
    Answers-behind Console (end_after [] (quietly told.after.state)) told.bytes _ end.result c.new-pending.ensures text end.ensures.ends closed

pub returns-clause-answer : goal.returns-clause-answer
returns-clause-answer g c =
    let holds = g.K.Sink.holds in
    let told = debugged c.args.budget (lines_of c.args.lines.now) c.args.machine.state (Some []) in
    let back = c.debug_back-machine in
    let text = subst (Gathers (holds c.args.out.now) (holds back.new.out) c.new-pending.result back.new.pending told.bytes) c.in-Err.is back.ensures.text in
    AppendsPrefix-closed Console (end_after [] (quietly told.after.state)) told.bytes _ _ (IsCut-first c.new-pending.ensures text)
