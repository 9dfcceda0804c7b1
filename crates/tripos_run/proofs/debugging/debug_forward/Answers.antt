use Rattle.std.proofs.Common.{[], None, subst}
use Rattle.byte_streams.proofs.GatheredTexts.{IsCut-first}
use Rattle.module_text.specs.TextReader.Lines.{lines_of}
use Rattle.tripos_machine.specs.State.{State}
use Rattle.tripos_machine.specs.Step.{quietly}
use Rattle.tripos_machine.proofs.RunParts.{ends-all}
use Rattle.debugger.specs.Debugged.{debugged}
use Rattle.program_answers.specs.Answer.{Answers}
use Rattle.tripos_run.specs.Answer.{closed_answer, end_after}
use Rattle.tripos_run.specs.declared.reports.Report.TheVariants.{Console}
use Rattle.tripos_run.proofs.AnswerParts.{Answers-behind, AppendsPrefix-closed}
use Rattle.tripos_run.proofs.debugging.debug_forward.Goals as goal

pub write_run_end-requires : goal.write_run_end-requires
write_run_end-requires g c = ends-all _ _ _ c.stop.ensures c.unwrap_or-stop.ensures

pub returns-in-Ok-clause-answer : goal.returns-in-Ok-clause-answer
returns-in-Ok-clause-answer g c =
    let holds = g.K.Sink.holds in
    let told = debugged c.args.budget (lines_of c.args.lines.now) c.args.machine.now.state None in
    let end = c.write_run_end in
    let closed = subst (λ (s : State). Answers (closed_answer Console c.debug.new.pending (end_after [] (quietly s))) (holds c.debug.new.out) (holds end.new.out) end.result) c.in-Ok.ensures.state end.ensures.answer in
    Answers-behind Console (end_after [] (quietly told.after.state)) told.bytes _ end.result c.new-pending.ensures c.in-Ok.ensures.text end.ensures.ends closed

pub returns-in-Err-clause-answer : goal.returns-in-Err-clause-answer
returns-in-Err-clause-answer g c =
    let told = debugged c.args.budget (lines_of c.args.lines.now) c.args.machine.now.state None in
    AppendsPrefix-closed Console (end_after [] (quietly told.after.state)) told.bytes _ _ (IsCut-first c.new-pending.ensures c.in-Err.ensures.text)
