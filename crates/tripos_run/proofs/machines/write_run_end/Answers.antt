use Rattle.std.proofs.Common.{[]}
use Rattle.tripos_machine.specs.Step.{quietly}
use Rattle.tripos_run.specs.Answer.{end_after}
use Rattle.tripos_run.proofs.AnswerParts.{Answers-closed}
use Rattle.tripos_run.proofs.machines.write_run_end.Goals as goal

pub returns-clause-answer : goal.returns-clause-answer
returns-clause-answer g c =
    let s = c.args.machine.now.state in
    rw (c.status_after.ensures, c.status_of.ensures)
    (Answers-closed c.args.report (end_after [] (quietly s)) c.args.pending.now _ _ c.write_end-end.result (record { steps_are = c.steps.ensures; stop_is = c.requires; words_are = c.store.ensures })
    c.write_end-end.ensures.text)
