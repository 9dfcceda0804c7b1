use Rattle.std.proofs.Common.{arith}
use Rattle.show_run.proofs.TypedWords.SessionRuns.{on-done, run-stepped}
use Rattle.show_run.proofs.typed_words.writers.next_write.Goals as goal

pub returns-then-not-is_empty : goal.returns-then-not-is_empty
returns-then-not-is_empty c =
    on-done c.take-then-not-is_empty.result
    (run-stepped c.args.session.now c.loop-turn.machine.state _ c.loop-turn.invariant (omega (arith, c.steps.ensures, c.if-steps-session.false)) c.in_ok-tell_step.ensures)

pub loop-turn-preserved : goal.loop-turn-preserved
loop-turn-preserved c =
    run-stepped c.args.session.now c.loop-turn.machine.state _ c.loop-turn.invariant (omega (arith, c.steps.ensures, c.if-steps-session.false)) c.in_ok-tell_step.ensures
