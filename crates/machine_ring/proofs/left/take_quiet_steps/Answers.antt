use Rattle.std.proofs.Common.{◌+◌, ◌≤◌, ap, arith}
use Rattle.tripos_machine.specs.State.{steps_of}
use Rattle.tripos_machine.proofs.StateRuns.{run-steps}
use Rattle.machine_ring.proofs.QuietSteps.{bytes-then, none-taken, taken-then}
use Rattle.machine_ring.proofs.left.take_quiet_steps.Goals as goal

pub loop-taken-init : goal.loop-taken-init
loop-taken-init c = record { few = omega arith; state = none-taken c.args.machine.now.state; output = λ some. absurd (omega (arith, some)) }

pub advance-taken-requires-clause-steps : goal.advance-taken-requires-clause-steps
advance-taken-requires-clause-steps c =
    let kept = c.loop-taken.invariant in
    omega (arith, c.requires.steps, kept.few, ap steps_of kept.state, run-steps c.loop-taken.taken c.args.machine.now.state)

pub loop-taken-preserved : goal.loop-taken-preserved
loop-taken-preserved c =
    let kept = c.loop-taken.invariant in
    let s = c.args.machine.now.state in
    let a = c.loop-taken.taken in
    let m = c.advance-taken.result in
    let few : a + m ≤ c.args.n = omega (arith, kept.few, c.advance-taken.ensures.most) in
    record {
      few = few;
      state = taken-then a m s c.loop-taken.machine.state _ c.advance-taken.new.self.output kept.state c.advance-taken.ensures.state;
      output = λ some. bytes-then a m s c.loop-taken.machine.state c.advance-taken.new.self.state _ kept.state (c.requires.quiet (a + m) few) c.advance-taken.ensures.output;
    }
