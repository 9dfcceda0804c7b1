use Rattle.std.proofs.Common.{◌∙◌, ap, arith}
use Rattle.tripos_machine.specs.Step.{run}
use Rattle.debugger.specs.Debugged.{steps_to}
use Rattle.debugger.proofs.DebuggedRuns.{left-few}
use Rattle.show_run.specs.TypedWords.Runs.{limits_of}
use Rattle.show_run.proofs.TypedWords.SessionRuns.{session-steps}
use Rattle.show_run.proofs.TypedWords.ToldOrders.{run-stopping}
use Rattle.show_run.proofs.typed_words.machines.go_to.Goals as goal

pub take_steps_to-requires-clause-steps : goal.take_steps_to-requires-clause-steps
take_steps_to-requires-clause-steps c =
    let s = c.args.machine.now.state in
    omega (arith, c.steps_left-most.ensures, left-few (limits_of c.args.session.now) s, c.requires.run.few, session-steps c.args.session.now c.requires.lawful)

pub returns-in-Ok : goal.returns-in-Ok
returns-in-Ok c =
    let s = c.args.machine.now.state in
    let same = ap (λ most. (run (steps_to c.args.stops.now most s) s).state) c.steps_left-most.ensures in
    run-stopping c.args.session.now c.args.stops.now s _ c.requires.run (c.in-Ok.ensures.state ∙ same)
