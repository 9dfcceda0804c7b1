use Rattle.kernel_machine.specs.KernelSteps.Step.{dispatch, key, output, tick}
use Rattle.kernel_machine.specs.KernelSteps.Stepped.{and_then}
use Rattle.kernel_machine.proofs.RunningMachine.LeftParts.{leaves-then}
use Rattle.kernel_machine.proofs.RunningMachine.StepParts.{serving}
use Rattle.kernel_machine.proofs.running_machine.steps.serve.Goals as goal

pub key-requires : goal.key-requires
key-requires g c =
    let k = c.requires.represents.0 in
    let can = serving k c.requires.represents.2 in
    ((tick k).kernel, (c.tick.ensures.left k c.requires.represents.1 c.requires.represents.2).represents, can.ticked)

pub output-requires-clause-represents : goal.output-requires-clause-represents
output-requires-clause-represents g c =
    let k = c.requires.represents.0 in
    let can = serving k c.requires.represents.2 in
    let j = (tick k).kernel in
    ((key j).kernel, (c.key.ensures.left j (c.tick.ensures.left k c.requires.represents.1 c.requires.represents.2).represents can.ticked).represents, can.typed)

pub dispatch-requires : goal.dispatch-requires
dispatch-requires g c =
    let k = c.requires.represents.0 in
    let can = serving k c.requires.represents.2 in
    let j = (tick k).kernel in
    let i = (key j).kernel in
    ((output i).kernel, (c.output.ensures.left i (c.key.ensures.left j (c.tick.ensures.left k c.requires.represents.1 c.requires.represents.2).represents can.ticked).represents can.typed).represents, can.printed)

pub returns-clause-served : goal.returns-clause-served
returns-clause-served g c = λ k st serves.
    let can = serving k serves in
    let one = c.tick.ensures.left k st serves in
    let j = (tick k).kernel in
    let two = c.key.ensures.left j one.represents can.ticked in
    let i = (key j).kernel in
    let three = c.output.ensures.left i two.represents can.typed in
    let four = c.dispatch.ensures.left (output i).kernel three.represents can.printed in
    leaves-then _ _ _ _ _ (and_then (and_then (tick k) key) output) dispatch (leaves-then _ _ _ _ _ (and_then (tick k) key) output (leaves-then _ _ _ _ _ (tick k) key one two) three) four
