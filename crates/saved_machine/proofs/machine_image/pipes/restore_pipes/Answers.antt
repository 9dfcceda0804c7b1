use Rattle.std.proofs.Common.{◌∙◌, sym}
use Rattle.saved_machine.proofs.MachineImage.RestoredPipes.{next-refused, next-restored, none-restored}
use Rattle.saved_machine.proofs.machine_image.pipes.restore_pipes.Goals as goal

pub loop-pipe-init : goal.loop-pipe-init
loop-pipe-init c = none-restored c.args.restored.now c.requires.none

pub returns-then-not-restore : goal.returns-then-not-restore
returns-then-not-restore c =
    next-refused c.args.pipes.now c.requires.order c.loop-pipe.pipe-index c.pipe-item.result c.loop-pipe-test.true c.pipe-item.is c.loop-pipe.restored c.as_slice.result.now c.loop-pipe.invariant c.as_slice.ensures
    (sym c.restore.ensures.answer ∙ c.if-not-restore.true)

pub loop-pipe-preserved : goal.loop-pipe-preserved
loop-pipe-preserved c =
    next-restored c.args.pipes.now c.requires.order c.loop-pipe.pipe-index c.pipe-item.result c.loop-pipe-test.true c.pipe-item.is c.loop-pipe.restored c.restore.new.self c.as_slice.result.now c.loop-pipe.invariant c.as_slice.ensures
    (sym c.restore.ensures.answer ∙ c.if-not-restore.false) c.restore.ensures.pipes
