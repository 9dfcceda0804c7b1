use Rattle.std.proofs.Common.{◌∙◌, sym}
use Rattle.saved_machine.proofs.MachineImage.SetStreams.{next-refused, next-set, none-set}
use Rattle.saved_machine.proofs.machine_image.streams.set_streams.Goals as goal

pub loop-stream-init : goal.loop-stream-init
loop-stream-init c = none-set c.args.disc.now c.requires.none

pub returns-then-not-restore_stream : goal.returns-then-not-restore_stream
returns-then-not-restore_stream c =
    next-refused c.args.disc.now c.args.streams.now c.requires.order c.loop-stream.stream-index c.stream-item.result c.loop-stream-test.true c.stream-item.is c.loop-stream.disc c.loop-stream.invariant
    (sym c.restore_stream.ensures.answer ∙ c.if-not-restore_stream.true)

pub loop-stream-preserved : goal.loop-stream-preserved
loop-stream-preserved c =
    next-set c.args.disc.now c.args.streams.now c.requires.order c.loop-stream.stream-index c.stream-item.result c.loop-stream-test.true c.stream-item.is c.loop-stream.disc c.restore_stream.new.self c.loop-stream.invariant
    (sym c.restore_stream.ensures.answer ∙ c.if-not-restore_stream.false) c.restore_stream.ensures.disc
