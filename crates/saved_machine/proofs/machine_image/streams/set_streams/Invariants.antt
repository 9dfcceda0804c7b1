use Rattle.std.proofs.Common.{◌≡◌, take}
use Rattle.saved_machine.specs.MachineImage.Parts.{with_streams}
use Rattle.saved_machine.proofs.machine_image.streams.set_streams.Given as goal

abbrev pub invariant-loop-stream : goal.invariant-loop-stream
invariant-loop-stream l = l.disc ≡ with_streams l.fn.disc (take l.stream-index l.streams)
