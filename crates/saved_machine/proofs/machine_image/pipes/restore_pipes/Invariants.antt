use Rattle.std.proofs.Common.{◌≡◌, take}
use Rattle.saved_machine.specs.MachineImage.Parts.{placed_pipes}
use Rattle.saved_machine.proofs.machine_image.pipes.restore_pipes.Given as goal

abbrev pub invariant-loop-pipe : goal.invariant-loop-pipe
invariant-loop-pipe l = l.restored ≡ placed_pipes (take l.pipe-index l.pipes)
