use Rattle.std.proofs.Common.{◌∙◌, arith}
use Rattle.std.proofs.lemmas.List.{take_all}
use Rattle.resident_tasks.specs.PipeHandler.PipeCalls.{held_by, pipe_numbered}
use Rattle.saved_machine.proofs.ImagePrint.HeldBytes.{held-room}
use Rattle.saved_machine.proofs.image_print.pipes.held_by.Goals as goal

pub returns : goal.returns
returns c =
    let room = held-room c.args.pipes.now c.requires c.args.k in
    let end = c.loop-i-test.false in
    c.loop-i.invariant.so_far ∙ take_all c.loop-i.i (held_by (pipe_numbered c.args.pipes.now c.args.k)) (omega (arith, room, end))
