use Rattle.std.proofs.Common.{◌++◌, ◌∙◌, ap, arith, length-append}
use Rattle.circular_buffer.specs.Buffer.{buffer}
use Rattle.machine_ring.proofs.WaitingBytes.{keep_last-all}
use Rattle.machine_ring.proofs.left.hold.Goals as goal

pub returns : goal.returns
returns c =
    let b = c.args.held.now in
    c.extend_from_slice.ensures ∙ ap (λ l. buffer l b.capacity) (keep_last-all b.capacity (b.items ++ c.args.others.now) (omega (arith, c.requires, length-append b.items c.args.others.now)))
