use Rattle.tripos_rows.proofs.WalkedKinds.{walks}
use Rattle.tripos_rows.proofs.kinds.has_marks.Goals as goal

pub is_kernel-found-requires : goal.is_kernel-found-requires
is_kernel-found-requires g c = walks c.in-Some.parts.now c.args.machine.now.state c.in-Some.ensures.represents c.in-Some.ensures.sound

pub packet_in-requires : goal.packet_in-requires
packet_in-requires g c = walks c.in-Some.parts.now c.args.machine.now.state c.in-Some.ensures.represents c.in-Some.ensures.sound
