use Rattle.tripos_machine.proofs.PacketHistory.GuestMoves.{guest-moves}
use Rattle.tripos_machine.proofs.packet_history.guest_moves.guest_law.Goals as goal

pub returns-clause-moves : goal.returns-clause-moves
returns-clause-moves c = λ due s l r v there dues. (guest-moves due l v there s dues r).0

pub returns-clause-senders : goal.returns-clause-senders
returns-clause-senders c = λ due s l r v there dues. (guest-moves due l v there s dues r).1
