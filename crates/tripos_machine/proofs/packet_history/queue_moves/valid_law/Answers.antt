use Rattle.tripos_machine.proofs.PacketHistory.ValidLedgers.{valid-falls, valid-once}
use Rattle.tripos_machine.proofs.packet_history.queue_moves.valid_law.Goals as goal

pub returns-clause-once : goal.returns-clause-once
returns-clause-once c = λ l v. valid-once l v

pub returns-clause-falls : goal.returns-clause-falls
returns-clause-falls c = λ l v. valid-falls l v
