use Rattle.tripos_machine.proofs.PacketHistory.HandlerTurns.{finished-valid, request-valid}
use Rattle.tripos_machine.proofs.packet_history.valid_turns.handler_law.Goals as goal

pub returns-clause-request : goal.returns-clause-request
returns-clause-request c = λ serve s l h t. request-valid serve s l h t

pub returns-clause-ends : goal.returns-clause-ends
returns-clause-ends c = λ s l h r. finished-valid s l h r
