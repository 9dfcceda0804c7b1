use Rattle.tripos_machine.proofs.PacketHistory.StepMoved.{step-moved}
use Rattle.tripos_machine.proofs.packet_history.step_moves.step_law.Goals as goal

pub returns : goal.returns
returns c = λ due k v moves. step-moved due k (record { moves = moves; valid = v })
