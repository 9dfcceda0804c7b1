use Rattle.tripos_machine.proofs.PacketHistory.EveryCall.{kernel_call-valid}
use Rattle.tripos_machine.proofs.packet_history.valid_calls.call_law.Goals as goal

pub returns : goal.returns
returns c = λ s l r h caller. kernel_call-valid s l h caller r
