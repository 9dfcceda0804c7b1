use Rattle.tripos_machine.proofs.PacketHistory.ValidSteps.{step-valid}
use Rattle.tripos_machine.proofs.packet_history.valid_steps.step_law.Goals as goal

pub returns : goal.returns
returns c = λ k valid goes few. step-valid k valid goes few
