use Rattle.tripos_machine.proofs.PacketHistory.ValidSteps.{run-valid}
use Rattle.tripos_machine.proofs.packet_history.valid_steps.run_law.Goals as goal

pub returns : goal.returns
returns c = λ n k valid few. run-valid n k valid few
