use Rattle.tripos_machine.proofs.PacketHistory.DispatchedLists.{dispatched-valid}
use Rattle.tripos_machine.proofs.packet_history.valid_steps.dispatch_law.Goals as goal

pub returns : goal.returns
returns c = λ words l r valid can. dispatched-valid words l r valid can
