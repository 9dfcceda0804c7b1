use Rattle.tripos_machine.proofs.PacketHistory.Runs.{history-events, run-history}
use Rattle.tripos_machine.proofs.packet_history.step_moves.run_law.Goals as goal

pub returns-clause-events : goal.returns-clause-events
returns-clause-events c = λ n k. history-events n k

pub returns-clause-history : goal.returns-clause-history
returns-clause-history c = λ n k v each. run-history n k v each
