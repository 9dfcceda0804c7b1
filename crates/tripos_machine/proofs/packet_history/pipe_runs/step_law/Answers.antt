use Rattle.tripos_machine.proofs.PacketHistory.PipeRuns.{other-step, step-lawful, step-requests}
use Rattle.tripos_machine.proofs.packet_history.pipe_runs.step_law.Goals as goal

pub returns-clause-step : goal.returns-clause-step
returns-clause-step c = step-requests

pub returns-clause-lawful : goal.returns-clause-lawful
returns-clause-lawful c = step-lawful

pub returns-clause-others : goal.returns-clause-others
returns-clause-others c = other-step
