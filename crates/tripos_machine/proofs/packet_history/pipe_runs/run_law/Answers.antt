use Rattle.tripos_machine.proofs.PacketHistory.PipeRuns.{run-bytes, run-lawful, run-requests, run-room}
use Rattle.tripos_machine.proofs.packet_history.pipe_runs.run_law.Goals as goal

pub returns-clause-run : goal.returns-clause-run
returns-clause-run c = run-requests

pub returns-clause-lawful : goal.returns-clause-lawful
returns-clause-lawful c = run-lawful

pub returns-clause-bytes : goal.returns-clause-bytes
returns-clause-bytes c = run-bytes

pub returns-clause-room : goal.returns-clause-room
returns-clause-room c = run-room
