use Rattle.tripos_machine.proofs.PacketHistory.PipeRuns.{booted-bytes}
use Rattle.tripos_machine.proofs.packet_history.pipe_runs.boot_law.Goals as goal

pub returns : goal.returns
returns c = booted-bytes
