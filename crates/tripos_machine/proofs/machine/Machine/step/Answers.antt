use Rattle.std.proofs.Common.{arith}
use Rattle.tripos_machine.proofs.Histories.{has-history}
use Rattle.tripos_machine.proofs.machine.Machine.step.Goals as goal

pub returns-clause-history : goal.returns-clause-history
returns-clause-history g c = has-history 1 c.args.self.now.state c.know_sound.ensures (omega (arith, c.requires))
