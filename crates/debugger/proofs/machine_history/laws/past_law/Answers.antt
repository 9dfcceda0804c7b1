use Rattle.debugger.proofs.MachineHistory.KeptStates.{is-longest, is-suffix, kept-fits}
use Rattle.debugger.proofs.machine_history.laws.past_law.Goals as goal

pub returns-clause-suffix : goal.returns-clause-suffix
returns-clause-suffix c = λ past now. is-suffix now past

pub returns-clause-fits : goal.returns-clause-fits
returns-clause-fits c = λ past now. kept-fits now past

pub returns-clause-longest : goal.returns-clause-longest
returns-clause-longest c = λ front back now. is-longest now front back
