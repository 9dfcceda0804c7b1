use Rattle.machine_ring.proofs.RingLink.InStep.{delivered-prefix, in_step, length-delivered}
use Rattle.machine_ring.proofs.ring_link.laws.ring_law.Goals as goal

pub returns-clause-prefix : goal.returns-clause-prefix
returns-clause-prefix c = delivered-prefix

pub returns-clause-count : goal.returns-clause-count
returns-clause-count c = length-delivered

pub returns-clause-acknowledged : goal.returns-clause-acknowledged
returns-clause-acknowledged c = λ events. (in_step events).least

pub returns-clause-ahead : goal.returns-clause-ahead
returns-clause-ahead c = λ events. (in_step events).most

pub returns-clause-waiting : goal.returns-clause-waiting
returns-clause-waiting c = λ events. (in_step events).waiting
