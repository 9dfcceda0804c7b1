use Rattle.kernel_machine.proofs.KernelSteps.QuietMachines.{guest-valid, guest-image}
use Rattle.kernel_machine.proofs.KernelSteps.QuietSpans.{valid-ready, guest-behind, guest-left, guest-passed, passed-amid}
use Rattle.kernel_machine.proofs.kernel_steps.quiet_laws.guest_law.Goals as goal

pub returns-clause-step : goal.returns-clause-step
returns-clause-step c = λ k h goes guest next q. guest-passed k (valid-ready k h goes) guest next q

pub returns-clause-behind : goal.returns-clause-behind
returns-clause-behind c = λ m k h goes q. guest-behind k (valid-ready k h goes) m q

pub returns-clause-no_tick : goal.returns-clause-no_tick
returns-clause-no_tick c = λ k h goes amid. passed-amid k (valid-ready k h goes) amid

pub returns-clause-valid : goal.returns-clause-valid
returns-clause-valid c = λ k h goes guest next few q. guest-valid k h goes guest next few q

pub returns-clause-image : goal.returns-clause-image
returns-clause-image c = λ k h goes guest next. guest-image k h goes guest next

pub returns-clause-left : goal.returns-clause-left
returns-clause-left c = λ m k j h goes guest next q is. guest-left k (valid-ready k h goes) m j guest next q is
