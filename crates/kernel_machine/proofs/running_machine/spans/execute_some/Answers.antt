use Rattle.std.proofs.Common.{◌∙◌, sym}
use Rattle.kernel_machine.specs.KernelSteps.Step.{run}
use Rattle.kernel_machine.proofs.RunningMachine.MetBreakpoints.{none-met}
use Rattle.kernel_machine.proofs.running_machine.spans.execute_some.Goals as goal

pub returns-then-is_empty-clause-between : goal.returns-then-is_empty-clause-between
returns-then-is_empty-clause-between c = λ k n m x le few i some low. none-met c.args.breakpoints.now (run i (run n k).kernel).kernel (sym c.is_empty.ensures ∙ c.if-is_empty.true)
