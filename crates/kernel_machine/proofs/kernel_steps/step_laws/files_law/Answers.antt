use Rattle.kernel_machine.proofs.KernelSteps.FilesKept.{step-files}
use Rattle.kernel_machine.proofs.kernel_steps.step_laws.files_law.Goals as goal

pub returns-clause-disc : goal.returns-clause-disc
returns-clause-disc c = λ k shell handler. (step-files k shell handler).disc

pub returns-clause-pipes : goal.returns-clause-pipes
returns-clause-pipes c = λ k shell handler. (step-files k shell handler).pipes
