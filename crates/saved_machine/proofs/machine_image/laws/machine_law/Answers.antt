use Rattle.saved_machine.proofs.MachineImage.SavedMachines.{saved-regs, saved-steps, saved-words, which-machine}
use Rattle.saved_machine.proofs.machine_image.laws.machine_law.Goals as goal

pub returns-clause-one : goal.returns-clause-one
returns-clause-one c = which-machine

pub returns-clause-words : goal.returns-clause-words
returns-clause-words c = saved-words

pub returns-clause-regs : goal.returns-clause-regs
returns-clause-regs c = saved-regs

pub returns-clause-steps : goal.returns-clause-steps
returns-clause-steps c = saved-steps
