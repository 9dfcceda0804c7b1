use Rattle.kernel_model.specs.KernelRecord.Recovered.{lists_in}
use Rattle.saved_machine.proofs.machine_image.store_rules.period_of.Goals as goal

pub returns : goal.returns
unfolding lists_in
returns c = c.root.ensures
