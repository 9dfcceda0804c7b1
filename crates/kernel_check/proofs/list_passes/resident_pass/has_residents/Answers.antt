use Rattle.kernel_check.proofs.ListPasses.Residents.{residents-read}
use Rattle.kernel_check.proofs.list_passes.resident_pass.has_residents.Goals as goal

pub returns : goal.returns
returns c = residents-read c.args.store.now c.root.result c.root.ensures
