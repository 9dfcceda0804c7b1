use Rattle.kernel_model.specs.KernelRecord.Recovered.{lists_in}
use Rattle.kernel_check.proofs.RunningTask.{some-ready}
use Rattle.kernel_check.proofs.between.first_ready.Goals as goal

pub returns-in-Some : goal.returns-in-Some
returns-in-Some c =
    some-ready c.args.store.now c.choose.result c.in-Some.t c.field.result (c.choose.ensures (lists_in c.args.store.now) c.requires) c.in-Some.is c.field.ensures
