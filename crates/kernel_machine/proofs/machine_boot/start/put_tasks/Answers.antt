use Rattle.kernel_machine.proofs.MachineBoot.LoadedParts.{tasks-reached}
use Rattle.kernel_machine.proofs.machine_boot.start.put_tasks.Goals as goal

pub returns-clause-reached : goal.returns-clause-reached
returns-clause-reached c = λ k h can.
    tasks-reached c.args.parts.now k h c.args.lines.now c.start_tasks.new.store c.start_tasks.new.kinds c.start_tasks.ensures.room c.start_tasks.result can
    (c.start_tasks.ensures.started k.lists h.keeper can.may_start)
