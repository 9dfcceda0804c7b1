use Rattle.std.proofs.Common.{arith, ◌+◌}
use Rattle.kernel_model.specs.KernelRecord.Lists.{Lists}
use Rattle.kernel_calls.proofs.CallAnswers.RootTold.{tick-told}
use Rattle.kernel_devices.specs.Tick.{with_tick}
use Rattle.kernel_devices.proofs.WholeTick.{tick-held, tick-noted, tick-served}
use Rattle.kernel_devices.proofs.ticks.tick.Goals as goal

pub overflow_add-now : goal.overflow_add-now
overflow_add-now g c = omega (arith, c.root-now.ensures, tick-told c.args.store.now c.requires.0 c.requires.1, c.requires.2)

pub return_due-requires : goal.return_due-requires
return_due-requires g c =
    let l : Lists = c.requires.0 in
    (with_tick (c.root-now.result + 1) l, tick-held c.args.store.now c.set_root.new.store l c.root-now.result c.requires.1 c.root-now.ensures c.set_root.ensures)

pub returns-clause-lists : goal.returns-clause-lists
returns-clause-lists g c = λ l h low.
    tick-served c.args.store.now c.set_root.new.store l c.root-now.result h c.root-now.ensures c.set_root.ensures c.return_due.new.store
    (c.return_due.ensures.lists (with_tick (c.root-now.result + 1) l) (tick-held c.args.store.now c.set_root.new.store l c.root-now.result h c.root-now.ensures c.set_root.ensures))

pub returns-clause-notes : goal.returns-clause-notes
returns-clause-notes g c = λ l h low.
    tick-noted c.args.store.now c.set_root.new.store l c.root-now.result h c.root-now.ensures c.set_root.ensures (g.L.EventLog.noted c.args.log.now) (g.L.EventLog.noted c.return_due.new.log)
    (g.L.EventLog.has_failed c.args.log.now) (g.L.EventLog.has_failed c.return_due.new.log)
    (c.return_due.ensures.notes (with_tick (c.root-now.result + 1) l) (tick-held c.args.store.now c.set_root.new.store l c.root-now.result h c.root-now.ensures c.set_root.ensures))
