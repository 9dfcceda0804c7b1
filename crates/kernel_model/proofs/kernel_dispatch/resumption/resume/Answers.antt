use Rattle.std.proofs.Common.{ap, subst}
use Rattle.kernel_lists.specs.PacketQueue.Log.{Notes}
use Rattle.kernel_lists.specs.declared.packet_queue.events.KernelEvent.TheVariants.{Runs}
use Rattle.kernel_model.proofs.KernelDispatch.WholeDispatch.{resumes}
use Rattle.kernel_model.proofs.kernel_dispatch.resumption.resume.Goals as goal

pub returns-clause-dispatched : goal.returns-clause-dispatched
returns-clause-dispatched g c = λ l w k n can off.
    resumes c.args.store.now c.take_due-packet.new.store c.suspend.new.store c.start.new.store (g.Q.KindKeeper.tells c.args.kinds.now) (g.Q.KindKeeper.tells c.take_due-packet.new.kinds)
    (g.Q.KindKeeper.room c.args.kinds.now) l w c.args.t k n c.args.regs.now c.next_regs-next.result can off c.take_due-packet.result
    (g.L.EventLog.noted c.args.log.now) (g.L.EventLog.noted c.take_due-packet.new.log) (g.L.EventLog.noted c.note.new.self)
    (g.L.EventLog.has_failed c.args.log.now) (g.L.EventLog.has_failed c.take_due-packet.new.log) (g.L.EventLog.has_failed c.note.new.self)
    (c.take_due-packet.ensures.taken l w k n) c.suspend.ensures c.start.ensures c.next_regs-next.ensures
    (subst (λ e. Notes (g.L.EventLog.noted c.take_due-packet.new.log) (g.L.EventLog.noted c.note.new.self) (g.L.EventLog.has_failed c.take_due-packet.new.log) (g.L.EventLog.has_failed c.note.new.self) e)
    (ap Runs c.field-id.ensures) c.note.ensures)
