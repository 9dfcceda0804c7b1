use Rattle.std.proofs.Common.{sym, subst}
use Rattle.kernel_model.specs.KernelDispatch.Dispatch.{CanDispatch}
use Rattle.kernel_machine.proofs.MachineBoot.DispatchedParts.{dispatched-represents}
use Rattle.kernel_machine.proofs.machine_boot.start.dispatch.Goals as goal

pub returns-clause-represents : goal.returns-clause-represents
returns-clause-represents c = λ k h can.
    dispatched-represents c.args.parts.now k h c.switch.new.store c.switch.new.regs c.switch.new.kinds _ _ _ _ c.switch.ensures.room
    (c.switch.ensures.dispatched k.lists h.keeper (subst (CanDispatch k.lists) (sym h.regs) can))
