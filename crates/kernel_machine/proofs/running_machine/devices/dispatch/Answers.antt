use Rattle.std.proofs.Common.{refl, subst, sym}
use Rattle.kernel_model.specs.KernelDispatch.Dispatch.{CanDispatch}
use Rattle.kernel_machine.proofs.RunningMachine.ServedParts.{leaves-dispatch}
use Rattle.kernel_machine.proofs.running_machine.devices.dispatch.Goals as goal

pub returns-clause-left : goal.returns-clause-left
returns-clause-left g c = λ k st can.
    leaves-dispatch c.args.parts.now k st c.switch.new.store c.switch.new.kinds c.switch.new.regs _ _ (c.switch.ensures.dispatched k.lists st.keeper (subst (CanDispatch k.lists) (sym st.regs) can)) c.switch.ensures.room refl
