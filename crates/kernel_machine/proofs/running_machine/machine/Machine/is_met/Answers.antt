use Rattle.std.proofs.Common.{◌∙◌, ap, arith, sym}
use Rattle.instruction_set.specs.Breakpoints.{has_breakpoint}
use Rattle.kernel_machine.specs.RunningMachine.Machine.{MachineView, kernel_of}
use Rattle.kernel_machine.specs.RunningMachine.Runs.{is_met}
use Rattle.kernel_machine.proofs.RunningMachine.MetBreakpoints.{guest-met, task-met}
use Rattle.kernel_machine.proofs.running_machine.machine.Machine.is_met.Goals as goal

pub returns-then-running-lt-FIRST_GUEST : goal.returns-then-running-lt-FIRST_GUEST
returns-then-running-lt-FIRST_GUEST c = sym (task-met c.args.breakpoints.now c.args.self.now.kernel (omega (arith, c.running.ensures, c.if-running-lt-FIRST_GUEST.true)))

pub returns : goal.returns
returns c =
    let k = kernel_of c.self.inside.parts c.self.inside.stop in
    c.has_breakpoint.ensures ∙ ap (λ r. has_breakpoint r.pc c.args.breakpoints.now) c.self.invariant.represents.regs
    ∙ guest-met c.args.breakpoints.now k (omega (arith, c.running.ensures, c.if-running-lt-FIRST_GUEST.false, ap (λ (v : MachineView). v.kernel.lists.running) c.self.view_is))
    ∙ ap (λ (v : MachineView). is_met c.args.breakpoints.now v.kernel) c.self.view_is
