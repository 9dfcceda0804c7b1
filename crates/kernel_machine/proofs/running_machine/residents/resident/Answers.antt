use Rattle.std.proofs.Common.{◌∙◌, ap, arith, length, subst, sym}
use Rattle.std.proofs.lemmas.List.{length-append}
use Rattle.kernel_machine.specs.KernelSteps.ResidentSteps.{console_step}
use Rattle.kernel_machine.specs.RunningMachine.Private.Leaves.{Leaves}
use Rattle.kernel_machine.proofs.RunningMachine.ConsoleBytes.{console-bytes}
use Rattle.kernel_machine.proofs.RunningMachine.LeftParts.{leaves-none}
use Rattle.kernel_machine.proofs.RunningMachine.ResidentParts.{leaves-four, other-resident}
use Rattle.kernel_machine.proofs.running_machine.residents.resident.Goals as goal

pub returns-in-3-clause-room : goal.returns-in-3-clause-room
returns-in-3-clause-room g c =
    let (k, st, r) = c.requires.represents in
    let left = c.console.ensures.turned k st (record { can = r.can; is = sym r.is ∙ c.in-3.is }) in
    omega (arith, ap length left.bytes, length-append c.args.bytes.now (console_step k).bytes, console-bytes k, ap length c.requires.empty)

pub returns-in-4-clause-turned : goal.returns-in-4-clause-turned
returns-in-4-clause-turned g c = λ k st r. leaves-four c.args.task k c.in-4.is (c.handle.ensures.turned k st (record { can = r.can; is = sym r.is ∙ c.in-4.is }))

pub returns-in_default-clause-turned : goal.returns-in_default-clause-turned
returns-in_default-clause-turned g c = λ k st r.
    subst (Leaves _ _ _) (sym (other-resident c.args.task k (λ e. absurd (omega (arith, e))) (λ e. absurd (omega (arith, e))) (λ e. absurd (omega (arith, e))) (λ e. absurd (omega (arith, e))))) (leaves-none _ _ k st)
