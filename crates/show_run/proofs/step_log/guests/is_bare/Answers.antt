use Rattle.std.proofs.Common.{◌≡◌, true, false, refl}
use Rattle.debugger.proofs.KernelParts.{on-bare, on-full}
use Rattle.show_run.specs.StepLog.StepLines.{is_bare}
use Rattle.show_run.proofs.step_log.guests.is_bare.Goals as goal

pub returns-in-Some : goal.returns-in-Some
returns-in-Some c = on-full _ c.args.machine.now.state (λ s. false ≡ is_bare s) c.in-Some.ensures.represents (λ k h. refl)

pub returns-in-None : goal.returns-in-None
returns-in-None c = on-bare c.args.machine.now.state (λ s. true ≡ is_bare s) c.in-None.ensures.represents (λ m. refl)
