use Rattle.std.proofs.Common.{◌≡◌, ◌∙◌, refl}
use Rattle.debugger.proofs.KernelLists.{tick-back}
use Rattle.debugger.proofs.KernelParts.{on-bare, on-full}
use Rattle.show_run.specs.StepLog.StepLines.{tick_of}
use Rattle.show_run.proofs.step_log.changes.tick.Goals as goal

pub returns-in-Some : goal.returns-in-Some
returns-in-Some c = on-full _ c.args.machine.now.state (λ s. c.root.result ≡ tick_of s) c.in-Some.ensures.represents (λ k h. c.root.ensures ∙ tick-back _ k.lists h)

pub returns-in-None : goal.returns-in-None
returns-in-None c = on-bare c.args.machine.now.state (λ s. 0 ≡ tick_of s) c.in-None.ensures.represents (λ m. refl)
