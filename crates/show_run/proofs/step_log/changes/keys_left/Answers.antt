use Rattle.std.proofs.Common.{◌≡◌, ◌∙◌, None, ap, length, refl}
use Rattle.std.specs.Prelude.{slice_get}
use Rattle.tripos_machine.specs.State.{keys_to_come}
use Rattle.debugger.proofs.KernelParts.{on-bare}
use Rattle.show_run.proofs.StepLog.KeptParts.{on-represented}
use Rattle.show_run.proofs.step_log.changes.keys_left.Goals as goal

pub returns-in-Some-clause-count : goal.returns-in-Some-clause-count
returns-in-Some-clause-count c = on-represented _ c.args.machine.now.state (λ s. length c.rest.result.now ≡ length (keys_to_come s)) c.in-Some.ensures.represents (λ k h. ap length (c.rest.ensures ∙ h.keys))

pub returns-in-Some-clause-first : goal.returns-in-Some-clause-first
returns-in-Some-clause-first c = on-represented _ c.args.machine.now.state (λ s. c.first.result ≡ slice_get (keys_to_come s) 0) c.in-Some.ensures.represents (λ k h. c.first.ensures ∙ ap (λ keys. slice_get keys 0) h.keys)

pub returns-in-None-clause-count : goal.returns-in-None-clause-count
returns-in-None-clause-count c = on-bare c.args.machine.now.state (λ s. 0 ≡ length (keys_to_come s)) c.in-None.ensures.represents (λ m. refl)

pub returns-in-None-clause-first : goal.returns-in-None-clause-first
returns-in-None-clause-first c = on-bare c.args.machine.now.state (λ s. None ≡ slice_get (keys_to_come s) 0) c.in-None.ensures.represents (λ m. refl)
