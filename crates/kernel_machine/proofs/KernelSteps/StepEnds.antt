-- Where a step ends.
use Rattle.std.proofs.Common.{◌≡◌, ◌≢◌, Option, Some, None, cond, refl}
use Rattle.std.specs.Prelude.{is_some}
use Rattle.kernel_model.specs.KernelRecord.Kernel.{Kernel}
use Rattle.kernel_model.specs.declared.kernel_record.stops.Stop.{Stop}
use Rattle.kernel_machine.specs.KernelSteps.Step.{after_the_turn, step, turn, unless_stopped, with_step}
use Rattle.kernel_machine.specs.KernelSteps.Stepped.{Stepped, and_then, quietly}

-- what is left out where the machine has stopped
unless-ways : (P : Stepped → Type 0) (part : Kernel → Stepped) (k : Kernel) → (k.stop ≢ None → P (quietly k)) → (k.stop ≡ None → P (part k)) → P (unless_stopped part k)
unless-ways P part k stopped goes = on k.stop refl
  where
    on : (o : Option Stop) → k.stop ≡ o → P (cond (is_some o) (quietly k) (part k))
    on None e = goes e
    on (Some s) e = stopped (λ none. cc)

abbrev pub turned : Kernel → Kernel
turned k = (turn (with_step k)).kernel

-- what a step of the kernel leaves, by where it ends
pub record Ends (P : Kernel → Type 0) (k : Kernel) : Type 0 where
  -- the machine had stopped before
  pub stopped : k.stop ≢ None → P k
  -- its turn stops it
  pub stops : k.stop ≡ None → (turned k).stop ≢ None → P (turned k)
  -- the devices and the dispatch follow on the turn
  pub whole : k.stop ≡ None → (turned k).stop ≡ None → P (after_the_turn (turned k)).kernel

pub step-ends : (P : Kernel → Type 0) (k : Kernel) → Ends P k → P (step k).kernel
unfolding step
step-ends P k w =
    unless-ways (λ x. P x.kernel) (λ j. and_then (turn (with_step j)) (unless_stopped after_the_turn)) k w.stopped
    (λ goes. unless-ways (λ x. P x.kernel) after_the_turn (turned k) (w.stops goes) (w.whole goes))
