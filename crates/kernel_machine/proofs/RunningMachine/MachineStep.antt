-- A step of a whole machine.
use Rattle.std.proofs.Common.{◌≡◌, ℕ, ◌<◌, Option, Some, None, refl, sym, ap, ◌∙◌, subst}
use Rattle.kernel_model.specs.KernelRecord.Ranges.{most_steps}
use Rattle.kernel_model.specs.KernelRecord.Kernel.{Kernel}
use Rattle.kernel_model.specs.KernelRecord.ValidKernel.{IsValid}
use Rattle.kernel_calls.specs.CallAnswers.Outside.{Outside}
use Rattle.kernel_model.specs.declared.kernel_record.stops.Stop.{Stop}
use Rattle.kernel_machine.specs.declared.running_machine.parts.Parts.{Parts}
use Rattle.kernel_machine.specs.KernelSteps.Parts.{IsTaken}
use Rattle.kernel_machine.specs.KernelSteps.Step.{run, step}
use Rattle.kernel_machine.specs.KernelSteps.Stepped.{Stepped, quietly}
use Rattle.kernel_machine.proofs.KernelSteps.StepKept.{step-left}
use Rattle.kernel_machine.specs.RunningMachine.Private.Leaves.{Leaves}
use Rattle.kernel_machine.specs.RunningMachine.Machine.{IsWhole, kernel_of}
use Rattle.kernel_machine.specs.RunningMachine.Runs.{HasPassed}
use Rattle.kernel_machine.proofs.RunningMachine.OneMachine.{one-machine, stop-of, whole}
use Rattle.kernel_machine.proofs.RunningMachine.StepParts.{step-stays}

module _ (p : Parts) (stop : Option Stop) (w : IsWhole p stop) where
  abbrev now : Kernel
  now = kernel_of p stop

  pub stopped-now : stop ≡ now.stop
  stopped-now = sym (stop-of p stop)

  module _ (few : now.steps < most_steps) (q : Parts) (r : Option Stop) (o n : Outside) (left : Leaves q o n (step now)) (ends : r ≡ (step now).kernel.stop) (taken : now.stop ≡ None → IsTaken now) where
    valid-after : IsValid (step now).kernel
    valid-after = on now.stop refl
      where
        on : (s : Option Stop) → now.stop ≡ s → IsValid (step now).kernel
        on None goes = step-left now w.valid goes few (taken goes)
        on (Some s) e = subst (λ (x : Stepped). IsValid x.kernel) (sym (step-stays now s e)) w.valid

    pub kernel-after : kernel_of q r ≡ (step now).kernel
    kernel-after = one-machine q (step now).kernel left.represents r (sym ends)

    pub whole-after : IsWhole q r
    whole-after = whole q (step now).kernel left.represents valid-after r (sym ends)

    pub stop-after : r ≡ (kernel_of q r).stop
    stop-after = sym (stop-of q r)

-- ---- quiet steps

module _ (p : Parts) (stop : Option Stop) (w : IsWhole p stop) (goes : (kernel_of p stop).stop ≡ None) where
  -- it has not stopped
  pub not-stopped : stop ≡ None
  not-stopped = stopped-now p stop w ∙ goes

  -- the same kernel
  pub here : kernel_of p None ≡ kernel_of p stop
  here = ap (kernel_of p) (sym not-stopped)

  module _ (n : ℕ) (q : Parts) (h : HasPassed n (kernel_of p None) q) where
    ends-none : (run n (kernel_of p None)).kernel.stop ≡ stop
    ends-none = h.goes ∙ sym not-stopped

    kernel-passed : kernel_of q stop ≡ (run n (kernel_of p None)).kernel
    kernel-passed = one-machine q (run n (kernel_of p None)).kernel h.represents stop ends-none

    pub whole-passed : IsWhole q stop
    whole-passed = whole q (run n (kernel_of p None)).kernel h.represents h.valid stop ends-none

    pub run-passed : run n (kernel_of p stop) ≡ quietly (kernel_of q stop)
    run-passed = ap (run n) (sym here) ∙ h.quiet ∙ ap quietly (sym kernel-passed)

    pub goes-passed : (kernel_of q stop).stop ≡ None
    goes-passed = stop-of q stop ∙ not-stopped
