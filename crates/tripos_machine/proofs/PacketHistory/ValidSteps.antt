-- A step of a valid kernel leaves a valid kernel.
use Rattle.std.proofs.Common.{◌≡◌, ℕ, zero, suc, ◌+◌, ◌<◌, ◌≤◌, Option, Some, None, refl, sym, ◌∙◌, subst, arith}
use Rattle.kernel_model.specs.KernelRecord.Image.{image, settled}
use Rattle.kernel_model.specs.KernelRecord.Kernel.{Kernel}
use Rattle.kernel_model.specs.KernelRecord.Ranges.{most_steps}
use Rattle.kernel_model.specs.KernelRecord.ValidKernel.{IsValid}
use Rattle.kernel_model.specs.KernelRecord.ValidLists.{AreValid}
use Rattle.kernel_model.specs.declared.kernel_record.stops.Stop.{Stop}
use Rattle.kernel_model.specs.KernelDispatch.Dispatch.{CanDispatch}
use Rattle.kernel_machine.specs.KernelSteps.Parts.{IsTaken}
use Rattle.kernel_machine.specs.KernelSteps.Step.{devices, dispatch, key, run, step, tick, turn, with_step}
use Rattle.kernel_machine.proofs.KernelSteps.DevicesKept.{key-dispatch, output-dispatch, tick-dispatch}
use Rattle.kernel_machine.proofs.KernelSteps.Runs.{step-steps, step-stopped}
use Rattle.kernel_machine.proofs.KernelSteps.StepEnds.{step-ends}
use Rattle.kernel_machine.proofs.KernelSteps.StepKept.{step-left, step-turns}
use Rattle.kernel_machine.proofs.KernelSteps.TurnKept.{turn-dispatch}
use Rattle.tripos_machine.proofs.PacketHistory.ResidentTurns.{step-turn-valid}
use Rattle.tripos_machine.proofs.PacketHistory.StepMoved.{devices-moved}
use Rattle.tripos_machine.proofs.PacketHistory.DiscTurns.{turn-disc}
use Rattle.tripos_machine.proofs.PacketHistory.DispatchedLists.{dispatched-valid}
use Rattle.tripos_machine.proofs.PacketHistory.PlainWords.{step-plain}

-- a dispatch, as a part of a step
pub part-valid : (k : Kernel) → AreValid k.lists → CanDispatch k.lists k.regs → AreValid (dispatch k).kernel.lists
unfolding dispatch settled
part-valid k v can = dispatched-valid (image k) k.lists k.regs v can

module _ (k : Kernel) (h : IsValid k) (goes : k.stop ≡ None) where
  abbrev turned : Kernel
  turned = (turn (with_step k)).kernel

  turned-valid : AreValid turned.lists
  turned-valid = step-turn-valid k h goes

  -- a dispatch may follow on the devices
  can-dispatch : CanDispatch (devices turned).kernel.lists (devices turned).kernel.regs
  can-dispatch =
      let can = turn-dispatch (with_step k) (step-turns k h goes) in
      let ticked : Kernel = (tick turned).kernel in
      let typed : Kernel = (key ticked).kernel in
      output-dispatch typed (key-dispatch ticked (tick-dispatch turned can))

  lists-valid : AreValid (step k).kernel.lists
  lists-valid =
      step-ends (λ j. AreValid j.lists) k
      (record {
        stopped = λ e. h.lists;
        stops = λ e f. turned-valid;
        whole = λ e f. part-valid (devices turned).kernel (devices-moved (λ e. 0) turned turned-valid).valid can-dispatch;
      })

  taken : IsTaken k
  taken =
      record { turned = turned-valid; disc = turn-disc (with_step k) h.residents.disc.valid; lists = lists-valid; plain = step-plain k h.plain lists-valid }

  pub step-valid : k.steps < most_steps → IsValid (step k).kernel
  step-valid few = step-left k h goes few taken

-- also where it has stopped before
pub next-valid : (k : Kernel) → IsValid k → k.steps < most_steps → IsValid (step k).kernel
next-valid k h few = on k.stop refl
  where
    on : (o : Option Stop) → k.stop ≡ o → IsValid (step k).kernel
    on None is = step-valid k h is few
    on (Some s) is = subst (λ x. IsValid x.kernel) (sym (step-stopped k (λ none. (let clash : ◌≡◌ {A = Option Stop} (Some s) None = sym is ∙ none in cc)))) h

pub run-valid : (n : ℕ) (k : Kernel) → IsValid k → k.steps + n ≤ most_steps → IsValid (run n k).kernel
unfolding run
run-valid zero k h few = h
run-valid (suc n) k h few = run-valid n (step k).kernel (next-valid k h (omega (arith, few))) (omega (arith, few, step-steps k))
