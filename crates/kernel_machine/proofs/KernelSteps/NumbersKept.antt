-- The period is the same after a step, and so is the size of the store.
use Rattle.std.proofs.Common.{◌≡◌, ℕ, None, refl, ap, ◌∙◌}
use Rattle.kernel_model.specs.KernelRecord.Kernel.{Kernel}
use Rattle.kernel_model.specs.KernelRecord.ValidKernel.{IsValid}
use Rattle.kernel_model.specs.KernelDispatch.Dispatch.{CanDispatch}
use Rattle.guest_turns.specs.GuestTurn.{Numbers, numbers_of}
use Rattle.kernel_machine.specs.KernelSteps.Parts.{CanTurn, tick_after}
use Rattle.kernel_machine.specs.KernelSteps.Step.{after_the_turn, key, output, step, tick, with_step}
use Rattle.kernel_machine.proofs.KernelSteps.DevicesKept.{key-dispatch, key-numbers, output-numbers, tick-dispatch, tick-numbers}
use Rattle.kernel_machine.proofs.KernelSteps.StepEnds.{step-ends, turned}
use Rattle.kernel_machine.proofs.KernelSteps.StepKept.{dispatch-lists, step-turns}
use Rattle.kernel_machine.proofs.KernelSteps.TurnKept.{numbers-turn, turn-dispatch}

-- a number that neither depends on who runs nor on the ticks
module _ (of : Numbers → ℕ) (runs : (n : Numbers) (running : ℕ) → of (record n { running = running }) ≡ of n) (ticks : (n : Numbers) (ticks : ℕ) → of (record n { tick = ticks }) ≡ of n) where
  rest-number : (k : Kernel) → CanDispatch k.lists k.regs → of (numbers_of (after_the_turn k).kernel.lists) ≡ of (numbers_of k.lists)
  rest-number k can =
      let ticked : Kernel = (tick k).kernel in
      let typed : Kernel = (key ticked).kernel in
      let printed : Kernel = (output typed).kernel in
      let after_tick = tick-dispatch k can in
      ap of (dispatch-lists printed) ∙ runs (numbers_of printed.lists) _
      ∙ ap of (output-numbers typed (key-dispatch ticked after_tick)) ∙ ap of (key-numbers ticked after_tick) ∙ ap of (tick-numbers k can) ∙ ticks (numbers_of k.lists) (tick_after k)

  step-number : (k : Kernel) → IsValid k → of (numbers_of (step k).kernel.lists) ≡ of (numbers_of k.lists)
  step-number k h =
      step-ends (λ j. of (numbers_of j.lists) ≡ of (numbers_of k.lists)) k
      (record { stopped = λ e. refl; stops = λ e f. turned-number e; whole = λ e f. rest-number (turned k) (turn-dispatch (with_step k) (can e)) ∙ turned-number e })
    where
      can : k.stop ≡ None → CanTurn (with_step k)
      can e = step-turns k h e

      turned-number : k.stop ≡ None → of (numbers_of (turned k).lists) ≡ of (numbers_of k.lists)
      turned-number e = ap of (numbers-turn (with_step k) (can e))

pub step-period : (k : Kernel) → IsValid k → (step k).kernel.lists.period ≡ k.lists.period
step-period k h = step-number (λ n. n.period) (λ n running. refl) (λ n ticks. refl) k h

pub step-size : (k : Kernel) → IsValid k → (step k).kernel.lists.size ≡ k.lists.size
step-size k h = step-number (λ n. n.size) (λ n running. refl) (λ n ticks. refl) k h
