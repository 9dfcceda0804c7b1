-- A turn that ends with a fault changes nothing.
use Rattle.std.proofs.Common.{◌≡◌, ℕ, List, Result, Ok, Err, refl, subst}
use Rattle.word_store.specs.declared.registers.Regs.{Regs}
use Rattle.instruction_set.specs.Instruction.{After, instruction}
use Rattle.instruction_set.specs.declared.Fault.{Fault}
use Rattle.instruction_set.specs.declared.Outcome.{Outcome}
use Rattle.instruction_set.specs.declared.Outcome.TheVariants.{Next, Sys, Returned, Fault as Faulted}
use Rattle.instruction_set.proofs.Unexecuted.{stays-instruction}
use Rattle.kernel_model.specs.KernelRecord.Lists.{Lists}
use Rattle.kernel_calls.specs.Calls.{kernel_call, made_if_read}
use Rattle.kernel_calls.specs.CallNumbers.{call_of}
use Rattle.kernel_calls.specs.declared.call_numbers.CallOutcome.{CallOutcome}
use Rattle.kernel_calls.specs.declared.call_numbers.CallOutcome.TheVariants.{Done, Outside as OutsideStore, Quit, Unknown, Waits}
use Rattle.kernel_calls.specs.declared.call_numbers.KernelCall.{KernelCall}
use Rattle.guest_turns.specs.Guarded.{is_owned}
use Rattle.guest_turns.specs.GuestTurn.{IsUntouched, after_instruction, called, end_of_call, turn_without_reporter}
use Rattle.guest_turns.specs.declared.turns.TurnEnd.TheVariants.{Faults}
use Rattle.guest_turns.proofs.CallFields.{IsMadeEnd, call-ends}

made-goes : (place : ℕ) (f : Fault) (o : CallOutcome) → IsMadeEnd o → end_of_call place o ≡ Faults f → ⊥
made-goes place f Done is e = cc
made-goes place f Waits is e = cc
made-goes place f (Quit result) is e = cc
made-goes place f Unknown is e = is
made-goes place f (OutsideStore a) is e = is

module _ (l : Lists) (f : Fault) where
  read-untouched : (s : List ℕ) (r : Regs) (place : ℕ) (q : Result KernelCall CallOutcome) → end_of_call place (made_if_read s l r q).outcome ≡ Faults f
      → IsUntouched s l r (called s place (made_if_read s l r q))
  read-untouched s r place (Ok call) e = absurd (made-goes place f _ (call-ends s l _ call) e)
  read-untouched s r place (Err outcome) e = record { words = refl; lists = refl; plain = refl; regs = refl; bytes = refl; events = refl }

  call-untouched : (s : List ℕ) (r : Regs) (place : ℕ) → end_of_call place (kernel_call s l r).outcome ≡ Faults f → IsUntouched s l r (called s place (kernel_call s l r))
  unfolding kernel_call
  call-untouched s r place e = read-untouched s r place (call_of s r) e

  -- where it left these words and registers
  from-untouched : (s : List ℕ) (r : Regs) (outcome : Outcome) → (after_instruction l s r outcome).ends ≡ Faults f → IsUntouched s l r (after_instruction l s r outcome) × (outcome ≡ Next → ⊥)
  from-untouched s r Next e = cc
  from-untouched s r Sys e = (call-untouched s r r.pc e, λ n. cc)
  from-untouched s r Returned e = cc
  from-untouched s r (Faulted g) e = (record { words = refl; lists = refl; plain = refl; regs = refl; bytes = refl; events = refl }, λ n. cc)

  pub fault-untouched : (s : List ℕ) (r : Regs) → (turn_without_reporter s l r).ends ≡ Faults f → IsUntouched s l r (turn_without_reporter s l r)
  unfolding turn_without_reporter
  fault-untouched s r e =
      let x : After = instruction (is_owned l) s r in
      let u = from-untouched x.words x.regs x.outcome e in
      let same = (stays-instruction (is_owned l) s r).stays u.1 in
      subst (λ z. IsUntouched z l r (after_instruction l x.words x.regs x.outcome)) same.0
      (subst (λ z. IsUntouched x.words l z (after_instruction l x.words x.regs x.outcome)) same.1 u.0)
