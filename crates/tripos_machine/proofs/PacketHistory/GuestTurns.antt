-- A guest's whole turn leaves valid lists: its instruction, its call, the end of its function, and its fault.
use Rattle.std.proofs.Common.{◌≡◌, ℕ, Bool, true, false, cond, eqb, List, [], append-nil, inr, not, refl, sym, ap, subst}
use Rattle.word_store.specs.declared.registers.Regs.{Regs}
use Rattle.instruction_set.specs.Instruction.{After, instruction}
use Rattle.instruction_set.specs.declared.Fault.{Fault}
use Rattle.instruction_set.specs.declared.Outcome.{Outcome}
use Rattle.instruction_set.specs.declared.Outcome.TheVariants.{Next, Sys, Returned, Fault as Faulted}
use Rattle.kernel_lists.specs.Coroutines.CoroutineExchanges.{current_of}
use Rattle.kernel_model.specs.KernelRecord.Changes.{queue_of}
use Rattle.kernel_model.specs.KernelRecord.HoldsLists.{HoldsLists}
use Rattle.kernel_model.specs.KernelRecord.Image.{image}
use Rattle.kernel_model.specs.KernelRecord.Kernel.{Kernel}
use Rattle.kernel_model.specs.KernelRecord.Lists.{Lists}
use Rattle.kernel_model.specs.KernelRecord.ValidLists.{AreValid}
use Rattle.kernel_model.specs.KernelRecord.ValidQueues.Place.{Work}
use Rattle.kernel_model.specs.KernelRecord.ValidTasks.{dead}
use Rattle.kernel_model.proofs.KernelRecord.ResidentPackets.{fault_queued-valid}
use Rattle.kernel_calls.specs.CallAnswers.Callers.{HasCaller}
use Rattle.kernel_calls.proofs.CallAnswers.RunningTask.{caller-at}
use Rattle.kernel_calls.specs.CoroutineCalls.CallersCoroutines.{coroutines_of_caller}
use Rattle.kernel_calls.specs.CoroutineCalls.CoWait.{ended}
use Rattle.guest_turns.specs.Guarded.{is_owned}
use Rattle.guest_turns.specs.GuestTurn.{after_instruction, died, dies, returned, turn_without_reporter}
use Rattle.guest_turns.proofs.FaultedTurn.{fault-untouched}
use Rattle.guest_turns.proofs.GuardedLists.{holds-executed}
use Rattle.resident_tasks.specs.FaultReporter.Recorded.{CanRecord, held_with, packet_from, recorded, sent_where}
use Rattle.resident_tasks.proofs.FaultReporter.HeldGuest.{held-caller, is-held}
use Rattle.kernel_machine.specs.KernelSteps.GuestSteps.{guest_step, turn_of_guest}
use Rattle.kernel_machine.proofs.KernelSteps.TurnRules.{recordable}
use Rattle.kernel_machine.proofs.KernelSteps.TurnWays.{IsRecorded, guest-ways}
use Rattle.tripos_machine.proofs.PacketHistory.CoroutineCalls.{ended-valid}
use Rattle.tripos_machine.proofs.PacketHistory.EveryCall.{kernel_call-valid}
use Rattle.tripos_machine.proofs.PacketHistory.OneGuest.{state-valid}

-- a fault of the running guest is recorded
module _ (s : List ℕ) (l : Lists) (f : Fault) (h : HoldsLists s l) (can : CanRecord l f) where
  held-valid : AreValid (held_with f l)
  held-valid = (is-held s l f h can _ (caller-at s l h can.caller) _ refl).lists.lists.valid

  recorded-valid : AreValid (recorded f l)
  recorded-valid = on l.fault_packet_free refl
    where
      on : (b : Bool) → l.fault_packet_free ≡ b → AreValid (sent_where b (held_with f l))
      on false e = held-valid
      on true free =
          fault_queued-valid (held_with f l) (packet_from l.running) (queue_of (Work 2) (held_with f l)) [] held-valid (sym (append-nil (queue_of (Work 2) (held_with f l)))) free refl
          (record { place = refl; kind = refl; res1 = refl; last = refl }) (held-caller l f can.caller).there

module _ (l : Lists) (c : HasCaller l) where
  -- a function has returned
  returned-valid : (s : List ℕ) (r : Regs) → HoldsLists s l → AreValid (returned l r).lists
  returned-valid s r h = on (eqb (current_of (coroutines_of_caller l)) 0) refl
    where
      on : (b : Bool) → eqb (current_of (coroutines_of_caller l)) 0 ≡ b → AreValid (cond b (dies l r) (ended l r)).lists
      on true root = (let g = caller-at s l h c in state-valid l l.running _ h.valid g died dead g.task.flags g.task.held refl (inr (inr (inr refl))))
      on false inside = ended-valid s l h c r (ap not inside)

  instruction-valid : (s : List ℕ) (r : Regs) (o : Outcome) → HoldsLists s l → AreValid (after_instruction l s r o).lists
  instruction-valid s r Next h = h.valid
  instruction-valid s r Sys h = kernel_call-valid s l h c r
  instruction-valid s r Returned h = returned-valid s r h
  instruction-valid s r (Faulted f) h = h.valid

  turn-valid : (s : List ℕ) (r : Regs) → HoldsLists s l → AreValid (turn_without_reporter s l r).lists
  unfolding turn_without_reporter
  turn-valid s r h = (let x : After = instruction (is_owned l) s r in instruction-valid x.words x.regs x.outcome (holds-executed s x.words r l h refl))

  guest_turn-valid : (s : List ℕ) (r : Regs) → HoldsLists s l → AreValid (turn_of_guest s l r).lists
  guest_turn-valid s r h = guest-ways (λ m. AreValid m.lists) s l r (turn-valid s r h) recorded-turn
    where
      recorded-turn : (f : Fault) → IsRecorded s l r f → AreValid (recorded f (turn_without_reporter s l r).lists)
      recorded-turn f is =
          let same : (turn_without_reporter s l r).lists ≡ l = (fault-untouched l f s r is.ends).lists in
          subst (λ m. AreValid (recorded f m)) (sym same) (recorded-valid s l f h (subst (λ m. CanRecord m f) same (recordable s l r f c is)))

pub guest_step-valid : (k : Kernel) → HoldsLists (image k) k.lists → HasCaller k.lists → AreValid (guest_step k).kernel.lists
guest_step-valid k h c = guest_turn-valid k.lists c (image k) k.regs h
