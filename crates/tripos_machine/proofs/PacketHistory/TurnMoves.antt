-- The turn of whoever runs moves packets as its events say.
use Rattle.std.proofs.Common.{◌≡◌, ℕ, Bool, true, false, None, inl, inr, refl, sym, ap, subst}
use Rattle.std.proofs.lemmas.Bool.{cases_eq}
use Rattle.word_store.specs.Arithmetic.{signed}
use Rattle.instruction_set.specs.declared.Fault.{Fault}
use Rattle.kernel_lists.specs.declared.packet_queue.events.KernelEvent.{KernelEvent}
use Rattle.kernel_model.specs.KernelRecord.HoldsLists.{HoldsLists}
use Rattle.kernel_model.specs.KernelRecord.Image.{image, word_of}
use Rattle.kernel_model.specs.KernelRecord.Kernel.{Kernel}
use Rattle.kernel_model.specs.KernelRecord.Lists.{Lists, has_task}
use Rattle.kernel_model.specs.KernelRecord.Task.{is_guest_id}
use Rattle.kernel_model.specs.KernelRecord.ValidKernel.{IsValid}
use Rattle.kernel_model.specs.KernelRecord.ValidLists.{AreValid}
use Rattle.guest_turns.specs.GuestTurn.{GuestTurn, turn_without_reporter}
use Rattle.guest_turns.proofs.FaultedTurn.{fault-untouched}
use Rattle.resident_tasks.specs.FaultReporter.Recorded.{recorded, recorded_events}
use Rattle.kernel_machine.specs.KernelSteps.GuestSteps.{guest_step, with_recorded}
use Rattle.kernel_machine.specs.KernelSteps.Parts.{RunsFirst}
use Rattle.kernel_machine.specs.KernelSteps.Step.{turn, with_step}
use Rattle.kernel_machine.specs.KernelSteps.Stepped.{Stepped}
use Rattle.kernel_machine.proofs.KernelSteps.RunningCaller.{runs-calls, runs-resident, valid-runs}
use Rattle.kernel_machine.proofs.KernelSteps.TurnWays.{IsRecorded, guest-ways, turn-guest, turn-nobody, turn-resident}
use Rattle.tripos_machine.specs.PacketHistory.Queues.{IsDueIn}
use Rattle.tripos_machine.proofs.PacketHistory.ResidentTurns.{step-holds}
use Rattle.tripos_machine.proofs.PacketHistory.GuestMoves.{guest-moves}
use Rattle.tripos_machine.specs.PacketHistory.Steps.{due_in}
use Rattle.tripos_machine.proofs.PacketHistory.ReporterMoves.{recorded-moves, recorded-reads}
use Rattle.tripos_machine.proofs.PacketHistory.ResidentMoves.{resident-moves}
use Rattle.tripos_machine.proofs.PacketHistory.TakenMoves.{MovesInTurn, none-moved, then-moved}

module _ (due : KernelEvent → ℕ) (k : Kernel) (h : HoldsLists (image k) k.lists) (first : RunsFirst k.lists k.regs) (dues : (p : ℕ) → IsDueIn due (image k) k.lists p) where
  abbrev l : Lists
  l = k.lists

  abbrev Leads : Stepped → Type 0
  Leads m = MovesInTurn due (signed l.running) l m.events m.kernel.lists

  -- a guest's turn, also where a fault of it is recorded
  guest-leads : is_guest_id l.running ≡ true → Leads (guest_step k)
  guest-leads guest = guest-ways Turns (image k) l k.regs moved record-fault
    where
      Turns : GuestTurn → Type 0
      Turns m = MovesInTurn due (signed l.running) l m.events m.lists

      there : has_task l.running l.tasks ≡ true
      there = (runs-calls l k.regs first h.valid guest).there

      moved : Turns (turn_without_reporter (image k) l k.regs)
      moved = (let r = guest-moves due l h.valid there (image k) dues k.regs in record { moves = r.0; turn = r.1; takes = r.2 })

      record-fault : (f : Fault) → IsRecorded (image k) l k.regs f → Turns (with_recorded f (turn_without_reporter (image k) l k.regs))
      record-fault f r =
          let m : GuestTurn = turn_without_reporter (image k) l k.regs in
          let same : m.lists ≡ l = (fault-untouched l f (image k) k.regs r.ends).lists in
          then-moved due (signed l.running) l m.lists (recorded f m.lists) m.events (recorded_events f m.lists) moved
          (subst (λ n. MovesInTurn due (signed n) m.lists (recorded_events f m.lists) (recorded f m.lists)) (ap (λ (z : Lists). z.running) same)
          (recorded-moves due f m.lists (subst AreValid (sym same) h.valid) r.reporter))
          (recorded-reads f m.lists)

  turn-leads : Leads (turn k)
  turn-leads = on (is_guest_id l.running) refl
    where
      on : (b : Bool) → is_guest_id l.running ≡ b → Leads (turn k)
      on true guest = subst Leads (sym (turn-guest k guest)) (guest-leads guest)
      on false resident =
          elim (cases_eq l.running 0) [
            | inl nobody ↦ subst Leads (sym (turn-nobody k nobody)) (none-moved due (signed l.running) l l refl)
            | inr some ↦ subst Leads (sym (turn-resident k resident)) (resident-moves due k h (runs-resident l k.regs first h.valid resident some))
          ]

-- ---- in a step

-- a packet that it accepts is due so many ticks after those before the step as its word 5 says
pub turn-moves : (k : Kernel) → IsValid k → k.stop ≡ None
    → MovesInTurn (due_in k) (signed k.lists.running) k.lists (turn (with_step k)).events (turn (with_step k)).kernel.lists
unfolding image word_of
turn-moves k valid goes = turn-leads (due_in k) (with_step k) (step-holds k valid) (valid-runs k valid goes) (λ p q from. refl)
