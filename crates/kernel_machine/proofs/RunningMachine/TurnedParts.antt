-- What a guest's turn leaves of a machine.
use Rattle.std.proofs.Common.{◌≡◌, ℕ, List, length, Bool, true, false, not, Option, None, cond, eqb, refl, sym, ap, ◌∙◌, subst}
use Rattle.std.proofs.lemmas.Bool.{and_parts}
use Rattle.word_store.specs.declared.registers.Regs.{Regs}
use Rattle.instruction_set.specs.declared.Fault.{Fault}
use Rattle.kernel_model.specs.KernelRecord.ChangedStore.{IsChanged}
use Rattle.kernel_model.specs.KernelRecord.Image.{image}
use Rattle.kernel_model.specs.KernelRecord.Kernel.{Kernel}
use Rattle.kernel_model.specs.KernelRecord.Lists.{Lists}
use Rattle.kernel_model.specs.KernelRecord.NotedEvents.{NotesAll}
use Rattle.kernel_model.proofs.KernelRecord.ChangedLists.{changed-then, knows-same}
use Rattle.kernel_model.proofs.KernelRecord.ImageWords.{image-list}
use Rattle.kernel_model.proofs.KernelRecord.NotedInTurn.{notes-then}
use Rattle.kernel_model.specs.WordKinds.ByteMap.{MarksAll}
use Rattle.kernel_calls.specs.CallAnswers.Outside.{Outside}
use Rattle.guest_turns.specs.GuestTurn.{GuestTurn, IsTurned, numbers_of, turn_without_reporter}
use Rattle.guest_turns.specs.declared.turns.TurnEnd.{TurnEnd}
use Rattle.guest_turns.specs.declared.turns.TurnEnd.TheVariants.{Faults, Goes, Quits}
use Rattle.guest_turns.proofs.TurnFields.{turn-numbers}
use Rattle.guest_turns.proofs.TurnParts.{turn-size}
use Rattle.resident_tasks.specs.FaultReporter.Recorded.{CanRecord, OwnsSame, recorded, recorded_events}
use Rattle.kernel_model.specs.declared.kernel_record.stops.Stop.{Stop}
use Rattle.kernel_machine.specs.declared.running_machine.parts.Parts.{Parts}
use Rattle.kernel_machine.specs.RunningMachine.RepresentedKernels.{RepresentsKernel}
use Rattle.kernel_machine.specs.KernelSteps.GuestSteps.{after_turn, guest_step, is_recorded, reported_by, stop_by, turn_of_guest, with_recorded}
use Rattle.kernel_machine.proofs.KernelSteps.RunningCaller.{runs-alone, runs-calls}
use Rattle.kernel_machine.proofs.KernelSteps.TurnKept.{recorded-numbers}
use Rattle.kernel_machine.proofs.KernelSteps.TurnRules.{recordable}
use Rattle.kernel_machine.proofs.KernelSteps.TurnWays.{IsRecorded}
use Rattle.kernel_machine.specs.RunningMachine.Private.Leaves.{Leaves, RunsGuest}
use Rattle.kernel_machine.proofs.RunningMachine.LeftParts.{represents-changed}

-- where a turn does not end with a fault that is recorded
pub not-recorded : (e : TurnEnd) (m : GuestTurn) → ((f : Fault) → e ≡ Faults f → is_recorded m.lists f ≡ false) → reported_by e m ≡ m
not-recorded Goes m never = refl
not-recorded (Quits result) m never = refl
not-recorded (Faults f) m never = on (is_recorded m.lists f) (never f refl)
  where
    on : (b : Bool) → b ≡ false → cond b (with_recorded f m) m ≡ m
    on true e = cc
    on false e = refl

-- where the one fault is none that is recorded
pub one-fault : (e : TurnEnd) (g : Fault) (l : Lists) → e ≡ Faults g → is_recorded l g ≡ false → (f : Fault) → e ≡ Faults f → is_recorded l f ≡ false
one-fault e g l is none f same = let equal : f ≡ g = cc in ap (is_recorded l) equal ∙ none

module _ (p : Parts) (k : Kernel) (st : RepresentsKernel p k) (task : ℕ) (g : RunsGuest task k) where
  abbrev m : GuestTurn
  m = turn_without_reporter (image k) k.lists k.regs

  -- the store is the image
  turned-here : turn_without_reporter p.store k.lists p.regs ≡ m
  turned-here = λ i. turn_without_reporter (image-list p.store k st.image i) k.lists (st.regs i)

  size-here : length m.words ≡ length p.store
  size-here = turn-size k.lists (image k) k.regs ∙ ap length (sym (image-list p.store k st.image))

  numbers-here : numbers_of m.lists ≡ numbers_of k.lists
  numbers-here = turn-numbers (image k) k.lists k.regs (runs-alone k.lists k.regs g.can.first)

  module _ (t : List ℕ) (marks : List Bool) (regs : Regs) (o n : Outside) (end : TurnEnd) (is : IsTurned t regs (MarksAll marks) o n end (turn_without_reporter p.store k.lists p.regs)) (room : length marks ≡ length p.kinds) where
    now : IsTurned t regs (MarksAll marks) o n end m
    now = subst (IsTurned t regs (MarksAll marks) o n end) turned-here is

    -- no fault is recorded
    module _ (never : (f : Fault) → end ≡ Faults f → is_recorded (turn_without_reporter p.store k.lists p.regs).lists f ≡ false) where
      stays : turn_of_guest (image k) k.lists k.regs ≡ m
      stays = not-recorded m.ends m (λ f e. ap (λ (x : GuestTurn). is_recorded x.lists f) (sym turned-here) ∙ never f (now.ends ∙ e))

      pub leaves-turn : Leaves (record p { store = t; regs = regs; kinds = marks }) o n (guest_step k)
      leaves-turn =
          subst (λ x. Leaves (record p { store = t; regs = regs; kinds = marks }) o n (after_turn k x)) (sym stays)
          (record {
            represents = represents-changed p k st m.words t marks regs m.lists m.plain m.regs (stop_by k.lists.running m.ends) size-here now.lists now.knows room now.regs (ap (λ x. x.period) numbers-here);
            bytes = now.bytes;
            notes = now.notes;
          })

      pub stop-turn : (stop : Option Stop) → stop ≡ stop_by task end → stop ≡ (guest_step k).kernel.stop
      stop-turn stop e = e ∙ (λ i. stop_by (g.is i) (now.ends i)) ∙ ap (λ (x : GuestTurn). stop_by k.lists.running x.ends) (sym stays)

    -- a fault is recorded
    module _ (f : Fault) (faults : end ≡ Faults f) (records : is_recorded (turn_without_reporter p.store k.lists p.regs).lists f ≡ true) where
      told : is_recorded m.lists f ≡ true
      told = ap (λ (x : GuestTurn). is_recorded x.lists f) (sym turned-here) ∙ records

      not-six : (b : Bool) → not b ≡ true → b ≡ false
      not-six true e = cc
      not-six false e = refl

      is-recorded : IsRecorded (image k) k.lists k.regs f
      is-recorded =
          let both = and_parts _ _ told in
          record { ends = sym now.ends ∙ faults; reporter = both.0; other = not-six (eqb f.code 6) both.1 }

      pub can-record : CanRecord (turn_without_reporter p.store k.lists p.regs).lists f
      can-record = subst (λ (x : GuestTurn). CanRecord x.lists f) (sym turned-here) (recordable (image k) k.lists k.regs f (runs-calls k.lists k.regs g.can.first g.can.lists g.guest) is-recorded)

      records-it : turn_of_guest (image k) k.lists k.regs ≡ with_recorded f m
      records-it = ap (λ e. reported_by e m) is-recorded.ends ∙ ap (λ b. cond b (with_recorded f m) m) told

      pub leaves-recorded : (u : List ℕ) (noted : Outside) → OwnsSame t u (turn_without_reporter p.store k.lists p.regs).lists (recorded f (turn_without_reporter p.store k.lists p.regs).lists) → noted.shown ≡ n.shown
          → NotesAll n.noted noted.noted n.failed noted.failed (recorded_events f (turn_without_reporter p.store k.lists p.regs).lists) → Leaves (record p { store = u; regs = regs; kinds = marks }) o noted (guest_step k)
      leaves-recorded u noted owns shown notes =
          let here : OwnsSame t u m.lists (recorded f m.lists) = subst (λ (x : GuestTurn). OwnsSame t u x.lists (recorded f x.lists)) turned-here owns in
          let new : NotesAll n.noted noted.noted n.failed noted.failed (recorded_events f m.lists) = subst (λ (x : GuestTurn). NotesAll n.noted noted.noted n.failed noted.failed (recorded_events f x.lists)) turned-here notes in
          let changed : IsChanged m.words u (recorded f m.lists) m.plain = changed-then m.words t u m.lists (recorded f m.lists) m.plain now.lists here.lists (λ a none. sym (here.same a) ∙ none) in
          subst (λ x. Leaves (record p { store = u; regs = regs; kinds = marks }) o noted (after_turn k x)) (sym records-it)
          (record {
            represents =
                represents-changed p k st m.words u marks regs (recorded f m.lists) m.plain m.regs None size-here changed (knows-same (MarksAll marks) m.lists (recorded f m.lists) here.same now.knows) room now.regs
                (ap (λ x. x.period) (recorded-numbers f m.lists ∙ numbers-here));
            bytes = shown ∙ now.bytes;
            notes = notes-then o.noted n.noted noted.noted o.failed n.failed noted.failed m.events (recorded_events f m.lists) now.notes new;
          })

      pub stop-recorded : None ≡ (guest_step k).kernel.stop
      stop-recorded = ap (λ (x : GuestTurn). stop_by k.lists.running x.ends) (sym records-it)
