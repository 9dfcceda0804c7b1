-- The registers that the next task gets.
use Rattle.std.proofs.Common.{◌≡◌, ◌≢◌, ℕ, ◌+◌, ◌<◌, ◌&&◌, ◌||◌, Bool, true, false, Option, List, [], ◌∷◌, cond, eqb, get_or, leb, map, take, inl, inr, refl, sym, ap, ◌∙◌, subst, arith}
use Rattle.std.specs.List.{AllByRecursion}
use Rattle.std.specs.Prelude.{not}
use Rattle.std.proofs.lemmas.Bool.{and_parts, eq-eqb, eqb-true, ne_eqb, not-true}
use Rattle.word_store.specs.declared.registers.Regs.{Regs}
use Rattle.kernel_lists.specs.OwnedWords.LinkedWords.{first_of}
use Rattle.kernel_lists.specs.OwnedWords.Owned.{written}
use Rattle.kernel_lists.specs.PacketQueue.QueueWords.{QueuedPacket, address_of}
use Rattle.kernel_lists.specs.declared.packet_queue.events.KernelEvent.{KernelEvent}
use Rattle.kernel_lists.specs.TaskBlock.TaskChain.{id_in}
use Rattle.kernel_lists.specs.TaskBlock.HeldTasks.{address_with}
use Rattle.word_store.specs.Count.{IsApart}
use Rattle.kernel_model.specs.KernelRecord.Between.{is_ready}
use Rattle.kernel_model.specs.KernelRecord.ChangedStore.{HasKeeper}
use Rattle.kernel_model.specs.KernelRecord.Versions.{head_words_of}
use Rattle.kernel_model.proofs.KernelRecord.RootCounts.{head-low}
use Rattle.kernel_model.specs.KernelRecord.Changes.{change_of, with_task}
use Rattle.kernel_model.specs.KernelRecord.HoldsLists.{HoldsLists}
use Rattle.kernel_model.specs.KernelRecord.Lists.{Lists, address_of_task}
use Rattle.kernel_model.specs.KernelRecord.Task.{Task, globals_of, is_guest_id, queue_bit, stack_of, task_address, task_id, task_words}
use Rattle.kernel_model.specs.KernelRecord.ValidTasks.{IsField, no_regs}
use Rattle.kernel_model.proofs.KernelRecord.AllThings.{all-here}
use Rattle.kernel_model.proofs.KernelRecord.ChainSplits.{HasNumbered, IsBetween, address-between, address-none, found-between, numbered}
use Rattle.kernel_model.proofs.KernelRecord.EachMember.{all-each, holds-each}
use Rattle.kernel_model.proofs.KernelRecord.ReadCoroutines.{HoldsTask, holds-task}
use Rattle.kernel_model.proofs.KernelRecord.Reading.{read-lists}
use Rattle.kernel_model.proofs.KernelRecord.TaskPlaces.{TaskPlace, task-places, task-some}
use Rattle.kernel_model.specs.KernelDispatch.Dispatch.{entry_regs, guest_regs, packets_left, packets_taken, resumed_regs, suspended, unlinked_words, with_packet_taken}
use Rattle.kernel_model.specs.KernelDispatch.Private.DispatchWords.{entry_in, guest_regs_in, next_regs_in, running_in, saved_in}
use Rattle.kernel_model.specs.KernelDispatch.Turn.{HasTaken, IsNext}
use Rattle.kernel_model.proofs.KernelDispatch.ResumedTask.{takes-suspended}
use Rattle.kernel_model.proofs.KernelDispatch.SuspendedLists.{none-runs, running-held}
use Rattle.kernel_model.proofs.KernelDispatch.TakenWork.{between-taken, is-task}
use Rattle.kernel_model.proofs.KernelDispatch.TaskStates.{TellsTask, tells-tasks}

true-false : true ≡ false → ⊥
true-false e = cc

-- ---- one task of a store

module _ (s : List ℕ) (l : Lists) (w : Task) (h : HoldsLists s l) (b : IsBetween l.tasks w) where
  pub own : HoldsTask s l.version w
  own =
      all-here (HoldsTask s l.version) b.front w b.back
      (subst (AllByRecursion (HoldsTask s l.version)) b.is
      (holds-each task_address (task_words l.version) s (HoldsTask s l.version) (λ t n k. holds-task s l.version t n k) l.tasks 0 (read-lists s l h.valid h.size h.holds).held_tasks.holds.1))

  told : TellsTask s w
  told = all-here (TellsTask s) b.front w b.back (subst (AllByRecursion (TellsTask s)) b.is (tells-tasks s l h))

  some : 0 < w.address
  some = all-here (λ z. 0 < z.address) b.front w b.back (subst (AllByRecursion (λ z. 0 < z.address)) b.is (all-each (TaskPlace l) (λ z. 0 < z.address) (task-some l) l.tasks (task-places l h.valid)))

  -- another task has another address
  other-address : (c : Task) → IsBetween l.tasks c → c.id ≢ w.id → c.address ≢ w.address
  other-address c k ne same =
      let tells : TellsTask s c = all-here (TellsTask s) k.front c k.back (subst (AllByRecursion (TellsTask s)) k.is (tells-tasks s l h)) in
      ne (sym tells.id ∙ ap (id_in s) same ∙ told.id)

  -- the word of the root names it where it runs
  pub runs-told : eqb (running_in s) w.address ≡ eqb w.id l.running
  runs-told = on (eqb w.id l.running) refl
    where
      on : (x : Bool) → eqb w.id l.running ≡ x → eqb (running_in s) w.address ≡ x
      on true e =
          eq-eqb (running_in s) w.address
          (running-held s l h ∙ ap (address_of_task l) (sym (eqb-true w.id l.running e)) ∙ ap (λ ts. address_with task_address task_id ts w.id) b.is
          ∙ address-between b.front w b.back (subst (λ ts. IsApart (map task_id ts)) b.is h.valid.tasks.distinct))
      on false e = ne_eqb (running_in s) w.address (elim h.valid.queues.running [ inl none ↦ nobody none | inr there ↦ somebody (numbered l.running l.tasks there) ])
        where
          nobody : l.running ≡ 0 → running_in s ≢ w.address
          nobody none same =
              absurd (omega (arith, some, same, running-held s l h ∙ ap (address_of_task l) none ∙ address-none 0 l.tasks (none-runs l (task-places l h.valid))))

          somebody : HasNumbered l.running l.tasks → running_in s ≢ w.address
          somebody n same =
              other-address n.task n.between (λ k. absurd (true-false (sym (eq-eqb w.id l.running (sym k ∙ n.number)) ∙ e)))
              (sym (address-between n.between.front n.task n.between.back (subst (λ ts. IsApart (map task_id ts)) n.between.is h.valid.tasks.distinct))
              ∙ sym (ap (λ ts. address_with task_address task_id ts n.task.id) n.between.is) ∙ ap (address_of_task l) n.number ∙ sym (running-held s l h) ∙ same)

  abbrev words_saved : Regs
  words_saved = record { a = get_or s (w.address + 11) 0; b = get_or s (w.address + 12) 0; c = get_or s (w.address + 13) 0; p = get_or s (w.address + 14) 0; g = get_or s (w.address + 15) 0; pc = get_or s (w.address + 16) 0 }

  words-saved : words_saved ≡ w.saved
  words-saved =
      let k = own.state.1.1.1.1.1.1.1 in
      λ i. record { a = k.0 i; b = k.1.0 i; c = k.1.1.0 i; p = k.1.1.1.0 i; g = k.1.1.1.1.0 i; pc = k.1.1.1.1.1.0 i }

  -- the saved registers, or the live ones where it runs
  pub saved-told : (r : Regs) → saved_in s r w.address ≡ (change_of l.running (suspended r) w).saved
  saved-told r = ap (λ x. cond x r words_saved) runs-told ∙ on (eqb w.id l.running)
    where
      on : (x : Bool) → cond x r words_saved ≡ (cond x (suspended r w) w).saved
      on true = refl
      on false = words-saved

-- ---- which registers

abbrev by_state : ℕ → Regs → Regs → Regs → Regs
by_state n dead saved waiting = cond (leb 12 n) dead (cond (leb 8 n) saved waiting)

abbrev by_its_field : ℕ → Regs → Regs → Regs → Regs
by_its_field f dead saved waiting = cond (eqb f 12) dead (cond (eqb f 4) waiting saved)

-- the three ways on
same-way : (n : ℕ) (ps : List QueuedPacket) (d s p d' s' p' : Regs) → IsField n → n ≢ 0 → (n ≡ 12 → d ≡ d') → s ≡ s' → (n ≡ 4 → p ≡ p') → by_state (n + queue_bit ps + 0) d s p ≡ by_its_field n d' s' p'
same-way n ps d s p d' s' p' f some dead saved waits = on ps f
  where
    on : (ps : List QueuedPacket) → IsField n → by_state (n + queue_bit ps + 0) d s p ≡ by_its_field n d' s' p'
    on [] (inl e) = absurd (some e)
    on [] (inr (inl e)) = ap (λ m. by_state (m + 0 + 0) d s p) e ∙ waits e ∙ sym (ap (λ m. by_its_field m d' s' p') e)
    on [] (inr (inr (inl e))) = ap (λ m. by_state (m + 0 + 0) d s p) e ∙ saved ∙ sym (ap (λ m. by_its_field m d' s' p') e)
    on [] (inr (inr (inr e))) = ap (λ m. by_state (m + 0 + 0) d s p) e ∙ dead e ∙ sym (ap (λ m. by_its_field m d' s' p') e)
    on (q ∷ qs) (inl e) = absurd (some e)
    on (q ∷ qs) (inr (inl e)) = ap (λ m. by_state (m + 1 + 0) d s p) e ∙ waits e ∙ sym (ap (λ m. by_its_field m d' s' p') e)
    on (q ∷ qs) (inr (inr (inl e))) = ap (λ m. by_state (m + 1 + 0) d s p) e ∙ saved ∙ sym (ap (λ m. by_its_field m d' s' p') e)
    on (q ∷ qs) (inr (inr (inr e))) = ap (λ m. by_state (m + 1 + 0) d s p) e ∙ dead e ∙ sym (ap (λ m. by_its_field m d' s' p') e)

-- ---- the next task

-- what a suspension leaves as it was
pub record SameWork (t w : Task) : Type 0 where
  pub id : t.id ≡ w.id
  pub queue : t.queue ≡ w.queue
  pub taken : packets_taken t ≡ packets_taken w
  pub stack : (v : ℕ) → stack_of v t ≡ stack_of v w
  pub globals : (v : ℕ) → globals_of v t ≡ globals_of v w

pub same-work : (j : ℕ) (r : Regs) (w : Task) → SameWork (change_of j (suspended r) w) w
same-work j r w = on (eqb w.id j)
  where
    on : (b : Bool) → SameWork (cond b (suspended r w) w) w
    on true = record { id = refl; queue = refl; taken = ap (λ b. cond b (take 1 w.queue) []) (takes-suspended r w); stack = λ v. refl; globals = λ v. refl }
    on false = record { id = refl; queue = refl; taken = refl; stack = λ v. refl; globals = λ v. refl }

same-field : (j : ℕ) (r : Regs) (w : Task) → w.field ≢ 0 → (change_of j (suspended r) w).field ≡ w.field
same-field j r w some = on (eqb w.id j)
  where
    on : (b : Bool) → (cond b (suspended r w) w).field ≡ w.field
    on true = ap (λ b. cond b 8 w.field) (ne_eqb w.field 0 some)
    on false = refl

same-saved : (j : ℕ) (r : Regs) (w : Task) → (change_of j (suspended r) (with_packet_taken w)).saved ≡ (change_of j (suspended r) w).saved
same-saved j r w = on (eqb w.id j)
  where
    on : (b : Bool) → (cond b (suspended r (with_packet_taken w)) (with_packet_taken w)).saved ≡ (cond b (suspended r w) w).saved
    on true = refl
    on false = refl

first-one : (ps : List QueuedPacket) → first_of address_of (take 1 ps) 0 ≡ first_of address_of ps 0
first-one [] = refl
first-one (p ∷ ps) = refl

module _ (s0 s1 : List ℕ) (tells told : List ℕ → Type 0) (room : ℕ) (l : Lists) (w : Task) (t : ℕ) (k : HasKeeper s0 tells room l) (n : IsNext l w t) (r : Regs) (packet : ℕ)
    (before mid : Option (List KernelEvent)) (f g : Bool) (x : HasTaken s0 s1 l w packet told before mid f g) (some_field : w.field ≢ 0) where
  abbrev l1 : Lists
  l1 = with_task w.id with_packet_taken l

  abbrev next : Task
  next = change_of l.running (suspended r) w

  abbrev words : List ℕ
  words = written (unlinked_words (packets_taken next)) s0

  abbrev same : SameWork next w
  same = same-work l.running r w

  abbrev mine : HoldsTask s1 l.version (with_packet_taken w)
  mine = own s1 l1 (with_packet_taken w) x.lists.lists (between-taken s0 tells room l w t k n)

  packet-is : is_guest_id w.id ≡ true → (eqb w.field 4 || eqb w.field 12) ≡ true → packet ≡ first_of address_of next.queue 0
  packet-is guest takes =
      x.taken ∙ ap (λ z. first_of address_of z 0) ((λ i. cond (guest i && takes i) (take 1 w.queue) [])) ∙ first-one w.queue ∙ ap (λ z. first_of address_of z 0) (sym same.queue)

  entry-word : is_guest_id w.id ≡ true → get_or s1 (get_or s1 (w.address + 8) 0 + 1) 0 ≡ get_or words (globals_of l.version next + 1) 0
  entry-word guest =
      let at : globals_of l.version w ≡ w.address + head_words_of l.version = ap (λ b. cond b (w.address + head_words_of l.version) 0) guest in
      ap (λ z. get_or s1 (z + 1) 0) mine.state.1.1.1.1.0
      ∙ x.others (globals_of l.version w + 1) (λ e. absurd (omega (arith, e, at, head-low l.version))) (λ e. absurd (omega (arith, e, at, head-low l.version)))
      ∙ (λ i. get_or (written (unlinked_words (sym same.taken i)) s0) (sym (same.globals l.version) i + 1) 0)

  guest-regs : is_guest_id w.id ≡ true → guest_regs_in s1 r w.address packet ≡ guest_regs l.version words next
  guest-regs guest =
      let held : w.held ≡ false = not-true w.held (and_parts (not w.held) _ (found-between is_ready l.tasks w n.first).1).0 in
      let saved : saved_in s1 r w.address ≡ next.saved = saved-told s1 l1 (with_packet_taken w) x.lists.lists (between-taken s0 tells room l w t k n) r ∙ same-saved l.running r w in
      let d : Regs = entry_in s1 w.address packet in
      let s : Regs = saved_in s1 r w.address in
      let p : Regs = record s { a = packet; b = 0 } in
      let d' : Regs = entry_regs l.version words next in
      let p' : Regs = record next.saved { a = first_of address_of next.queue 0; b = 0 } in
      ap (λ m. by_state m d s p) (mine.state.0 ∙ ap (λ h. w.field + queue_bit (packets_left w) + cond h 2 0) held)
      ∙ same-way w.field (packets_left w) d s p d' next.saved p' (is-task s0 tells room l w t k n).field some_field
      (λ e. λ i. record {
        a = packet-is guest (ap (λ z. eqb z 4 || eqb z 12) e) i;
        b = 0;
        c = 0;
        p = (mine.state.1.1.0 ∙ sym (same.stack l.version)) i;
        g = (mine.state.1.1.1.1.0 ∙ sym (same.globals l.version)) i;
        pc = entry-word guest i;
      })
      saved
      (λ e. λ i. record (saved i) { a = packet-is guest (ap (λ z. eqb z 4 || eqb z 12) e) i; b = 0 })
      ∙ sym (ap (λ m. by_its_field m d' next.saved p') (same-field l.running r w some_field))

  pub next-regs : next_regs_in s1 r w.address packet ≡ resumed_regs l.version words next
  next-regs =
      ap (λ i. cond (is_guest_id i) (guest_regs_in s1 r w.address packet) no_regs) mine.names.0
      ∙ on (is_guest_id w.id) refl
      ∙ sym (ap (λ i. cond (is_guest_id i) (guest_regs l.version words next) no_regs) same.id)
    where
      on : (b : Bool) → is_guest_id w.id ≡ b → cond b (guest_regs_in s1 r w.address packet) no_regs ≡ cond b (guest_regs l.version words next) no_regs
      on true guest = guest-regs guest
      on false guest = refl
