-- The next task goes on: the whole of the dispatch.
use Rattle.std.proofs.Common.{◌≡◌, ◌≢◌, ℕ, pos, ◌+◌, ◌&&◌, Bool, true, false, Option, Some, List, [], ◌∷◌, ◌++◌, cond, eqb, get_or, map, refl, sym, ap, ◌∙◌, subst}
use Rattle.std.specs.Option.{option_map}
use Rattle.std.proofs.lemmas.Bool.{eq-eqb}
use Rattle.std.proofs.lemmas.List.{map-append}
use Rattle.std.specs.List.{AllByRecursion}
use Rattle.word_store.specs.Count.{IsApart}
use Rattle.word_store.specs.Arithmetic.{signed}
use Rattle.word_store.specs.declared.registers.Regs.{Regs}
use Rattle.kernel_lists.specs.OwnedWords.Owned.{owners}
use Rattle.kernel_lists.specs.PacketQueue.Log.{Notes}
use Rattle.kernel_lists.specs.declared.packet_queue.events.KernelEvent.{KernelEvent}
use Rattle.kernel_lists.specs.declared.packet_queue.events.KernelEvent.TheVariants.{Runs, Taken}
use Rattle.kernel_model.specs.KernelRecord.Between.{is_ready}
use Rattle.kernel_model.specs.KernelRecord.ChangedStore.{HasKeeper, IsChanged, Knows}
use Rattle.kernel_model.specs.KernelRecord.Changes.{change_of, with_task, with_tasks}
use Rattle.kernel_model.specs.KernelRecord.Lists.{Lists}
use Rattle.kernel_model.specs.KernelRecord.NotedEvents.{NotesAll}
use Rattle.kernel_model.specs.KernelRecord.Owned.{owned}
use Rattle.kernel_model.specs.KernelRecord.Task.{Task, task_id}
use Rattle.kernel_model.specs.KernelRecord.ValidTasks.{runs}
use Rattle.kernel_model.proofs.KernelRecord.AllThings.{all-here}
use Rattle.kernel_model.proofs.KernelRecord.ChainSplits.{IsBetween, change-between, found-between}
use Rattle.kernel_model.proofs.KernelRecord.ChangedLists.{changed-then, knows-same}
use Rattle.kernel_model.proofs.KernelRecord.NotedInTurn.{notes-one, notes-then}
use Rattle.kernel_model.proofs.KernelRecord.RunningTask.{with_running}
use Rattle.kernel_model.specs.KernelDispatch.Dispatch.{CanDispatch, DispatchChange, dispatched, first_ready_task, goes_on, packets_taken, resumed, started, suspended, taken_event, unchanged, unlinked_words, with_next, with_packet_taken, with_resumed, with_suspended}
use Rattle.kernel_model.specs.KernelDispatch.Private.DispatchWords.{next_regs_in, with_running_saved, with_started}
use Rattle.kernel_model.specs.KernelDispatch.Turn.{HasTaken, IsDispatched, IsNext}
use Rattle.kernel_model.proofs.KernelDispatch.NextRegisters.{next-regs, own, same-work}
use Rattle.kernel_model.proofs.KernelDispatch.ResumedTask.{all-changes, first-suspended}
use Rattle.kernel_model.proofs.KernelDispatch.StartedTask.{changed-started, owners-started}
use Rattle.kernel_model.proofs.KernelDispatch.SuspendedLists.{IsSuspended, lists-suspended}
use Rattle.kernel_model.proofs.KernelDispatch.TakenWork.{between-taken}

-- a task in its place, once all tasks have changed
between-map : (f : Task → Task) (ts : List Task) (t : Task) → IsBetween ts t → IsBetween (map f ts) (f t)
between-map f ts t b = record { front = map f b.front; back = map f b.back; is = ap (map f) b.is ∙ map-append f b.front (t ∷ b.back) }

-- a task that goes on and did not run has not the field of one that runs
true-both : (i j f : ℕ) → (eqb i j && eqb f 0) ≡ false → (f ≡ 0 → i ≡ j) → f ≢ 0
true-both i j f off same none = (let e : (true && true) ≡ false = sym (λ k. eq-eqb i j (same none) k && eq-eqb f 0 none k) ∙ off in cc)

module _ (l : Lists) (w : Task) (t : ℕ) (n : IsNext l w t) (r : Regs) (off : goes_on l (Some w) ≡ false) where
  abbrev next : Task
  next = change_of l.running (suspended r) w

  -- what the dispatch is
  dispatch-is : (s : List ℕ) → dispatched s l r ≡ with_resumed s next (with_suspended r l)
  unfolding dispatched
  dispatch-is s =
      ap (λ o. cond (goes_on l o) (unchanged l r) (with_next s (with_suspended r l) (first_ready_task (with_suspended r l)))) n.first
      ∙ ap (λ b. cond b (unchanged l r) (with_next s (with_suspended r l) (first_ready_task (with_suspended r l)))) off
      ∙ ap (with_next s (with_suspended r l)) (first-suspended l.running r l.tasks ∙ ap (option_map (change_of l.running (suspended r))) n.first)

module _ (s0 s1 s2 s3 : List ℕ) (tells told : List ℕ → Type 0) (room : ℕ) (l : Lists) (w : Task) (t : ℕ) (k : HasKeeper s0 tells room l) (n : IsNext l w t) (r r' : Regs)
    (can : CanDispatch l r) (off : goes_on l (Some w) ≡ false) (packet : ℕ) (before mid now : Option (List KernelEvent)) (f g e : Bool)
    (x : HasTaken s0 s1 l w packet told before mid f g) (saved : s2 ≡ with_running_saved s1 r) (start : s3 ≡ with_started s2 t) (regs : r' ≡ next_regs_in s1 r t packet)
    (notes : Notes mid now g e (Runs (get_or s1 (t + 1) 0))) where
  abbrev goal : Task
  goal = change_of l.running (suspended r) w

  abbrev l1 : Lists
  l1 = with_task w.id with_packet_taken l

  abbrev l2 : Lists
  l2 = with_suspended r l1

  abbrev w2 : Task
  w2 = change_of l.running (suspended r) (with_packet_taken w)

  suspends : IsSuspended s1 s2 l1 l2
  suspends = lists-suspended s1 s2 l1 r x.lists.lists can.registers.byte can.registers.idle saved

  abbrev place : IsBetween l2.tasks w2
  place = between-map (change_of l.running (suspended r)) l1.tasks (with_packet_taken w) (between-taken s0 tells room l w t k n)

  abbrev l3 : Lists
  l3 = with_running w2.id (with_tasks (place.front ++ started w2 ∷ place.back) l2)

  same-id : w2.id ≡ w.id
  same-id = on (eqb w.id l.running)
    where
      on : (b : Bool) → (cond b (suspended r (with_packet_taken w)) (with_packet_taken w)).id ≡ w.id
      on true = refl
      on false = refl

  same-address : w2.address ≡ t
  same-address = on (eqb w.id l.running) ∙ n.address
    where
      on : (b : Bool) → (cond b (suspended r (with_packet_taken w)) (with_packet_taken w)).address ≡ w.address
      on true = refl
      on false = refl

  runs-then : IsChanged s2 s3 l3 []
  runs-then = changed-started s2 s3 l2 place.front w2 place.back place.is suspends.lists.lists (start ∙ ap (with_started s2) (sym same-address))

  same-tasks : place.front ++ started w2 ∷ place.back ≡ map (change_of goal.id resumed) (map (change_of l.running (suspended r)) l.tasks)
  same-tasks =
      sym (change-between started place.front w2 place.back (subst (λ ts. IsApart (map task_id ts)) place.is suspends.lists.lists.valid.tasks.distinct))
      ∙ ap (map (change_of w2.id started)) (sym place.is)
      ∙ ap (λ i. map (change_of i started) l2.tasks) same-id
      ∙ all-changes w.id l.running r l.tasks
      ∙ ap (λ i. map (change_of i resumed) (map (change_of l.running (suspended r)) l.tasks)) (sym (same-work l.running r w).id)

  abbrev d : DispatchChange
  d = with_resumed s0 goal (with_suspended r l)

  same-lists : l3 ≡ d.lists
  same-lists = λ i. with_running ((same-id ∙ sym (same-work l.running r w).id) i) (with_tasks (same-tasks i) l)

  owners-kept : (a : ℕ) → owners a (owned l1) ≡ owners a (owned l3)
  owners-kept a = suspends.owners a ∙ owners-started s2 s3 l2 place.front w2 place.back place.is suspends.lists.lists a

  changed : IsChanged s0 s3 d.lists d.plain
  changed =
      subst (λ z. IsChanged s0 s3 z d.plain) same-lists
      (subst (λ z. IsChanged s0 s3 l3 (unlinked_words z)) (sym (same-work l.running r w).taken)
      (changed-then s0 s2 s3 l2 l3 (unlinked_words (packets_taken w))
      (changed-then s0 s1 s2 l1 l2 (unlinked_words (packets_taken w)) x.lists suspends.lists (λ a none. suspends.owners a ∙ none))
      runs-then (λ a none. sym (suspends.owners a) ∙ owners-kept a ∙ none)))

  events : NotesAll before now f e d.events
  events =
      let id : get_or s1 (t + 1) 0 ≡ w.id = ap (λ z. get_or s1 (z + 1) 0) (sym n.address) ∙ (own s1 l1 (with_packet_taken w) x.lists.lists (between-taken s0 tells room l w t k n)).names.0 in
      let same = same-work l.running r w in
      subst (NotesAll before now f e) (λ i. map (λ p. Taken (pos (sym same.id i)) p.address (signed p.sender)) (sym same.taken i) ++ Runs ((id ∙ sym same.id) i) ∷ [])
      (notes-then before mid now f g e (map (taken_event w) (packets_taken w)) (Runs (get_or s1 (t + 1) 0) ∷ []) x.notes (notes-one mid now g e (Runs (get_or s1 (t + 1) 0)) notes))

  registers : r' ≡ d.regs
  registers =
      regs ∙ ap (λ z. next_regs_in s1 r z packet) (sym n.address)
      ∙ next-regs s0 s1 tells told room l w t k n r packet before mid f g x
      (true-both w.id l.running w.field off
      (let b = (found-between is_ready l.tasks w n.first).0 in
      all-here (λ z. z.field ≡ runs → z.id ≡ l.running) b.front w b.back (subst (AllByRecursion (λ z. z.field ≡ runs → z.id ≡ l.running)) b.is can.field)))

  pub resumes : IsDispatched s0 s3 l r r' told before now f e
  resumes =
      let is : d ≡ dispatched s0 l r = sym (dispatch-is l w t n r off s0) in
      record {
        lists = subst (λ z. IsChanged s0 s3 z.lists z.plain) is changed;
        regs = registers ∙ ap (λ z. z.regs) is;
        knows = subst (λ z. Knows told z.lists) is (subst (Knows told) same-lists (knows-same told l1 l3 (λ a. sym (owners-kept a)) x.knows));
        notes = subst (λ z. NotesAll before now f e z.events) is events;
      }
