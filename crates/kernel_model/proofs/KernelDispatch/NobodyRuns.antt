-- Nobody runs any more, or the running task goes on.
use Rattle.std.proofs.Common.{◌≡◌, ℕ, ◌&&◌, Bool, true, false, Option, Some, None, List, [], ◌∷◌, cond, eqb, ltb, map, set, inl, inr, refl, sym, ap, ◌∙◌, subst, arith}
use Rattle.std.specs.List.{AllByRecursion}
use Rattle.std.specs.Option.{option_map}
use Rattle.std.proofs.lemmas.Bool.{eq-eqb, ne_eqb}
use Rattle.word_store.specs.Count.{IsApart}
use Rattle.word_store.specs.declared.registers.Regs.{Regs}
use Rattle.kernel_lists.specs.TaskBlock.HeldTasks.{address_with}
use Rattle.kernel_lists.specs.PacketQueue.QueueWords.{QueuedPacket}
use Rattle.kernel_lists.specs.declared.packet_queue.events.KernelEvent.{KernelEvent}
use Rattle.kernel_lists.specs.declared.packet_queue.events.KernelEvent.TheVariants.{Runs}
use Rattle.kernel_model.specs.KernelRecord.ChangedStore.{HasKeeper, IsChanged, Knows}
use Rattle.kernel_model.specs.KernelRecord.Changes.{change_of}
use Rattle.kernel_model.specs.KernelRecord.HoldsLists.{HoldsLists}
use Rattle.kernel_model.specs.KernelRecord.Lists.{Lists, address_of_task}
use Rattle.kernel_model.specs.KernelRecord.NotedEvents.{NotesAll}
use Rattle.kernel_model.specs.KernelRecord.Task.{Task, state_word, task_address, task_id}
use Rattle.kernel_model.specs.KernelRecord.ValidTasks.{IsField, no_regs}
use Rattle.kernel_model.proofs.KernelRecord.AllThings.{all-here}
use Rattle.kernel_model.proofs.KernelRecord.ChainSplits.{HasNumbered, address-between, address-none, numbered}
use Rattle.kernel_model.proofs.KernelRecord.ChangedLists.{changed-none, changed-then, knows-same, running-changed}
use Rattle.kernel_model.proofs.KernelRecord.NotedInTurn.{notes-none}
use Rattle.kernel_model.proofs.KernelRecord.RunningTask.{owners-running, running-valid, with_running}
use Rattle.kernel_model.proofs.KernelRecord.TaskPlaces.{TaskPlace, task-places, task-some}
use Rattle.kernel_model.specs.KernelDispatch.Dispatch.{CanDispatch, dispatched, first_ready_block, first_ready_task, goes_on, suspended, unchanged, with_next, with_nobody, with_suspended}
use Rattle.kernel_model.specs.KernelDispatch.Private.DispatchWords.{goes_on_in, running_in, state_of, with_running_saved}
use Rattle.kernel_model.specs.KernelDispatch.Turn.{IsDispatched, IsNext}
use Rattle.kernel_model.proofs.KernelDispatch.NextRegisters.{runs-told}
use Rattle.kernel_model.proofs.KernelDispatch.ResumedTask.{first-suspended}
use Rattle.kernel_model.proofs.KernelDispatch.SuspendedLists.{IsSuspended, lists-suspended, none-runs, running-held}
use Rattle.kernel_model.proofs.KernelDispatch.TakenWork.{has-state, is-between, is-task}
use Rattle.kernel_model.proofs.KernelDispatch.TaskStates.{by-field}

-- ---- whether somebody runs

pub somebody-told : (s : List ℕ) (l : Lists) → HoldsLists s l → eqb (running_in s) 0 ≡ eqb l.running 0
somebody-told s l h = elim h.valid.queues.running [ inl none ↦ nobody none | inr some ↦ somebody (numbered l.running l.tasks some) ]
  where
    places : AllByRecursion (TaskPlace l) l.tasks
    places = task-places l h.valid

    nobody : l.running ≡ 0 → eqb (running_in s) 0 ≡ eqb l.running 0
    nobody none =
        eq-eqb (running_in s) 0 (running-held s l h ∙ ap (address_of_task l) none ∙ address-none 0 l.tasks (none-runs l places)) ∙ sym (eq-eqb l.running 0 none)

    somebody : HasNumbered l.running l.tasks → eqb (running_in s) 0 ≡ eqb l.running 0
    somebody n =
        let p : TaskPlace l n.task = all-here (TaskPlace l) n.between.front n.task n.between.back (subst (AllByRecursion (TaskPlace l)) n.between.is places) in
        let word : running_in s ≡ n.task.address =
        running-held s l h ∙ ap (address_of_task l) (sym n.number) ∙ ap (λ ts. address_with task_address task_id ts n.task.id) n.between.is
        ∙ address-between n.between.front n.task n.between.back (subst (λ ts. IsApart (map task_id ts)) n.between.is h.valid.tasks.distinct)
        in
        ne_eqb (running_in s) 0 (λ e. absurd (omega (arith, e, word, task-some l n.task p)))
        ∙ sym (ne_eqb l.running 0 (λ e. absurd (omega (arith, e, n.number, p.low_id))))

-- ---- nobody runs

module _ (s t : List ℕ) (l : Lists) (r r' : Regs) (tells : List ℕ → Type 0) (h : HoldsLists s l) (k : Knows tells l) (can : CanDispatch l r) (none : first_ready_task l ≡ None)
    (is : t ≡ set (with_running_saved s r) 102 0) (regs : r' ≡ no_regs) (before now : Option (List KernelEvent)) (f g : Bool)
    (notes : NotesAll before now f g (cond (eqb (running_in s) 0) [] (Runs 0 ∷ []))) where
  abbrev m : Lists
  m = with_suspended r l

  dispatch-is : dispatched s l r ≡ with_nobody m
  unfolding dispatched
  dispatch-is =
      ap (λ o. cond (goes_on l o) (unchanged l r) (with_next s m (first_ready_task m))) none
      ∙ ap (with_next s m) (first-suspended l.running r l.tasks ∙ ap (option_map (change_of l.running (suspended r))) none)

  suspends : IsSuspended s (with_running_saved s r) l m
  suspends = lists-suspended s (with_running_saved s r) l r h can.registers.byte can.registers.idle refl

  changed : IsChanged s t (with_running 0 m) []
  changed =
      let v : HoldsLists (with_running_saved s r) m = suspends.lists.lists in
      changed-then s (with_running_saved s r) t m (with_running 0 m) [] suspends.lists
      (running-changed (with_running_saved s r) t m 0 v (running-valid m 0 v.valid (inl refl))
      (is ∙ ap (set (with_running_saved s r) 102) (sym (address-none 0 m.tasks (none-runs m (task-places m v.valid))))))
      (λ a e. sym (owners-running m 0 a) ∙ e)

  pub nobody-runs : IsDispatched s t l r r' tells before now f g
  nobody-runs =
      let d : with_nobody m ≡ dispatched s l r = sym dispatch-is in
      record {
        lists = subst (λ z. IsChanged s t z.lists z.plain) d changed;
        regs = regs ∙ ap (λ z. z.regs) d;
        knows = subst (λ z. Knows tells z.lists) d (knows-same tells l (with_running 0 m) (λ a. owners-running m 0 a ∙ sym (suspends.owners a)) k);
        notes = subst (λ z. NotesAll before now f g z.events) d (subst (λ b. NotesAll before now f g (cond b [] (Runs 0 ∷ []))) (somebody-told s l h) notes);
      }

-- ---- the running task goes on

abbrev SaysRuns : Task → Bool → List QueuedPacket → ℕ → Type 0
SaysRuns t h ps n = ltb (state_word (record t { field = n; held = h; queue = ps })) 4 ≡ eqb n 0

runs-state : (t : Task) → IsField t.field → ltb (state_word t) 4 ≡ eqb t.field 0
runs-state t f = on t.held t.queue
  where
    on : (h : Bool) (ps : List QueuedPacket) → SaysRuns t h ps t.field
    on true [] = by-field (SaysRuns t true []) refl refl refl refl t.field f
    on true (p ∷ ps) = by-field (SaysRuns t true (p ∷ ps)) refl refl refl refl t.field f
    on false [] = by-field (SaysRuns t false []) refl refl refl refl t.field f
    on false (p ∷ ps) = by-field (SaysRuns t false (p ∷ ps)) refl refl refl refl t.field f

-- the first ready task, from its block
pub next-some : (l : Lists) (t : ℕ) → Some t ≡ first_ready_block l → (w : Task) × IsNext l w t
next-some l t e = on (first_ready_task l) refl e
  where
    on : (o : Option Task) → first_ready_task l ≡ o → Some t ≡ option_map task_address o → (w : Task) × IsNext l w t
    on None is e = cc
    on (Some w) is e = (w, record { first = is; address = (let s : t ≡ w.address = cc in sym s) })

pub next-none : (l : Lists) → None ≡ first_ready_block l → first_ready_task l ≡ None
next-none l e = on (first_ready_task l) e
  where
    on : (o : Option Task) → None ≡ option_map task_address o → o ≡ None
    on None e = refl
    on (Some w) e = cc

-- what the store says of it
pub goes-told : (s : List ℕ) (tells : List ℕ → Type 0) (room : ℕ) (l : Lists) (w : Task) (t : ℕ) → HasKeeper s tells room l → IsNext l w t → goes_on_in s (Some t) ≡ goes_on l (Some w)
goes-told s tells room l w t k n =
    ap (λ z. eqb (running_in s) z && ltb (state_of s z) 4) (sym n.address)
    ∙ (λ i. runs-told s l w k.lists (is-between s tells room l w t k n) i && ltb (has-state s tells room l w t k n i) 4)
    ∙ ap (λ b. eqb w.id l.running && b) (runs-state w (is-task s tells room l w t k n).field)

stays : (s : List ℕ) (tells : List ℕ → Type 0) (room : ℕ) (l : Lists) (w : Task) (t : ℕ) (r : Regs) → HasKeeper s tells room l → IsNext l w t → goes_on_in s (Some t) ≡ true → dispatched s l r ≡ unchanged l r
unfolding dispatched
stays s tells room l w t r k n runs =
    ap (λ o. cond (goes_on l o) (unchanged l r) (with_next s (with_suspended r l) (first_ready_task (with_suspended r l)))) n.first
    ∙ ap (λ b. cond b (unchanged l r) (with_next s (with_suspended r l) (first_ready_task (with_suspended r l)))) (sym (goes-told s tells room l w t k n) ∙ runs)

pub goes-on : (s : List ℕ) (tells : List ℕ → Type 0) (room : ℕ) (l : Lists) (next : Option ℕ) (r : Regs) → HasKeeper s tells room l → next ≡ first_ready_block l → goes_on_in s next ≡ true
    → (events : Option (List KernelEvent)) (f : Bool) → IsDispatched s s l r r tells events events f f
goes-on s tells room l None r k next runs events f = cc
goes-on s tells room l (Some t) r k next runs events f =
    let n = next-some l t next in
    let d : unchanged l r ≡ dispatched s l r = sym (stays s tells room l n.0 t r k n.1 runs) in
    record {
      lists = subst (λ z. IsChanged s s z.lists z.plain) d (changed-none s l k.lists);
      regs = ap (λ z. z.regs) d;
      knows = subst (λ z. Knows tells z.lists) d k.knows;
      notes = subst (λ z. NotesAll events events f f z.events) d (notes-none events f);
    }
