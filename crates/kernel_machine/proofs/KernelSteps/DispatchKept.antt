-- What a dispatch leaves: the first ready task runs, and the numbers stay.
use Rattle.std.proofs.Common.{◌≡◌, ℕ, ◌<◌, ◌&&◌, Bool, true, false, Option, Some, None, List, map, cond, eqb, refl, sym, ap, ◌∙◌, subst, arith}
use Rattle.std.specs.List.{AllByRecursion}
use Rattle.std.specs.Option.{option_map_or}
use Rattle.std.proofs.lemmas.Bool.{eqb-true}
use Rattle.word_store.specs.Count.{IsApart}
use Rattle.word_store.specs.declared.registers.Regs.{Regs}
use Rattle.kernel_lists.specs.OwnedWords.Owned.{written}
use Rattle.kernel_model.specs.KernelRecord.Between.{is_ready}
use Rattle.kernel_model.specs.KernelRecord.Lists.{Lists}
use Rattle.kernel_model.specs.KernelRecord.Task.{Task, task_id}
use Rattle.kernel_model.specs.KernelRecord.ValidLists.{AreValid}
use Rattle.kernel_model.specs.KernelRecord.ValidTasks.{IsTask, runs}
use Rattle.kernel_model.proofs.KernelRecord.EachMember.{all-each}
use Rattle.kernel_model.proofs.KernelRecord.TaskPlaces.{TaskPlace, task-places}
use Rattle.kernel_model.specs.KernelDispatch.Dispatch.{CanDispatch, DispatchChange, dispatched, first_ready_task, goes_on, packets_taken, resumed, unchanged, unlinked_words, with_next, with_nobody, with_resumed, with_suspended}
use Rattle.guest_turns.specs.GuestTurn.{numbers_of}
use Rattle.kernel_machine.specs.KernelSteps.Parts.{RunsFirst}
use Rattle.kernel_machine.proofs.KernelSteps.DispatchedTasks.{alive-resumed, alone-resumed, bytes-resumed, first-resumed, ids-changed, none-run, resumed-byte, resumed-idle}
use Rattle.kernel_machine.proofs.KernelSteps.FoundTask.{found-holds, only-found}

-- ---- the three ways of a dispatch

-- the first ready task goes on without a change
pub record GoesOn (l : Lists) (t : Task) : Type 0 where
  pub first : first_ready_task l ≡ Some t
  pub running : t.id ≡ l.running
  pub field : t.field ≡ runs

module _ (words : List ℕ) (l : Lists) (r : Regs) (P : DispatchChange → Type 0) where
  abbrev m : Lists
  m = with_suspended r l

  module _ (goes : (t : Task) → GoesOn l t → P (unchanged l r)) (nobody : first_ready_task m ≡ None → P (with_nobody m))
      (next : (t : Task) → first_ready_task m ≡ Some t → P (with_resumed words t m)) where
    otherwise : (o : Option Task) → first_ready_task m ≡ o → P (with_next words m o)
    otherwise None is = nobody is
    otherwise (Some t) is = next t is

    unless-same : (o : Option Task) → first_ready_task l ≡ o → P (cond (goes_on l o) (unchanged l r) (with_next words m (first_ready_task m)))
    unless-same None is = otherwise (first_ready_task m) refl
    unless-same (Some t) is = on (eqb t.id l.running) refl (eqb t.field 0) refl
      where
        on : (b : Bool) → eqb t.id l.running ≡ b → (c : Bool) → eqb t.field 0 ≡ c → P (cond (b && c) (unchanged l r) (with_next words m (first_ready_task m)))
        on true e true f = goes t (record { first = is; running = eqb-true t.id l.running e; field = eqb-true t.field 0 f })
        on true e false f = otherwise (first_ready_task m) refl
        on false e c f = otherwise (first_ready_task m) refl

    pub three-ways : P (dispatched words l r)
    unfolding dispatched
    three-ways = unless-same (first_ready_task l) refl

-- ---- the first ready task runs

module _ (words : List ℕ) (l : Lists) (r : Regs) (can : CanDispatch l r) where
  abbrev Runs : DispatchChange → Type 0
  Runs d = AreValid d.lists → RunsFirst d.lists d.regs

  goes : (t : Task) → GoesOn l t → Runs (unchanged l r)
  goes t g v =
      record {
        runs =
            record {
              running = sym g.running ∙ sym (ap (λ o. option_map_or task_id o 0) g.first);
              alone = can.field;
              alive =
                  subst (λ i. AllByRecursion (λ u. u.id ≡ i → u.field ≡ runs) l.tasks) g.running
                  (only-found (λ u. u.field ≡ runs) is_ready l.tasks t g.first v.tasks.distinct g.field);
            };
        registers = can.registers;
      }

  abbrev suspended_lists : Lists
  suspended_lists = with_suspended r l

  stopped : AllByRecursion (λ t. t.field ≡ runs → ⊥) suspended_lists.tasks
  stopped = none-run l.running r l.tasks can.field

  nobody : first_ready_task suspended_lists ≡ None → Runs (with_nobody suspended_lists)
  nobody none v =
      let idle : Lists = (with_nobody suspended_lists).lists in
      record {
        runs =
            record {
              running = sym (ap (λ o. option_map_or task_id o 0) none);
              alone = all-each (λ t. t.field ≡ runs → ⊥) (λ t. t.field ≡ runs → t.id ≡ 0) (λ t h is. absurd (h is)) idle.tasks stopped;
              alive = all-each (TaskPlace idle) (λ t. t.id ≡ 0 → t.field ≡ runs) (λ t p is. absurd (omega (arith, is, p.low_id))) idle.tasks (task-places idle v);
            };
        registers = record { byte = omega arith; idle = λ _. refl };
      }

  next : (t : Task) → first_ready_task suspended_lists ≡ Some t → Runs (with_resumed words t suspended_lists)
  next t is v =
      let left : List ℕ = written (unlinked_words (packets_taken t)) words in
      let after : Lists = (with_resumed words t suspended_lists).lists in
      let apart : IsApart (map task_id suspended_lists.tasks) = subst IsApart (ids-changed t.id resumed (λ u. refl) suspended_lists.tasks) v.tasks.distinct in
      let bytes : AllByRecursion (λ u. u.saved.c < 256) suspended_lists.tasks =
      bytes-resumed t.id suspended_lists.tasks (all-each (IsTask after) (λ u. u.saved.c < 256) (λ u h. h.byte) after.tasks v.tasks.each)
      in
      record {
        runs =
            record {
              running = sym (first-resumed suspended_lists.tasks t is apart);
              alone = alone-resumed t.id suspended_lists.tasks stopped;
              alive = alive-resumed t.id suspended_lists.tasks;
            };
        registers =
            record {
              byte = resumed-byte l.version left t (found-holds (λ u. u.saved.c < 256) is_ready suspended_lists.tasks t is bytes);
              idle = resumed-idle l.version left t;
            };
      }

  pub runs-first : AreValid (dispatched words l r).lists → RunsFirst (dispatched words l r).lists (dispatched words l r).regs
  runs-first v = three-ways words l r Runs goes nobody next v

-- ---- the numbers stay, but for that of the running task

pub dispatch-numbers : (words : List ℕ) (l : Lists) (r : Regs) → numbers_of (dispatched words l r).lists ≡ record (numbers_of l) { running = (dispatched words l r).lists.running }
dispatch-numbers words l r = three-ways words l r (λ d. numbers_of d.lists ≡ record (numbers_of l) { running = d.lists.running }) (λ t g. refl) (λ none. refl) (λ t is. refl)
