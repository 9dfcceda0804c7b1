-- The task that runs is suspended, if one runs.
use Rattle.std.proofs.Common.{◌≡◌, ℕ, ◌<◌, ◌≤◌, false, List, [], ◌∷◌, ◌++◌, cond, map, inl, inr, refl, sym, ap, ◌∙◌, subst, arith}
use Rattle.std.specs.List.{AllByRecursion}
use Rattle.std.proofs.lemmas.Bool.{eq-eqb, ne_eqb}
use Rattle.word_store.specs.Count.{IsApart, times}
use Rattle.word_store.proofs.Counts.{hit-other}
use Rattle.word_store.specs.declared.registers.Regs.{Regs}
use Rattle.kernel_lists.specs.OwnedWords.Owned.{owners}
use Rattle.kernel_lists.specs.TaskBlock.HeldTasks.{address_with}
use Rattle.kernel_model.specs.KernelRecord.ChangedStore.{IsChanged}
use Rattle.kernel_model.specs.KernelRecord.Changes.{change_of, with_tasks}
use Rattle.kernel_model.specs.KernelRecord.HoldsLists.{HoldsLists}
use Rattle.kernel_model.specs.KernelRecord.Lists.{Lists, address_of_task}
use Rattle.kernel_model.specs.KernelRecord.Owned.{owned}
use Rattle.kernel_model.specs.KernelRecord.Task.{Task, is_guest_id, task_address, task_id}
use Rattle.kernel_model.specs.KernelRecord.ValidTasks.{no_regs}
use Rattle.kernel_model.proofs.KernelRecord.AllThings.{all-here}
use Rattle.kernel_model.proofs.KernelRecord.ChainSplits.{HasNumbered, address-between, address-none, change-between, change-none, numbered}
use Rattle.kernel_model.proofs.KernelRecord.ChangedLists.{changed-none}
use Rattle.kernel_model.proofs.KernelRecord.EachMember.{all-each}
use Rattle.kernel_model.proofs.KernelRecord.OwnedParts.{holds-parts}
use Rattle.kernel_model.proofs.KernelRecord.TaskPlaces.{TaskPlace, task-places, task-some}
use Rattle.kernel_model.specs.KernelDispatch.Dispatch.{suspended, with_suspended}
use Rattle.kernel_model.specs.KernelDispatch.Private.DispatchWords.{running_in, with_running_saved, with_saved}
use Rattle.kernel_model.proofs.KernelDispatch.SuspendedTask.{changed-suspended, owners-suspended}

-- the word that names the running task
pub running-held : (s : List ℕ) (l : Lists) → HoldsLists s l → running_in s ≡ address_of_task l l.running
running-held s l h = (holds-parts s l h.holds).root.1.0

-- no task has the number 0
no-zero : (ts : List Task) → AllByRecursion (λ t. 1 ≤ t.id) ts → times 0 (map task_id ts) ≡ 0
no-zero [] all = refl
no-zero (t ∷ ts) all = omega (arith, hit-other 0 t.id (λ e. absurd (omega (arith, e, all.0))), no-zero ts all.1)

pub none-runs : (l : Lists) (v : AllByRecursion (TaskPlace l) l.tasks) → times 0 (map task_id l.tasks) ≡ 0
none-runs l v = no-zero l.tasks (all-each (TaskPlace l) (λ t. 1 ≤ t.id) (λ t p. p.low_id) l.tasks v)

-- the lists in which it is suspended, with the same owned addresses
pub record IsSuspended (s t : List ℕ) (l m : Lists) : Type 0 where
  pub lists : IsChanged s t m []
  pub owners : (a : ℕ) → owners a (owned l) ≡ owners a (owned m)

pub lists-suspended : (s t : List ℕ) (l : Lists) (r : Regs) → HoldsLists s l → r.c < 256 → (is_guest_id l.running ≡ false → r ≡ no_regs) → t ≡ with_running_saved s r → IsSuspended s t l (with_suspended r l)
lists-suspended s t l r h byte idle is = elim h.valid.queues.running [ inl none ↦ nobody none | inr some ↦ somebody (numbered l.running l.tasks some) ]
  where
    nobody : l.running ≡ 0 → IsSuspended s t l (with_suspended r l)
    nobody none =
        let zero_none : times 0 (map task_id l.tasks) ≡ 0 = none-runs l (task-places l h.valid) in
        let word : running_in s ≡ 0 = running-held s l h ∙ ap (address_of_task l) none ∙ address-none 0 l.tasks zero_none in
        let same : with_suspended r l ≡ l =
        ap (λ i. with_tasks (map (change_of i (suspended r)) l.tasks) l) none ∙ ap (λ ts. with_tasks ts l) (change-none 0 (suspended r) l.tasks zero_none)
        in
        let stays : t ≡ s = is ∙ ap (λ b. cond b s (with_saved s (running_in s) r)) (eq-eqb (running_in s) 0 word) in
        record {
          lists = subst (λ z. IsChanged s t z []) (sym same) (subst (λ z. IsChanged s z l []) (sym stays) (changed-none s l h));
          owners = λ a. ap (λ z. owners a (owned z)) (sym same);
        }

    somebody : HasNumbered l.running l.tasks → IsSuspended s t l (with_suspended r l)
    somebody n =
        let c : Task = n.task in
        let front : List Task = n.between.front in
        let back : List Task = n.between.back in
        let apart : IsApart (map task_id (front ++ c ∷ back)) = subst (λ ts. IsApart (map task_id ts)) n.between.is h.valid.tasks.distinct in
        let word : running_in s ≡ c.address =
        running-held s l h ∙ ap (address_of_task l) (sym n.number) ∙ ap (λ ts. address_with task_address task_id ts c.id) n.between.is ∙ address-between front c back apart
        in
        let some : 0 < c.address = all-here (λ z. 0 < z.address) front c back
        (subst (AllByRecursion (λ z. 0 < z.address)) n.between.is (all-each (TaskPlace l) (λ z. 0 < z.address) (task-some l) l.tasks (task-places l h.valid)))
        in
        let same : with_suspended r l ≡ with_tasks (front ++ suspended r c ∷ back) l =
        ap (λ i. with_tasks (map (change_of i (suspended r)) l.tasks) l) (sym n.number)
        ∙ ap (λ ts. with_tasks (map (change_of c.id (suspended r)) ts) l) n.between.is
        ∙ ap (λ ts. with_tasks ts l) (change-between (suspended r) front c back apart)
        in
        let store : t ≡ with_saved s c.address r =
        is
        ∙ ap (λ b. cond b s (with_saved s (running_in s) r)) (ne_eqb (running_in s) 0 (λ e. absurd (omega (arith, e, word, some))))
        ∙ ap (λ z. with_saved s z r) word
        in
        record {
          lists = subst (λ z. IsChanged s t z []) (sym same) (changed-suspended s t l front c back r n.between.is h byte (λ guest. idle (ap is_guest_id (sym n.number) ∙ guest)) store);
          owners = λ a. owners-suspended s t l front c back r n.between.is h a ∙ ap (λ z. owners a (owned z)) (sym same);
        }
