-- The first ready task, as the store has it.
use Rattle.std.proofs.Common.{◌≡◌, ℕ, Bool, true, false, Some, List, [], ◌∷◌, map, cond, refl, ap, ◌∙◌}
use Rattle.std.specs.Prelude.{find}
use Rattle.std.specs.List.{AllByRecursion}
use Rattle.std.specs.Option.{option_map}
use Rattle.kernel_lists.specs.TaskBlock.TaskChain.{tasks_in}
use Rattle.kernel_model.specs.KernelRecord.Between.{is_ready}
use Rattle.kernel_model.specs.KernelRecord.HoldsLists.{HoldsLists}
use Rattle.kernel_model.specs.KernelRecord.Lists.{Lists}
use Rattle.kernel_model.specs.KernelRecord.ReadsLists.{ReadsLists}
use Rattle.kernel_model.specs.KernelRecord.Task.{task_address}
use Rattle.kernel_model.proofs.KernelRecord.EachMember.{all-each}
use Rattle.kernel_model.proofs.KernelRecord.Reading.{read-lists}
use Rattle.kernel_model.specs.KernelDispatch.Dispatch.{first_ready_block}
use Rattle.kernel_model.specs.KernelDispatch.Private.DispatchWords.{is_ready_in}
use Rattle.kernel_model.proofs.KernelDispatch.TaskStates.{TellsTask, tells-tasks}

-- the first address that passes a test is that of the first thing that does
find-map : {X : Type 0} (f : ℕ → Bool) (g : X → Bool) (at : X → ℕ) (xs : List X) → AllByRecursion (λ x. f (at x) ≡ g x) xs → find f (map at xs) ≡ option_map at (find g xs)
find-map f g at [] all = refl
find-map f g at (x ∷ xs) all = ap (λ b. cond b (Some (at x)) (find f (map at xs))) all.0 ∙ on (g x) (find-map f g at xs all.1)
  where
    on : (b : Bool) → find f (map at xs) ≡ option_map at (find g xs) → cond b (Some (at x)) (find f (map at xs)) ≡ option_map at (cond b (Some x) (find g xs))
    on true more = refl
    on false more = more

module _ (s : List ℕ) (l : Lists) (h : HoldsLists s l) where
  abbrev reads : ReadsLists s l
  reads = read-lists s l h.valid h.size h.holds

  pub first-ready : find (is_ready_in s) (tasks_in s) ≡ first_ready_block l
  first-ready =
      ap (find (is_ready_in s)) reads.tasks.chain
      ∙ find-map (is_ready_in s) is_ready task_address l.tasks (all-each (TellsTask s) (λ t. is_ready_in s t.address ≡ is_ready t) (λ t tells. tells.ready) l.tasks (tells-tasks s l h))
