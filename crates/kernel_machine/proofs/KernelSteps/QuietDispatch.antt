-- A dispatch that changes nothing: the first ready task runs already.
use Rattle.std.proofs.Common.{◌≡◌, ℕ, Option, Some, None, List, [], ◌∷◌, cond, eqb, map, refl, sym, ap, ◌∙◌}
use Rattle.std.specs.Option.{option_map_or}
use Rattle.std.proofs.lemmas.Bool.{and_from, eq-eqb}
use Rattle.word_store.specs.declared.registers.Regs.{Regs}
use Rattle.kernel_lists.specs.declared.packet_queue.events.KernelEvent.TheVariants.{Runs}
use Rattle.kernel_model.specs.KernelRecord.Between.{is_ready}
use Rattle.kernel_model.specs.KernelRecord.Changes.{change_of, with_tasks}
use Rattle.kernel_model.specs.KernelRecord.Image.{image}
use Rattle.kernel_model.specs.KernelRecord.Kernel.{Kernel}
use Rattle.kernel_model.specs.KernelRecord.Lists.{Lists}
use Rattle.kernel_model.specs.KernelRecord.Task.{Task, is_guest_id, task_id}
use Rattle.kernel_model.specs.KernelRecord.ValidLists.{AreValid}
use Rattle.kernel_model.specs.KernelRecord.ValidTasks.{no_regs, runs}
use Rattle.kernel_model.proofs.KernelRecord.ChainSplits.{change-none}
use Rattle.kernel_model.proofs.KernelRecord.TaskPlaces.{task-places}
use Rattle.kernel_model.specs.KernelDispatch.Dispatch.{dispatched, first_ready_task, goes_on, suspended, unchanged, with_next, with_suspended}
use Rattle.kernel_model.proofs.KernelDispatch.SuspendedLists.{none-runs}
use Rattle.kernel_machine.specs.KernelSteps.Parts.{RunsFirst}
use Rattle.kernel_machine.specs.KernelSteps.Step.{dispatch, switched}
use Rattle.kernel_machine.specs.KernelSteps.Stepped.{quietly}
use Rattle.kernel_machine.proofs.KernelSteps.FoundTask.{found-holds}
use Rattle.kernel_machine.proofs.KernelSteps.StoredWords.{HasStore, settled-same}

module _ (words : List ℕ) (l : Lists) (r : Regs) (h : RunsFirst l r) (v : AreValid l) where
  -- a task is ready, so it runs
  somebody-stays : (t : Task) → first_ready_task l ≡ Some t → dispatched words l r ≡ unchanged l r
  unfolding dispatched
  somebody-stays t is =
      let same : t.id ≡ l.running = ap (λ o. option_map_or task_id o 0) (sym is) ∙ sym h.runs.running in
      let field : t.field ≡ runs = found-holds (λ u. u.id ≡ l.running → u.field ≡ runs) is_ready l.tasks t is h.runs.alive same in
      ap (λ o. cond (goes_on l o) (unchanged l r) (with_next words (with_suspended r l) (first_ready_task (with_suspended r l)))) is
      ∙ ap (λ b. cond b (unchanged l r) (with_next words (with_suspended r l) (first_ready_task (with_suspended r l))))
      (and_from (eqb t.id l.running) (eqb t.field 0) (eq-eqb t.id l.running same) (eq-eqb t.field 0 field))

  -- none is, and nobody runs
  nobody-stays : first_ready_task l ≡ None → dispatched words l r ≡ unchanged l r
  unfolding dispatched
  nobody-stays none =
      let zero : l.running ≡ 0 = h.runs.running ∙ ap (λ o. option_map_or task_id o 0) none in
      let same : with_suspended r l ≡ l =
      ap (λ i. with_tasks (map (change_of i (suspended r)) l.tasks) l) zero ∙ ap (λ ts. with_tasks ts l) (change-none 0 (suspended r) l.tasks (none-runs l (task-places l v)))
      in
      let idle : r ≡ no_regs = h.registers.idle (ap is_guest_id zero) in
      ap (λ o. cond (goes_on l o) (unchanged l r) (with_next words (with_suspended r l) (first_ready_task (with_suspended r l)))) none
      ∙ ap (λ m. with_next words m (first_ready_task m)) same
      ∙ ap (λ o. with_next words l o) none
      ∙ (λ i. record { lists = record l { running = sym zero i }; plain = []; regs = sym idle i; events = cond (eq-eqb l.running 0 zero i) [] (Runs 0 ∷ []) })

  pub dispatched-stays : dispatched words l r ≡ unchanged l r
  dispatched-stays = on (first_ready_task l) refl
    where
      on : (o : Option Task) → first_ready_task l ≡ o → dispatched words l r ≡ unchanged l r
      on (Some t) is = somebody-stays t is
      on None is = nobody-stays is

pub dispatch-stays : (s : List ℕ) (k : Kernel) → HasStore s k → RunsFirst k.lists k.regs → dispatch k ≡ quietly k
unfolding dispatch
dispatch-stays s k h first =
    ap (switched k) (dispatched-stays (image k) k.lists k.regs first h.valid)
    ∙ ap (λ j. quietly (record j { regs = k.regs })) (settled-same s k k.lists h refl (λ a. refl))
