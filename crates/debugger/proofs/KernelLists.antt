-- What the words of a store say of its kernel's queues and blocks.
use Rattle.std.proofs.Common.{◌≡◌, ℕ, ◌==◌, Bool, true, false, Option, Some, None, List, [], ◌∷◌, map, refl, sym, ap, ◌∙◌, subst}
use Rattle.std.specs.Prelude.{if◌then◌else◌, slice_index, unwrap_or}
use Rattle.std.specs.List.{AllByRecursion}
use Rattle.std.specs.Option.{option_map}
use Rattle.kernel_lists.specs.GetvecChain.Tiling.{IsTiled, blocks_in}
use Rattle.kernel_model.specs.KernelRecord.HoldsLists.{HoldsLists}
use Rattle.kernel_model.specs.KernelRecord.KernelRanges.{CanWalkLists, CanWalkTask}
use Rattle.kernel_model.specs.KernelRecord.Lists.{Lists}
use Rattle.kernel_model.specs.KernelRecord.Recovered.{lists_in, packets_at, task_in}
use Rattle.kernel_model.specs.KernelRecord.Task.{queue_head}
use Rattle.kernel_calls.specs.declared.packet_calls.queues.Queue.TheVariants.{Clock, Keyboard, Output, Work}
use Rattle.kernel_lists.specs.PacketQueue.Queue.{HasQueue}
use Rattle.kernel_lists.specs.PacketQueue.QueueWords.{QueuedPacket}
use Rattle.kernel_lists.specs.TaskBlock.RootWords.{root_address}
use Rattle.kernel_lists.specs.declared.task_block.roots.RootField.TheVariants.{Tick}
use Rattle.kernel_lists.specs.TaskBlock.TaskChain.{HasTasks, id_in, task_with, tasks_in}
use Rattle.kernel_model.proofs.KernelRecord.Reading.{read-lists}
use Rattle.kernel_model.proofs.KernelRecord.RecoveredLists.{lists-back}
use Rattle.kernel_model.proofs.KernelRecord.WalkedLists.{can-walk}
use Rattle.debugger.specs.Views.{Leads, task_queue}

-- ---- the queue of the task that is found

-- the queue of the task at an address
abbrev queue_in : List ℕ → ℕ → List QueuedPacket
queue_in s t = packets_at s (queue_head t)

queue-found : (s : List ℕ) (id : ℕ) (ts : List ℕ) → task_queue id (map (task_in s) ts) ≡ option_map (queue_in s) (task_with s id ts)
queue-found s id [] = refl
queue-found s id (t ∷ ts) = on (id_in s t == id) (queue-found s id ts)
  where
    on : (b : Bool) → task_queue id (map (task_in s) ts) ≡ option_map (queue_in s) (task_with s id ts)
        → (if b then Some (queue_in s t) else task_queue id (map (task_in s) ts)) ≡ option_map (queue_in s) (if b then Some t else task_with s id ts)
    on true more = refl
    on false more = more

valid-queue : (s : List ℕ) (id : ℕ) (ts : List ℕ) (t : ℕ) → task_with s id ts ≡ Some t → AllByRecursion (CanWalkTask s) ts → HasQueue s (queue_head t)
valid-queue s id [] t is all = (let other : None ≡ Some t = is in cc)
valid-queue s id (u ∷ us) t is all = on (id_in s u == id) is (λ more. valid-queue s id us t more all.1)
  where
    on : (b : Bool) → (if b then Some u else task_with s id us) ≡ Some t → (task_with s id us ≡ Some t → HasQueue s (queue_head t)) → HasQueue s (queue_head t)
    on true same later = subst (λ v. HasQueue s (queue_head v)) (ap (λ o. unwrap_or o 0) same) all.0.queue
    on false more later = later more

module _ (s : List ℕ) (l : Lists) (h : HoldsLists s l) where
  walks : CanWalkLists s
  walks = can-walk s l h

  back : lists_in s ≡ l
  back = lists-back s l h.valid h.size h.holds

  pub tasks-back : map (task_in s) (tasks_in s) ≡ l.tasks
  unfolding lists_in
  tasks-back = ap (λ (m : Lists). m.tasks) back

  pub has-tasks : HasTasks s
  has-tasks = (read-lists s l h.valid h.size h.holds).tasks.tasks

  pub leads-task : (id : ℕ) → Leads s (option_map Work (task_with s id (tasks_in s))) (task_queue id l.tasks)
  leads-task id =
      let there = queue-found s id (tasks_in s) in
      subst (Leads s (option_map Work (task_with s id (tasks_in s)))) (sym there ∙ ap (task_queue id) tasks-back) (queue-leads (task_with s id (tasks_in s)) refl)
    where
      queue-leads : (o : Option ℕ) → task_with s id (tasks_in s) ≡ o → Leads s (option_map Work o) (option_map (queue_in s) o)
      queue-leads None none = tt
      queue-leads (Some t) some = (valid-queue s id (tasks_in s) t some walks.tasks, refl)

  pub tick-back : slice_index s (root_address Tick) ≡ l.tick
  unfolding lists_in
  tick-back = ap (λ (m : Lists). m.tick) back

  -- ---- devices

  pub leads-clock : Leads s (Some Clock) (Some l.clock)
  unfolding lists_in
  leads-clock = (walks.clock, ap (λ (m : Lists). m.clock) back)

  pub leads-keyboard : Leads s (Some Keyboard) (Some l.keyboard)
  unfolding lists_in
  leads-keyboard = (walks.keyboard, ap (λ (m : Lists). m.keyboard) back)

  pub leads-output : Leads s (Some Output) (Some l.output)
  unfolding lists_in
  leads-output = (walks.output, ap (λ (m : Lists). m.output) back)

  -- ---- blocks

  pub is-tiled : IsTiled s
  is-tiled = walks.tiled

  pub blocks-back : blocks_in s ≡ l.blocks
  unfolding lists_in
  blocks-back = ap (λ (m : Lists). m.blocks) back
