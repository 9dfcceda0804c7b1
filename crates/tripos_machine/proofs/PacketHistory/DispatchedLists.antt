-- A dispatch leaves valid lists.
use Rattle.std.proofs.Common.{◌≡◌, ℕ, inl, Bool, true, false, cond, List, [], ◌∷◌, ◌++◌, drop, map, refl, sym, ap, ◌∙◌, subst}
use Rattle.std.proofs.lemmas.Bool.{and_parts}
use Rattle.word_store.specs.Count.{IsApart}
use Rattle.word_store.specs.declared.registers.Regs.{Regs}
use Rattle.kernel_lists.specs.PacketQueue.QueueWords.{QueuedPacket}
use Rattle.kernel_model.specs.KernelRecord.Between.{is_ready}
use Rattle.kernel_model.specs.KernelRecord.Changes.{change_of, with_task, with_tasks}
use Rattle.kernel_model.specs.KernelRecord.Lists.{Lists}
use Rattle.kernel_model.specs.KernelRecord.Task.{Task, is_guest_id, task_id}
use Rattle.kernel_model.specs.KernelRecord.ValidLists.{AreValid}
use Rattle.kernel_model.proofs.KernelRecord.ChainSplits.{IsBetween, change-between, found-between}
use Rattle.kernel_model.proofs.KernelRecord.RunningTask.{running-valid, with_running}
use Rattle.kernel_model.specs.KernelDispatch.Dispatch.{CanDispatch, dispatched, packets_left, resumed, takes_packet, with_packet_taken, with_suspended}
use Rattle.kernel_model.specs.KernelDispatch.Private.DispatchWords.{with_running_saved, with_started}
use Rattle.kernel_model.proofs.KernelDispatch.StartedTask.{changed-started}
use Rattle.kernel_model.proofs.KernelDispatch.SuspendedLists.{lists-suspended}
use Rattle.kernel_model.proofs.KernelDispatch.TakenPacket.{valid-taken}
use Rattle.kernel_machine.proofs.KernelSteps.DispatchKept.{three-ways}
use Rattle.tripos_machine.proofs.PacketHistory.StoredLists.{store-holds, store_of}

-- the first ready task takes the packet with which it goes on, if it takes one
module _ (m : Lists) (v : AreValid m) (t : Task) (place : IsBetween m.tasks t) where
  abbrev with_queue_left : List QueuedPacket → Lists
  with_queue_left ps = with_tasks (place.front ++ (record t { queue = ps }) ∷ place.back) m

  -- with its own queue they are the same
  same : with_queue_left t.queue ≡ m
  same = ap (λ ts. with_tasks ts m) (sym place.is)

  left-valid : AreValid (with_queue_left (packets_left t))
  left-valid = on (takes_packet t) refl
    where
      first : is_guest_id t.id ≡ true → (ps : List QueuedPacket) → t.queue ≡ ps → AreValid (with_queue_left (drop 1 ps))
      first guest [] is = subst AreValid (sym (ap with_queue_left (sym is) ∙ same)) v
      first guest (p ∷ ps) is = valid-taken (store_of m) (store_of m) m place.front t place.back p ps place.is is guest (store-holds m v)

      on : (b : Bool) → takes_packet t ≡ b → AreValid (with_queue_left (cond b (drop 1 t.queue) t.queue))
      on true e = first (and_parts (is_guest_id t.id) _ e).0 t.queue refl
      on false e = subst AreValid (sym same) v

  -- and runs
  goes-valid : AreValid (with_running t.id (with_task t.id resumed m))
  goes-valid =
      let l : Lists = with_queue_left (packets_left t) in
      let u : Task = with_packet_taken t in
      let becomes : with_task t.id resumed m ≡ with_tasks (place.front ++ resumed t ∷ place.back) m =
      ap (λ ts. with_tasks (map (change_of t.id resumed) ts) m) place.is
      ∙ ap (λ ts. with_tasks ts m) (change-between resumed place.front t place.back (subst (λ ts. IsApart (map task_id ts)) place.is v.tasks.distinct))
      in
      subst (λ z. AreValid (with_running t.id z)) (sym becomes)
      (changed-started (store_of l) (with_started (store_of l) t.address) l place.front u place.back refl (store-holds l left-valid) refl).lists.valid

pub dispatched-valid : (words : List ℕ) (l : Lists) (r : Regs) → AreValid l → CanDispatch l r → AreValid (dispatched words l r).lists
dispatched-valid words l r v can =
    three-ways words l r (λ d. AreValid d.lists) (λ t goes. v) (λ none. running-valid m 0 valid (inl refl)) (λ t is. goes-valid m valid t (found-between is_ready m.tasks t is).0)
  where
    m : Lists
    m = with_suspended r l

    valid : AreValid m
    valid =
        (lists-suspended (store_of l) (with_running_saved (store_of l) r) l r (store-holds l v) can.registers.byte can.registers.idle refl).lists.lists.valid
