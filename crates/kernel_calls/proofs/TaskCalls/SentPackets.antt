-- Whose packets residents and devices have, as a store says and as its lists say.
use Rattle.std.proofs.Common.{◌≡◌, ℕ, ◌+◌, ◌||◌, List, [], ◌∷◌, ◌++◌, cond, eqb, get_or, map, Bool, true, false, refl, sym, ap, ◌∙◌}
use Rattle.std.specs.List.{AllByRecursion, flat_map, list_any}
use Rattle.std.proofs.lemmas.List.Folds.{list_any-append}
use Rattle.kernel_lists.specs.PacketQueue.QueueWords.{HeldQueue, QueuedPacket, address_of, packet_words}
use Rattle.kernel_lists.proofs.PacketQueue.HeldQueues.{held-queue}
use Rattle.kernel_lists.specs.TaskBlock.TaskChain.{id_in}
use Rattle.kernel_model.specs.KernelRecord.HoldsLists.{HoldsLists}
use Rattle.kernel_model.specs.KernelRecord.Lists.{Lists}
use Rattle.kernel_model.specs.KernelRecord.Owned.{clock_head, keyboard_head, output_head}
use Rattle.kernel_model.specs.KernelRecord.Residents.{pending_head}
use Rattle.kernel_model.specs.KernelRecord.Task.{Task, is_guest_id, queue_head, task_address, task_words}
use Rattle.kernel_model.proofs.KernelRecord.EachMember.{all-both, holds-each}
use Rattle.kernel_model.proofs.KernelRecord.WalkedLists.{residents-read}
use Rattle.kernel_calls.proofs.CallAnswers.FoundTask.{reads}
use Rattle.kernel_calls.specs.TaskCalls.DeleteTask.{has_packet_out, resident_packets}
use Rattle.kernel_calls.specs.TaskCalls.Private.PacketsOut.{is_sender_at, is_sender_of_read, is_sender_out, is_sender_to, is_sender_to_residents}
use Rattle.std.proofs.Math.Bool.{or_assoc}

module _ (s : List ℕ) (id : ℕ) where
  abbrev is_from : QueuedPacket → Bool
  is_from p = eqb p.sender id

  any-from : (ps : List QueuedPacket) → AllByRecursion (λ p. get_or s (p.address + 1) 0 ≡ p.sender) ps → list_any (λ a. eqb (get_or s (a + 1) 0) id) (map address_of ps) ≡ list_any is_from ps
  any-from [] all = refl
  any-from (p ∷ ps) all = λ i. eqb (all.0 i) id || any-from ps all.1 i

  sender-at : (head : ℕ) (ps : List QueuedPacket) → HeldQueue s head ps → is_sender_at s head id ≡ list_any is_from ps
  sender-at head ps h =
      ap (list_any (λ a. eqb (get_or s (a + 1) 0) id)) (held-queue s head ps h).list
      ∙ any-from ps (holds-each address_of packet_words s (λ p. get_or s (p.address + 1) 0 ≡ p.sender) (λ p n own. own.1.0) ps 0 h.holds.1)

  abbrev IsTold : Task → Type 0
  IsTold t = (id_in s t.address ≡ t.id) × HeldQueue s (queue_head t.address) t.queue

  sender-to : (t : Task) → IsTold t → is_sender_to s id t.address ≡ list_any is_from (resident_packets t)
  sender-to t told = ap (λ i. cond (is_guest_id i) false (is_sender_at s (queue_head t.address) id)) told.0 ∙ on (is_guest_id t.id)
    where
      on : (b : Bool) → cond b false (is_sender_at s (queue_head t.address) id) ≡ list_any is_from (cond b [] t.queue)
      on true = refl
      on false = sender-at (queue_head t.address) t.queue told.1

  senders-to : (ts : List Task) → AllByRecursion IsTold ts → list_any (is_sender_to s id) (map task_address ts) ≡ list_any is_from (flat_map resident_packets ts)
  senders-to [] all = refl
  senders-to (t ∷ ts) all = (λ i. sender-to t all.0 i || senders-to ts all.1 i) ∙ sym (list_any-append is_from (resident_packets t) (flat_map resident_packets ts))

module _ (s : List ℕ) (l : Lists) (id : ℕ) (h : HoldsLists s l) where
  residents : is_sender_to_residents s id ≡ list_any (is_from s id) (flat_map resident_packets l.tasks)
  residents =
      ap (list_any (is_sender_to s id)) (reads s l h).tasks.chain
      ∙ senders-to s id l.tasks
      (all-both (λ t. id_in s t.address ≡ t.id) (λ t. HeldQueue s (queue_head t.address) t.queue) l.tasks
      (holds-each task_address (task_words l.version) s (λ t. id_in s t.address ≡ t.id) (λ t n own. own.1.0) l.tasks 0 (reads s l h).held_tasks.holds.1) (reads s l h).work)

  read : is_sender_of_read s id ≡ list_any (is_from s id) l.pending
  read = ap (λ b. cond b (is_sender_at s pending_head id) false) (residents-read s l h) ∙ on l.residents refl
    where
      on : (b : Bool) → l.residents ≡ b → cond b (is_sender_at s pending_head id) false ≡ list_any (is_from s id) l.pending
      on true e = sender-at s id pending_head l.pending ((reads s l h).pending e)
      on false e = ap (list_any (is_from s id)) (sym (h.valid.queues.no_console e))

  pub out-told : is_sender_out s id ≡ has_packet_out l id
  out-told =
      let f : QueuedPacket → Bool = is_from s id in
      let r = reads s l h in
      (λ i. residents i || ((sender-at s id clock_head l.clock r.clock i || (sender-at s id keyboard_head l.keyboard r.keyboard i || sender-at s id output_head l.output r.output i)) || read i))
      ∙ ap (λ b. list_any f (flat_map resident_packets l.tasks) || b)
      (or_assoc (list_any f l.clock) (list_any f l.keyboard || list_any f l.output) (list_any f l.pending)
      ∙ ap (λ b. list_any f l.clock || b)
      (or_assoc (list_any f l.keyboard) (list_any f l.output) (list_any f l.pending)
      ∙ ap (λ b. list_any f l.keyboard || b) (sym (list_any-append f l.output l.pending))
      ∙ sym (list_any-append f l.keyboard (l.output ++ l.pending)))
      ∙ sym (list_any-append f l.clock (l.keyboard ++ (l.output ++ l.pending))))
      ∙ sym (list_any-append f (flat_map resident_packets l.tasks) (l.clock ++ (l.keyboard ++ (l.output ++ l.pending))))
