-- What a packet that is returned leaves.
use Rattle.std.proofs.Common.{◌≡◌, ℕ, ◌+◌, ◌<◌, Bool, Option, Some, None, Ok, List, [], ◌∷◌, ◌++◌, get_or, refl, sym, ap, ◌∙◌, subst, append-nil}
use Rattle.std.specs.List.{AllByRecursion}
use Rattle.std.proofs.lemmas.Bool.{false≢true}
use Rattle.word_store.specs.Arithmetic.{signed}
use Rattle.kernel_lists.specs.OwnedWords.Owned.{Pairs}
use Rattle.kernel_lists.specs.PacketQueue.Log.{Notes}
use Rattle.kernel_lists.specs.PacketQueue.Queue.{CanQueue, HasQueue}
use Rattle.kernel_lists.specs.PacketQueue.QueueWords.{QueuedPacket}
use Rattle.kernel_lists.specs.declared.packet_queue.events.KernelEvent.{KernelEvent}
use Rattle.kernel_lists.specs.declared.packet_queue.events.KernelEvent.TheVariants.{Accepted}
use Rattle.kernel_lists.specs.TaskBlock.TaskChain.{task_with, tasks_in}
use Rattle.kernel_model.specs.KernelRecord.Changes.{queue_of, with_queue}
use Rattle.kernel_model.specs.KernelRecord.HoldsLists.{HoldsLists}
use Rattle.kernel_model.specs.KernelRecord.Lists.{Lists, has_task}
use Rattle.kernel_model.specs.KernelRecord.NotedEvents.{NotesAll}
use Rattle.kernel_model.specs.KernelRecord.Task.{queue_head}
use Rattle.kernel_model.specs.KernelRecord.ValidLists.{AreValid}
use Rattle.kernel_model.specs.KernelRecord.ValidQueues.{Place}
use Rattle.kernel_model.specs.KernelRecord.ValidQueues.Place.{Work}
use Rattle.kernel_model.specs.KernelRecord.ValidTasks.{IsField}
use Rattle.kernel_model.proofs.KernelRecord.NotedInTurn.{notes-one}
use Rattle.kernel_calls.specs.CallAnswers.CallChange.{Leaves, minus_one}
use Rattle.kernel_calls.proofs.CallAnswers.FoundTask.{Finds, find-task, found-address}
use Rattle.kernel_calls.specs.PacketCalls.Destinations.{queue_for}
use Rattle.kernel_calls.specs.PacketCalls.QueueWords.{head_of, enqueued, with_results}
use Rattle.kernel_calls.specs.PacketCalls.Reply.{CanReply, reply, returned}
use Rattle.kernel_calls.specs.declared.packet_calls.queues.Queue.TheVariants as queues
use Rattle.kernel_calls.proofs.PacketCalls.PlacedPackets.{end-changed, end-packet, end-queue, fields-valid, results-own, results-set}
use Rattle.kernel_calls.proofs.PacketCalls.SentPackets.{comes-some, comes-valid}

module _ (s : List ℕ) (l : Lists) (p from res1 res2 : ℕ) (h : HoldsLists s l) (r : CanReply s l p from) where
  abbrev to : ℕ
  to = get_or s (p + 1) 0

  abbrev q : QueuedPacket
  q = returned s p from res1 res2

  abbrev at : Place
  at = Work to

  abbrev ps : List QueuedPacket
  ps = queue_of at l

  -- its words that are set, and the one that is kept
  abbrev ws : Pairs
  ws = (p + 4, res2) ∷ (p + 3, res1) ∷ (p + 1, from) ∷ []

  abbrev kept : Pairs
  kept = (p + 2, get_or s (p + 2) 0) ∷ []

  whole : ps ≡ ps ++ []
  whole = sym (append-nil ps)

  valid : AreValid (with_queue at (ps ++ q ∷ []) l)
  valid = comes-valid s l at q h r.there r.lodged r.plain r.sender ps [] whole tt

  some : AllByRecursion (λ z. 0 < z.address) (ps ++ q ∷ [])
  some = comes-some s l at q h r.there r.lodged r.plain r.sender ps [] whole

  fields : AllByRecursion (λ t. IsField t.field) l.tasks
  fields = fields-valid l h.valid

  queue : HasQueue (with_results s p from res1 res2) (head_of (queue_for l at))
  queue = end-queue s l at q ws kept h.holds h.size h.valid.tasks.distinct r.there valid some tt fields (results-own q) (results-set q) (refl, tt)

  packet : CanQueue (with_results s p from res1 res2) (head_of (queue_for l at)) p
  packet = end-packet s l at q ws kept h.holds h.size h.valid.tasks.distinct r.there valid some tt fields (results-own q) (results-set q) (refl, tt)

  -- the task is there
  module _ (sender : ℕ) (is_sender : sender ≡ to) where
    pub reply-nobody : task_with s sender (tasks_in s) ≡ None → ⊥
    reply-nobody e =
        absurd (false≢true
        (sym (subst (Finds sender l.tasks) e (find-task s l sender h)) ∙ ap (λ i. has_task i l.tasks) is_sender ∙ r.there))

    module _ (task : ℕ) (found : task_with s sender (tasks_in s) ≡ Some task) where
      queue-is : queue_for l at ≡ queues.Work task
      queue-is = ap (λ i. queue_for l (Work i)) (sym is_sender) ∙ ap queues.Work (found-address l sender task h.valid.tasks.distinct (subst (Finds sender l.tasks) found (find-task s l sender h)))

      pub reply-queue : HasQueue (with_results s p from res1 res2) (queue_head task)
      reply-queue = subst (λ z. HasQueue (with_results s p from res1 res2) (head_of z)) queue-is queue

      pub reply-packet : CanQueue (with_results s p from res1 res2) (queue_head task) p
      reply-packet = subst (λ z. CanQueue (with_results s p from res1 res2) (head_of z) p) queue-is packet

      pub is-returned : (v : List ℕ) → v ≡ enqueued (with_results s p from res1 res2) (queues.Work task) p 0 → Leaves s v (Ok minus_one) (reply s l p from res1 res2)
      is-returned v is =
          record {
            lists =
                end-changed s l at q ws kept h.holds h.size h.valid.tasks.distinct r.there valid some tt fields (results-own q) (results-set q) (refl, tt) v 0
                (is ∙ ap (λ z. enqueued (with_results s p from res1 res2) z p 0) (sym queue-is));
            answered = refl;
          }

    pub is-noted : (before now : Option (List KernelEvent)) (b d : Bool) → Notes before now b d (Accepted (signed sender) p (signed from)) → NotesAll before now b d (reply s l p from res1 res2).events
    is-noted before now b d notes = subst (λ z. NotesAll before now b d (Accepted (signed z) p (signed from) ∷ [])) is_sender (notes-one before now b d _ notes)
