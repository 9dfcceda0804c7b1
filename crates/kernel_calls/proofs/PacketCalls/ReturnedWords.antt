-- What the store holds once a device has returned a packet: the packet goes out of the device's queue, and comes to its sender's.
use Rattle.std.proofs.Common.{◌≡◌, ℕ, ◌+◌, ◌<◌, List, [], ◌∷◌, ◌++◌, true, get_or, length, map, refl, sym, ap, ◌∙◌, subst, arith, get_or-set_other}
use Rattle.std.specs.List.{AllByRecursion, range_with_len}
use Rattle.word_store.specs.Count.{IsApart, times}
use Rattle.word_store.proofs.Elements.{all-append}
use Rattle.word_store.proofs.Counts.{times-within}
use Rattle.kernel_lists.specs.OwnedWords.Owned.{Pairs, owners}
use Rattle.kernel_lists.specs.OwnedWords.Written.{IsWritten}
use Rattle.kernel_lists.specs.PacketQueue.Queue.{CanQueue, HasQueue, no_queue}
use Rattle.kernel_lists.specs.PacketQueue.QueueWords.{QueuedPacket}
use Rattle.kernel_lists.specs.TaskBlock.HeldTasks.{address_with}
use Rattle.kernel_model.specs.KernelRecord.ChangedStore.{IsChanged}
use Rattle.kernel_model.specs.KernelRecord.Changes.{queue_of, with_queue, work_of}
use Rattle.kernel_model.specs.KernelRecord.HoldsLists.{HoldsLists}
use Rattle.kernel_model.specs.KernelRecord.Lists.{Lists, has_task}
use Rattle.kernel_model.specs.KernelRecord.Owned.{owned}
use Rattle.kernel_model.specs.KernelRecord.Task.{task_address, task_id}
use Rattle.kernel_model.specs.KernelRecord.ValidLists.{AreValid}
use Rattle.kernel_model.specs.KernelRecord.ValidQueues.{Place}
use Rattle.kernel_model.specs.KernelRecord.ValidQueues.Place.{Work}
use Rattle.kernel_model.specs.KernelRecord.ValidTasks.{IsField}
use Rattle.kernel_model.proofs.KernelRecord.QueuePlaces.{valid-at-place, with_queue-size}
use Rattle.kernel_model.proofs.KernelRecord.ReadQueues.{packets-some}
use Rattle.kernel_calls.proofs.CallAnswers.FoundTask.{TaskAt, found-address}
use Rattle.kernel_calls.specs.PacketCalls.Destinations.{queue_for}
use Rattle.kernel_calls.specs.PacketCalls.QueueWords as moves
use Rattle.kernel_calls.specs.declared.packet_calls.queues.Queue.TheVariants as queues
use Rattle.kernel_calls.proofs.PacketCalls.Departure.{departed-size, departed-written, held-before, others-kept, owners-departed}
use Rattle.kernel_calls.proofs.PacketCalls.PlacedPackets.{end-changed, end-owners, end-packet, end-queue, fields-valid, results-own, results-set}
use Rattle.kernel_calls.specs.PacketCalls.Returned.{IsServed, number_of, place_of, returned_by, with_work_for}
use Rattle.kernel_calls.specs.declared.packet_calls.returns.Device.{Device}
use Rattle.kernel_calls.specs.declared.packet_calls.returns.Device.TheVariants.{Clock, Keyboard, Output}
use Rattle.kernel_calls.proofs.PacketCalls.ReturnedLists.{returned-valid, sender-there}

-- a device's queue has no part in the tasks
tasks-same : (l : Lists) (d : Device) (ps : List QueuedPacket) → l.tasks ≡ (with_queue (place_of d) ps l).tasks
tasks-same l Clock ps = refl
tasks-same l Keyboard ps = refl
tasks-same l Output ps = refl

module _ (s : List ℕ) (l : Lists) (d : Device) (p : QueuedPacket) (ps : List QueuedPacket) (res1 : ℕ) (h : HoldsLists s l) (is : queue_of (place_of d) l ≡ p ∷ ps) where
  -- the lists between the two steps, and the store that has their words
  abbrev m : Lists
  m = with_queue (place_of d) ps l

  abbrev s1 : List ℕ
  s1 = moves.unqueued s (queue_for l (place_of d)) p.address

  -- the packet as it arrives, its words that are set, and the one that is kept
  abbrev at : Place
  at = Work p.sender

  abbrev r : QueuedPacket
  r = returned_by d res1 p

  abbrev ws : Pairs
  ws = (p.address + 4, 0) ∷ (p.address + 3, res1) ∷ (p.address + 1, number_of d) ∷ []

  abbrev kept : Pairs
  kept = (p.address + 2, p.kind) ∷ []

  abbrev x : List ℕ
  x = moves.with_results s1 p.address (number_of d) res1 0

  out : IsWritten s s1 (owned m) ((p.address, no_queue) ∷ [])
  out = departed-written s l (place_of d) p [] ps h is s1 refl

  short : length s1 ≡ length s
  short = departed-size s l (place_of d) p [] ps h is s1 refl

  long : length s1 ≡ m.size
  long = short ∙ h.size ∙ sym (with_queue-size (place_of d) ps l)

  kind : get_or s1 (p.address + 2) 0 ≡ p.kind
  kind = others-kept s l (place_of d) p [] ps h is (p.address + 2) (omega arith) (omega arith) ∙ (held-before s l (place_of d) p [] ps h is).holds.1.1.1.0

  -- what holds of the tasks
  there : has_task p.sender m.tasks ≡ true
  there = subst (λ ts. has_task p.sender ts ≡ true) (tasks-same l d ps) (sender-there l p ps h.valid d is)

  distinct : IsApart (map task_id m.tasks)
  distinct = subst (λ ts. IsApart (map task_id ts)) (tasks-same l d ps) h.valid.tasks.distinct

  fields : AllByRecursion (λ t. IsField t.field) m.tasks
  fields = subst (AllByRecursion (λ t. IsField t.field)) (tasks-same l d ps) (fields-valid l h.valid)

  some : AllByRecursion (λ z. 0 < z.address) (queue_of at m ++ r ∷ [])
  some =
      all-append (λ z. 0 < z.address) (queue_of at m) (r ∷ [])
      (subst (λ ts. AllByRecursion (λ z. 0 < z.address) (work_of p.sender ts)) (tasks-same l d ps)
      (packets-some l at (queue_of at l) (valid-at-place l at h.valid (sender-there l p ps h.valid d is))))
      ((held-before s l (place_of d) p [] ps h is).some.0, tt)

  valid : AreValid (with_work_for p.sender r m)
  valid = returned-valid l p ps h.valid d res1 is

  more : (a : ℕ) → owners a (owned (with_work_for p.sender r m)) ≡ owners a (owned m) + times a (range_with_len p.address 5)
  more = end-owners s1 m at r ws kept out.holds long distinct there valid some tt fields (results-own r) (results-set r) (kind, tt)

  module _ (task : ℕ) (to : TaskAt l.tasks p.sender task) where
    queue-is : queue_for m at ≡ queues.Work task
    queue-is =
        ap queues.Work (ap (λ ts. address_with task_address task_id ts p.sender) (sym (tasks-same l d ps)) ∙ found-address l p.sender task h.valid.tasks.distinct to)

    pub returned-queue : HasQueue x (moves.head_of (queues.Work task))
    returned-queue =
        subst (λ z. HasQueue x (moves.head_of z)) queue-is
        (end-queue s1 m at r ws kept out.holds long distinct there valid some tt fields (results-own r) (results-set r) (kind, tt))

    pub returned-packet : CanQueue x (moves.head_of (queues.Work task)) p.address
    returned-packet =
        subst (λ z. CanQueue x (moves.head_of z) p.address) queue-is
        (end-packet s1 m at r ws kept out.holds long distinct there valid some tt fields (results-own r) (results-set r) (kind, tt))

    pub returned-served : (v : List ℕ) → v ≡ moves.enqueued x (queues.Work task) p.address 0 → IsServed s v l (record { lists = with_work_for p.sender r m; events = [] })
    returned-served v is_v =
        let c : IsChanged s1 v (with_work_for p.sender r m) [] =
        end-changed s1 m at r ws kept out.holds long distinct there valid some tt fields (results-own r) (results-set r) (kind, tt) v 0
        (is_v ∙ ap (λ z. moves.enqueued x z p.address 0) (sym queue-is))
        in
        record {
          lists =
              record {
                lists = c.lists;
                size = c.size ∙ short;
                written =
                    record {
                      holds = c.written.holds;
                      others = λ a none.
                          c.written.others a none
                          ∙ out.others a (omega (arith, none, more a))
                          ∙ get_or-set_other s p.address a no_queue 0 (λ e. absurd (omega (arith, none, more a, times-within a p.address 5 (omega (arith, e)) (omega (arith, e)))));
                    };
              };
          same = λ a. omega (arith, more a, owners-departed s l (place_of d) p [] ps h is a);
        }
