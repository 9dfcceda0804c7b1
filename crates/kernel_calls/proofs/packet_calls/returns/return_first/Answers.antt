use Rattle.std.proofs.Common.{◌≡◌, ◌≢◌, ◌∙◌, ◌+◌, ℕ, List, [], ◌∷◌, Option, Some, None, Bool, true, eqb, get_or, refl, sym, subst, ap}
use Rattle.std.proofs.lemmas.Bool.{eq-eqb, false≢true, or_left}
use Rattle.word_store.specs.Arithmetic.{signed}
use Rattle.kernel_lists.specs.LinkedList.Places.{has}
use Rattle.kernel_lists.specs.PacketQueue.Log.{Notes}
use Rattle.kernel_lists.specs.declared.packet_queue.events.KernelEvent.{KernelEvent}
use Rattle.kernel_lists.specs.declared.packet_queue.events.KernelEvent.TheVariants.{Accepted, Taken}
use Rattle.kernel_lists.specs.PacketQueue.Queue.{CanQueue, HasQueue, queue_at}
use Rattle.kernel_lists.specs.PacketQueue.QueueWords.{HeldQueue}
use Rattle.kernel_lists.specs.TaskBlock.TaskChain.{task_with, tasks_in}
use Rattle.kernel_model.specs.KernelRecord.Changes.{queue_of}
use Rattle.kernel_model.specs.KernelRecord.HoldsLists.{HoldsLists}
use Rattle.kernel_model.specs.KernelRecord.Lists.{Lists}
use Rattle.kernel_model.specs.KernelRecord.NotedEvents.{NotesAll}
use Rattle.kernel_model.proofs.KernelRecord.NotedInTurn.{notes-none, notes-one, notes-then}
use Rattle.kernel_calls.proofs.CallAnswers.FoundTask.{Finds, TaskAt, find-task, reads}
use Rattle.kernel_calls.specs.PacketCalls.Destinations.{queue_for}
use Rattle.kernel_calls.specs.PacketCalls.PacketMoves.{is_on_queue}
use Rattle.kernel_calls.specs.PacketCalls.QueueWords as moves
use Rattle.kernel_calls.specs.declared.packet_calls.queues.Queue.{Queue}
use Rattle.kernel_calls.specs.declared.packet_calls.queues.Queue.TheVariants.{Work}
use Rattle.kernel_calls.proofs.PacketCalls.HeldPlaces.{HasFirst, has-at, valid-at}
use Rattle.kernel_calls.specs.PacketCalls.Returned.{IsServed, first_returned, head_of, number_of, place_of}
use Rattle.kernel_calls.specs.declared.packet_calls.returns.Device.{Device}
use Rattle.kernel_calls.specs.declared.packet_calls.returns.Device.TheVariants.{Clock, Keyboard, Output}
use Rattle.kernel_calls.proofs.PacketCalls.DeviceQueues.{device-held, device-place, one-waits, returned-none, served-none}
use Rattle.kernel_calls.proofs.PacketCalls.ReturnedLists.{sender-there}
use Rattle.kernel_calls.proofs.PacketCalls.ReturnedWords.{returned-packet, returned-queue, returned-served}
use Rattle.kernel_calls.proofs.packet_calls.returns.return_first.Goals as goal

head-same : (l : Lists) (d : Device) → moves.head_of (queue_for l (place_of d)) ≡ head_of d
head-same l Clock = refl
head-same l Keyboard = refl
head-same l Output = refl

-- the queue of the device, and its first packet
module _ (s : List ℕ) (l : Lists) (d : Device) (h : HoldsLists s l) (queue : Queue) (at : queue ≡ queue_for l (place_of d)) where
  has-queue : HasQueue s (moves.head_of queue)
  has-queue = subst (λ q. HasQueue s (moves.head_of q)) (sym at) (valid-at s l (place_of d) h (device-place l d))

  module _ (p : ℕ) (is : p ≡ get_or s (moves.head_of queue) 0) where
    first-read : p ≡ get_or s (head_of d) 0
    first-read = is ∙ (λ i. get_or s (moves.head_of (at i)) 0) ∙ ap (λ a. get_or s a 0) (head-same l d)

    nothing-read : p ≡ 0 → get_or s (head_of d) 0 ≡ 0
    nothing-read none = sym first-read ∙ none

    module _ (some : p ≢ 0) where
      one : HasFirst p (queue_of (place_of d) l)
      one = one-waits s l d h p first-read some

      first-sender : get_or s (p + 1) 0 ≡ one.packet.sender
      first-sender = subst (λ z. get_or s (z + 1) 0 ≡ one.packet.sender) one.address (subst (HeldQueue s (head_of d)) one.is (device-held s l d h)).holds.1.1.0

      sender-of : (sender : ℕ) → sender ≡ get_or s (p + 1) 0 → (o : Option ℕ) → o ≡ task_with s sender (tasks_in s) → Finds one.packet.sender l.tasks o
      sender-of sender read o found = subst (Finds one.packet.sender l.tasks) (sym (found ∙ ap (λ z. task_with s z (tasks_in s)) (read ∙ first-sender))) (find-task s l one.packet.sender h)

      sends : (sender task : ℕ) → sender ≡ get_or s (p + 1) 0 → (o : Option ℕ) → o ≡ task_with s sender (tasks_in s) → o ≡ Some task → TaskAt l.tasks one.packet.sender task
      sends sender task read o found there = subst (Finds one.packet.sender l.tasks) there (sender-of sender read o found)

      is-found : (sender : ℕ) → sender ≡ get_or s (p + 1) 0 → (o : Option ℕ) → o ≡ task_with s sender (tasks_in s) → o ≡ None → ⊥
      is-found sender read o found none =
          false≢true (sym (subst (Finds one.packet.sender l.tasks) none (sender-of sender read o found)) ∙ sender-there l one.packet one.back h.valid d one.is)

      has-packet : has p (queue_at s (moves.head_of queue)) ≡ true
      has-packet =
          subst (λ q. has p (queue_at s (moves.head_of q)) ≡ true) (sym at)
          (has-at s l (place_of d) h (device-place l d) p
          ∙ ap (is_on_queue p) one.is
          ∙ or_left (eqb p one.packet.address) (is_on_queue p one.back) (eq-eqb p one.packet.address (sym one.address)))

      -- once it went out
      module _ (v : List ℕ) (from task res1 : ℕ) (out : v ≡ moves.unqueued s queue p) (number : from ≡ number_of d) (to : TaskAt l.tasks one.packet.sender task) where
        words : moves.with_results v p from res1 0
            ≡ moves.with_results (moves.unqueued s (queue_for l (place_of d)) one.packet.address) one.packet.address (number_of d) res1 0
        words =
            ap (λ z. moves.with_results z p from res1 0) out
            ∙ (λ i. moves.with_results (moves.unqueued s (at i) (sym one.address i)) (sym one.address i) (number i) res1 0)

        back-queue : HasQueue (moves.with_results v p from res1 0) (moves.head_of (Work task))
        back-queue = subst (λ z. HasQueue z (moves.head_of (Work task))) (sym words) (returned-queue s l d one.packet one.back res1 h one.is task to)

        back-packet : CanQueue (moves.with_results v p from res1 0) (moves.head_of (Work task)) p
        back-packet =
            subst (CanQueue (moves.with_results v p from res1 0) (moves.head_of (Work task))) one.address
            (subst (λ z. CanQueue z (moves.head_of (Work task)) one.packet.address) (sym words) (returned-packet s l d one.packet one.back res1 h one.is task to))

        served : (w : List ℕ) → w ≡ moves.enqueued (moves.with_results v p from res1 0) (Work task) p 0 → IsServed s w l (first_returned d res1 (queue_of (place_of d) l) l)
        served w is_w =
            let r = returned-served s l d one.packet one.back res1 h one.is task to w (is_w ∙ (λ i. moves.enqueued (words i) (Work task) (sym one.address i) 0)) in
            subst (λ ps. IsServed s w l (first_returned d res1 ps l)) (sym one.is) (record { lists = r.lists; same = r.same })

-- the two events
both-noted : (b m n : Option (List KernelEvent)) (x y z : Bool) (d : Device) (res1 : ℕ) (l : Lists) (p from sender : ℕ) (f : HasFirst p (queue_of (place_of d) l)) (e e' : KernelEvent)
    → e ≡ Taken (signed from) p (signed sender) → e' ≡ Accepted (signed sender) p (signed from) → from ≡ number_of d → sender ≡ f.packet.sender → Notes b m x y e → Notes m n y z e'
    → NotesAll b n x z (first_returned d res1 (queue_of (place_of d) l) l).events
both-noted b m n x y z d res1 l p from sender f e e' is is' number read one two =
    subst (λ ps. NotesAll b n x z (first_returned d res1 ps l).events) (sym f.is)
    (notes-then b m n x y z (e1 ∷ []) (e2 ∷ []) (notes-one b m x y e1 (subst (Notes b m x y) (is ∙ (λ i. Taken (signed (number i)) (sym f.address i) (signed (read i)))) one))
    (notes-one m n y z e2 (subst (Notes m n y z) (is' ∙ (λ i. Accepted (signed (read i)) (sym f.address i) (signed (number i)))) two)))
  where
    e1 : KernelEvent
    e1 = Taken (signed (number_of d)) f.packet.address (signed f.packet.sender)

    e2 : KernelEvent
    e2 = Accepted (signed f.packet.sender) f.packet.address (signed (number_of d))

pub first-p-requires : goal.first-p-requires
first-p-requires g c = has-queue c.args.store.now c.requires.0 c.args.device c.requires.1 c.queue-queue.result (c.queue-queue.ensures c.requires.0)

pub returns-then-p-eq0-clause-lists : goal.returns-then-p-eq0-clause-lists
returns-then-p-eq0-clause-lists g c = λ l h.
    subst (IsServed c.args.store.now c.args.store.now l)
    (sym (returned-none c.args.store.now l c.args.device h c.args.res1
    (nothing-read c.args.store.now l c.args.device h c.queue-queue.result (c.queue-queue.ensures l) c.first-p.result c.first-p.ensures c.if-p-eq0.true)))
    (served-none c.args.store.now l c.args.device h)

pub returns-then-p-eq0-clause-notes : goal.returns-then-p-eq0-clause-notes
returns-then-p-eq0-clause-notes g c = λ l h.
    subst (λ m. NotesAll (g.L.EventLog.noted c.args.log.now) (g.L.EventLog.noted c.args.log.now) (g.L.EventLog.has_failed c.args.log.now) (g.L.EventLog.has_failed c.args.log.now) m.events)
    (sym (returned-none c.args.store.now l c.args.device h c.args.res1
    (nothing-read c.args.store.now l c.args.device h c.queue-queue.result (c.queue-queue.ensures l) c.first-p.result c.first-p.ensures c.if-p-eq0.true)))
    (notes-none (g.L.EventLog.noted c.args.log.now) (g.L.EventLog.has_failed c.args.log.now))

pub find-requires : goal.find-requires
find-requires g c = (reads c.args.store.now c.requires.0 c.requires.1).tasks.tasks

pub returns-in_default-clause-lists : goal.returns-in_default-clause-lists
returns-in_default-clause-lists g c = λ l h.
    absurd (is-found c.args.store.now l c.args.device h c.queue-queue.result (c.queue-queue.ensures l) c.first-p.result c.first-p.ensures c.if-p-eq0.false c.word_at-sender.result
    c.word_at-sender.ensures c.find.result c.find.ensures c.in_default.is)

pub returns-in_default-clause-notes : goal.returns-in_default-clause-notes
returns-in_default-clause-notes g c = λ l h.
    absurd (is-found c.args.store.now l c.args.device h c.queue-queue.result (c.queue-queue.ensures l) c.first-p.result c.first-p.ensures c.if-p-eq0.false c.word_at-sender.result
    c.word_at-sender.ensures c.find.result c.find.ensures c.in_default.is)

pub unqueue-requires-clause-queue : goal.unqueue-requires-clause-queue
unqueue-requires-clause-queue g c = has-queue c.args.store.now c.requires.0 c.args.device c.requires.1 c.queue-queue.result (c.queue-queue.ensures c.requires.0)

pub unqueue-requires-clause-packet : goal.unqueue-requires-clause-packet
unqueue-requires-clause-packet g c =
    has-packet c.args.store.now c.requires.0 c.args.device c.requires.1 c.queue-queue.result (c.queue-queue.ensures c.requires.0) c.first-p.result c.first-p.ensures c.if-p-eq0.false

pub give_back-requires-clause-queue : goal.give_back-requires-clause-queue
give_back-requires-clause-queue g c =
    let l = c.requires.0 in
    let s = c.args.store.now in
    back-queue s l c.args.device c.requires.1 c.queue-queue.result (c.queue-queue.ensures l) c.first-p.result c.first-p.ensures c.if-p-eq0.false c.unqueue.new.store c.number-from.result c.in-Some.task
    c.args.res1 c.unqueue.ensures c.number-from.ensures
    (sends s l c.args.device c.requires.1 c.queue-queue.result (c.queue-queue.ensures l) c.first-p.result c.first-p.ensures c.if-p-eq0.false c.word_at-sender.result c.in-Some.task c.word_at-sender.ensures
    c.find.result c.find.ensures c.in-Some.is)

pub give_back-requires-clause-packet : goal.give_back-requires-clause-packet
give_back-requires-clause-packet g c =
    let l = c.requires.0 in
    let s = c.args.store.now in
    back-packet s l c.args.device c.requires.1 c.queue-queue.result (c.queue-queue.ensures l) c.first-p.result c.first-p.ensures c.if-p-eq0.false c.unqueue.new.store c.number-from.result c.in-Some.task
    c.args.res1 c.unqueue.ensures c.number-from.ensures
    (sends s l c.args.device c.requires.1 c.queue-queue.result (c.queue-queue.ensures l) c.first-p.result c.first-p.ensures c.if-p-eq0.false c.word_at-sender.result c.in-Some.task c.word_at-sender.ensures
    c.find.result c.find.ensures c.in-Some.is)

pub returns-clause-lists : goal.returns-clause-lists
returns-clause-lists g c = λ l h.
    let s = c.args.store.now in
    served s l c.args.device h c.queue-queue.result (c.queue-queue.ensures l) c.first-p.result c.first-p.ensures c.if-p-eq0.false c.unqueue.new.store c.number-from.result c.in-Some.task c.args.res1
    c.unqueue.ensures c.number-from.ensures
    (sends s l c.args.device h c.queue-queue.result (c.queue-queue.ensures l) c.first-p.result c.first-p.ensures c.if-p-eq0.false c.word_at-sender.result c.in-Some.task c.word_at-sender.ensures
    c.find.result c.find.ensures c.in-Some.is)
    c.give_back.new.store c.give_back.ensures

pub returns-clause-notes : goal.returns-clause-notes
returns-clause-notes g c = λ l h.
    let s = c.args.store.now in
    let f = one s l c.args.device h c.queue-queue.result (c.queue-queue.ensures l) c.first-p.result c.first-p.ensures c.if-p-eq0.false in
    both-noted (g.L.EventLog.noted c.args.log.now) (g.L.EventLog.noted c.note.new.self) (g.L.EventLog.noted c.note-2.new.self) (g.L.EventLog.has_failed c.args.log.now) (g.L.EventLog.has_failed c.note.new.self)
    (g.L.EventLog.has_failed c.note-2.new.self) c.args.device c.args.res1 l c.first-p.result c.number-from.result c.word_at-sender.result f c.taken.result c.accepted.result c.taken.ensures c.accepted.ensures
    c.number-from.ensures
    (c.word_at-sender.ensures ∙ first-sender s l c.args.device h c.queue-queue.result (c.queue-queue.ensures l) c.first-p.result c.first-p.ensures c.if-p-eq0.false) c.note.ensures c.note-2.ensures
