-- A task takes its first packet.
use Rattle.std.proofs.Common.{◌≡◌, ◌≢◌, ℕ, ◌+◌, ◌-◌, ◌%◌, ◌<◌, Bool, cond, true, false, List, [], ◌∷◌, ◌++◌, map, get_or, length, set, inl, inr, refl, sym, ap, ◌∙◌, subst, arith}
use Rattle.std.specs.List.{AllByRecursion, range_with_len}
use Rattle.std.proofs.lemmas.Bool.{cases_eq, false_from_ne_true, leb-true, ne_eqb}
use Rattle.std.proofs.lemmas.List.{get_or-set_other, get_or-set_same, length-set}
use Rattle.word_store.specs.Count.{IsApart, times}
use Rattle.word_store.proofs.Counts.{hit-other, hit-same}
use Rattle.kernel_lists.specs.OwnedWords.Exchange.{Exchange}
use Rattle.kernel_lists.specs.OwnedWords.LinkedWords.{first_of}
use Rattle.kernel_lists.specs.OwnedWords.Owned.{Pairs, owners, written}
use Rattle.kernel_lists.proofs.OwnedWords.OwnedWords.{Holds-written, written-other}
use Rattle.kernel_lists.specs.PacketQueue.Queue.{no_queue, unlinked}
use Rattle.kernel_lists.specs.PacketQueue.QueueWords.{HeldQueue, QueuedPacket, RemoveExchange, first_packet, packet_words, queue_words}
use Rattle.kernel_lists.proofs.PacketQueue.HeldQueues.{remove-exchange}
use Rattle.kernel_model.specs.KernelRecord.ChangedStore.{IsChanged}
use Rattle.kernel_model.specs.KernelRecord.Changes.{queue_of, with_queue, with_tasks, with_work, work_of}
use Rattle.kernel_model.specs.KernelRecord.HoldsLists.{HoldsLists}
use Rattle.kernel_model.specs.KernelRecord.Lists.{Lists}
use Rattle.kernel_model.specs.KernelRecord.Owned.{owned}
use Rattle.kernel_model.specs.KernelRecord.Task.{Task, is_guest_id, queue_head, state_word, task_address, task_id}
use Rattle.kernel_model.specs.KernelRecord.ValidLists.{AreValid}
use Rattle.kernel_model.specs.KernelRecord.ValidQueues.{IsFaultPacket, IsKeyPacket, IsValidPacket, Place, is_fault_packet, is_key_packet}
use Rattle.kernel_model.specs.KernelRecord.ValidQueues.Place.{Clock, Keyboard, Output, Pending, Work}
use Rattle.kernel_model.specs.KernelRecord.ValidTasks.{IsField, IsTask}
use Rattle.kernel_model.proofs.KernelRecord.AllThings.{all-here}
use Rattle.kernel_model.proofs.KernelRecord.ChainSplits.{change-between, work_of-between}
use Rattle.kernel_model.proofs.KernelRecord.ChangedLists.{exchange-changed, one_task-owned}
use Rattle.kernel_model.proofs.KernelRecord.PacketMoves.{unqueued-unowned, unqueued-valid}
use Rattle.kernel_model.proofs.KernelRecord.QueueCounts.{owners-packet}
use Rattle.kernel_model.proofs.KernelRecord.Reading.{read-lists}
use Rattle.kernel_model.specs.KernelDispatch.Private.DispatchWords.{state_of, taken_state, with_taken}
use Rattle.kernel_model.proofs.KernelDispatch.StateExchanges.{exchange-state, exchange-task}
use Rattle.kernel_model.proofs.KernelDispatch.TaskStates.{by-field, tells-states}

-- the state once the packet was taken
abbrev SaysTaken : Task → Bool → QueuedPacket → List QueuedPacket → ℕ → Type 0
SaysTaken t h p qs n = taken_state (state_word (record t { field = n; held = h; queue = p ∷ qs })) (first_packet qs) ≡ state_word (record t { field = n; held = h; queue = qs })

more-left : (w n : ℕ) → 0 < n → taken_state w n ≡ w
more-left w n some = ap (λ b. cond b (w - w % 2) w) (ne_eqb n 0 (λ e. absurd (omega (arith, some, e))))

taken-state : (t : Task) (p : QueuedPacket) (qs : List QueuedPacket) → IsField t.field → AllByRecursion (λ q. 0 < q.address) qs → SaysTaken t t.held p qs t.field
taken-state t p [] f some = on t.held
  where
    on : (h : Bool) → SaysTaken t h p [] t.field
    on true = by-field (SaysTaken t true p []) refl refl refl refl t.field f
    on false = by-field (SaysTaken t false p []) refl refl refl refl t.field f
taken-state t p (q ∷ qs) f some = more-left (state_word (record t { queue = p ∷ q ∷ qs })) q.address some.0

abbrev number_of : Place → ℕ
number_of (Work id) = id
number_of Clock = 0
number_of Keyboard = 0
number_of Output = 0
number_of Pending = 0

module _ (s t : List ℕ) (l : Lists) (front : List Task) (c : Task) (back : List Task) (p : QueuedPacket) (qs : List QueuedPacket)
    (is : l.tasks ≡ front ++ c ∷ back) (queue : c.queue ≡ p ∷ qs) (guest : is_guest_id c.id ≡ true) (h : HoldsLists s l) where
  abbrev u : Task
  u = record c { queue = qs }

  abbrev after : Lists
  after = with_tasks (front ++ u ∷ back) l

  abbrev head : ℕ
  head = queue_head c.address

  held : HeldQueue s head (p ∷ qs)
  held =
      subst (HeldQueue s head) queue
      (all-here (λ z. HeldQueue s (queue_head z.address) z.queue) front c back (subst (AllByRecursion (λ z. HeldQueue s (queue_head z.address) z.queue)) is (read-lists s l h.valid h.size h.holds).work))

  moved : RemoveExchange s (unlinked s head p.address) head [] p qs
  moved = remove-exchange s head [] p qs held

  valid-packet : IsValidPacket l (Work c.id) p
  valid-packet =
      (subst (AllByRecursion (IsValidPacket l (Work c.id))) queue
      (all-here (λ z. AllByRecursion (IsValidPacket l (Work z.id)) z.queue) front c back (subst (AllByRecursion (λ z. AllByRecursion (IsValidPacket l (Work z.id)) z.queue)) is h.valid.queues.tasks))).0

  queue_is : queue_of (Work c.id) l ≡ [] ++ p ∷ qs
  queue_is = ap (work_of c.id) is ∙ work_of-between front c back (subst (λ ts. IsApart (map task_id ts)) is h.valid.tasks.distinct) ∙ queue

  no_key : is_key_packet l p ≡ false
  no_key = false_from_ne_true (is_key_packet l p) (λ some. (let k : IsKeyPacket (Work c.id) p = valid-packet.key some in absurd (omega (arith, leb-true 5 c.id guest, k.place.0))))

  no_fault : is_fault_packet l p ≡ false
  no_fault = false_from_ne_true (is_fault_packet l p) (λ some. (let k : IsFaultPacket (Work c.id) p = valid-packet.fault some in absurd (omega (arith, leb-true 5 c.id guest, ap number_of k.place))))

  becomes : with_queue (Work c.id) qs l ≡ after
  becomes =
      ap (λ ts. with_tasks (map (with_work c.id qs) ts) l) is
      ∙ ap (λ ts. with_tasks ts l) (change-between (λ z. record z { queue = qs }) front c back (subst (λ ts. IsApart (map task_id ts)) is h.valid.tasks.distinct))

  pub valid-taken : AreValid after
  valid-taken = subst AreValid becomes (unqueued-valid l (Work c.id) p [] qs h.valid queue_is no_key no_fault)

  unowned : (a : ℕ) → 0 < owners a ((p.address, no_queue) ∷ []) → owners a (owned after) ≡ 0
  unowned a some =
      elim (cases_eq a p.address) [
        | inl e ↦ ap (λ z. owners a (owned z)) (sym becomes) ∙ unqueued-unowned l (Work c.id) p [] qs h.valid queue_is a (omega (arith, e)) (omega (arith, e))
        | inr ne ↦ absurd (omega (arith, some, hit-other a p.address ne))
      ]

  abbrev old : Pairs
  old = (c.address + 4, state_word c) ∷ (head, p.address) ∷ packet_words p (first_packet qs)

  abbrev new : Pairs
  new = (c.address + 4, state_word u) ∷ (head, first_packet qs) ∷ []

  exchange : Exchange (owned l) (owned after) old new
  exchange =
      one_task-owned l front c u back old new is refl refl
      (exchange-task l.version c c.field c.saved qs (first_of task_address back 0) ((c.address + 4, state_word c) ∷ []) ((c.address + 4, state_word u) ∷ [])
      ((head, p.address) ∷ packet_words p (first_packet qs)) ((head, first_packet qs) ∷ [])
      (exchange-state l.version c c.field qs)
      (subst (λ z. Exchange (queue_words head z) (queue_words head qs) ((head, p.address) ∷ packet_words p (first_packet qs)) ((head, first_packet qs) ∷ [])) (sym queue) moved.exchange))

  -- the five words of the packet are owned no more
  pub owners-taken : (a : ℕ) → owners a (owned l) ≡ owners a (owned after) + times a (range_with_len p.address 5)
  owners-taken a = omega (arith, exchange.first.count a, exchange.then'.count a, owners-packet a p (first_packet qs))

  abbrev links : Pairs
  links = (p.address, no_queue) ∷ (head, first_packet qs) ∷ []

  next : get_or (unlinked s head p.address) head 0 ≡ first_packet qs
  next =
      ap (λ z. get_or z head 0) moved.words
      ∙ (Holds-written links s (λ a. omega (arith, held.apart a)) (λ a some. held.inside a (omega (arith, some)))).1.0

  pub changed-taken : t ≡ with_taken s c.address p.address → IsChanged s t after ((p.address, no_queue) ∷ [])
  changed-taken is_t =
      let task : IsTask l c = all-here (IsTask l) front c back (subst (AllByRecursion (IsTask l)) is h.valid.tasks.each) in
      let state : state_of s c.address ≡ state_word (record c { queue = p ∷ qs }) =
      all-here (λ z. state_of s z.address ≡ state_word z) front c back (subst (AllByRecursion (λ z. state_of s z.address ≡ state_word z)) is (tells-states s l h))
      ∙ ap (λ z. state_word (record c { queue = z })) queue
      in
      exchange-changed s t l after old new ((p.address, no_queue) ∷ []) ((c.address + 4, state_word u) ∷ links) h valid-taken refl exchange
      (record { count = λ a. omega arith; opens = λ v k. ((k.1.0, tt), (k.0, k.1.1)); closes = λ v j k. (k.0, (j.0, k.1)) })
      (λ a. omega (arith, held.apart a)) (λ a some. held.inside a (omega (arith, some))) unowned
      (is_t
      ∙ ap (λ w. set (unlinked s head p.address) (c.address + 4) w) ((λ i. taken_state (state i) (next i)) ∙ taken-state c p qs task.field held.some.1)
      ∙ ap (λ z. set z (c.address + 4) (state_word u)) moved.words)

  -- the packet's sender still is in it
  pub sender-stays : t ≡ with_taken s c.address p.address → get_or t (p.address + 1) 0 ≡ p.sender
  sender-stays is_t =
      ap (λ z. get_or z (p.address + 1) 0) (is_t ∙ ap (λ z. set z (c.address + 4) (taken_state (state_of s c.address) (get_or (unlinked s head p.address) head 0))) moved.words)
      ∙ written-other (p.address + 1) ((c.address + 4, taken_state (state_of s c.address) (get_or (unlinked s head p.address) head 0)) ∷ links) s
      (omega (arith, exchange.first.count (p.address + 1), h.valid.owns.apart (p.address + 1), hit-same (p.address + 1) (p.address + 1) refl))
      ∙ held.holds.1.1.0

  -- every word but the head of the queue, the state and the packet's link is as it was
  pub others-stay : (a : ℕ) → a ≢ head → a ≢ c.address + 4 → t ≡ with_taken s c.address p.address → get_or t a 0 ≡ get_or (written ((p.address, no_queue) ∷ []) s) a 0
  others-stay a not_head not_state is_t =
      ap (λ z. get_or z a 0) is_t
      ∙ get_or-set_other (unlinked s head p.address) (c.address + 4) a _ 0 not_state
      ∙ ap (λ z. get_or z a 0) moved.words
      ∙ elim (cases_eq a p.address) [
        | inl e ↦ ap (λ z. get_or (written links s) z 0) e ∙ get_or-set_same (set s head (first_packet qs)) p.address no_queue 0 (omega (arith, inside, length-set s head (first_packet qs)))
            ∙ sym (get_or-set_same s p.address no_queue 0 inside) ∙ ap (λ z. get_or (set s p.address no_queue) z 0) (sym e)
        | inr ne ↦ get_or-set_other (set s head (first_packet qs)) p.address a no_queue 0 ne ∙ get_or-set_other s head a (first_packet qs) 0 not_head ∙ sym (get_or-set_other s p.address a no_queue 0 ne)
      ]
    where
      inside : p.address < length s
      inside = held.inside p.address (omega (arith, hit-same p.address p.address refl))
