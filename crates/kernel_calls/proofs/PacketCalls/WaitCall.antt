-- What a task that takes its first packet leaves, and one that waits for a packet.
use Rattle.std.proofs.Common.{◌≡◌, ◌≢◌, ℕ, ◌+◌, Bool, true, false, Option, Some, None, Ok, List, [], ◌∷◌, ◌++◌, cond, get_or, set, eqb, inl, inr, refl, sym, ap, ◌∙◌, subst, arith}
use Rattle.std.specs.List.{AllByRecursion, range_with_len}
use Rattle.std.proofs.lemmas.Bool.{eq-eqb, false_from_ne_true, leb-true, or_left}
use Rattle.word_store.specs.Arithmetic.{signed}
use Rattle.word_store.specs.Count.{IsApart}
use Rattle.kernel_lists.specs.LinkedList.Places.{has}
use Rattle.kernel_lists.specs.OwnedWords.Exchange.{Exchange}
use Rattle.kernel_lists.specs.OwnedWords.LinkedWords.{first_of}
use Rattle.kernel_lists.proofs.OwnedWords.Exchanges.{exchange-left, exchange-right, exchange-row}
use Rattle.kernel_lists.specs.PacketQueue.Log.{Notes}
use Rattle.kernel_lists.specs.PacketQueue.Queue.{HasQueue, queue_at}
use Rattle.kernel_lists.specs.PacketQueue.QueueWords.{QueuedPacket, queue_words}
use Rattle.kernel_lists.specs.declared.packet_queue.events.KernelEvent.{KernelEvent}
use Rattle.kernel_lists.specs.declared.packet_queue.events.KernelEvent.TheVariants.{Taken}
use Rattle.kernel_lists.specs.Coroutines.CoroutineExchanges.{words_of_coroutines}
use Rattle.kernel_model.specs.KernelRecord.ChangedStore.{HasKeeper, IsChanged, Knows}
use Rattle.kernel_model.specs.KernelRecord.Changes.{queue_of, with_queue, with_task, with_tasks}
use Rattle.kernel_model.specs.KernelRecord.Lists.{Lists, has_task}
use Rattle.kernel_model.specs.KernelRecord.NotedEvents.{NotesAll}
use Rattle.kernel_model.specs.KernelRecord.Owned.{owned}
use Rattle.kernel_model.specs.KernelRecord.Task.{Task, fault_words, globals_of, is_guest_id, name_words, queue_bit, queue_head, stack_of, state_word, state_words, task_address, task_words}
use Rattle.kernel_model.specs.KernelRecord.ValidLists.{AreValid}
use Rattle.kernel_model.specs.KernelRecord.ValidQueues.{IsFaultPacket, IsKeyPacket, IsValidPacket, Place, is_fault_packet, is_key_packet}
use Rattle.kernel_model.specs.KernelRecord.ValidQueues.Place.{Clock, Keyboard, Output, Pending, Work}
use Rattle.kernel_model.specs.KernelRecord.ValidTasks.{IsTask}
use Rattle.kernel_model.proofs.KernelRecord.ChangedLists.{exchange-owned, knows-same, one_task-owned, owners-exchanged}
use Rattle.kernel_model.proofs.KernelRecord.NotedInTurn.{notes-none, notes-one}
use Rattle.kernel_model.proofs.KernelRecord.OneTask.{same_task-valid}
use Rattle.kernel_model.proofs.KernelRecord.PacketMoves.{unqueued-valid}
use Rattle.kernel_model.proofs.KernelRecord.QueuePlaces.{valid-at-place}
use Rattle.kernel_model.specs.WordKinds.Keeper.{AreTogether}
use Rattle.kernel_model.proofs.WordKinds.KnownWords.{knows-released}
use Rattle.kernel_calls.specs.CallAnswers.Callers.{HasCaller}
use Rattle.kernel_calls.specs.CallAnswers.Guests.{GuestAt}
use Rattle.kernel_calls.specs.CallAnswers.CallChange.{IsMade}
use Rattle.kernel_calls.proofs.CallAnswers.GuestTask.{GuestFacts, guest-changed, guest-facts}
use Rattle.kernel_calls.specs.PacketCalls.Destinations.{queue_for}
use Rattle.kernel_calls.specs.PacketCalls.PacketMoves.{is_on_queue}
use Rattle.kernel_calls.specs.PacketCalls.QueueWords.{head_of, unqueued}
use Rattle.kernel_calls.specs.PacketCalls.TaskWait.{first_of_queue, taskwait, waited, waiting}
use Rattle.kernel_calls.specs.declared.packet_calls.queues.Queue.TheVariants as queues
use Rattle.kernel_calls.proofs.PacketCalls.CallerTask.{caller-first, caller-number, caller-queue, caller-runs, caller-state, caller-there}
use Rattle.kernel_calls.proofs.PacketCalls.HeldPlaces.{HasFirst, first-there, has-at, held-at, no-packets, valid-at}
use Rattle.kernel_calls.proofs.PacketCalls.Departure.{departed-changed, held-before, others-kept, owners-departed}

-- a place by the number of its task
abbrev number_in : Place → ℕ
number_in (Work id) = id
number_in Clock = 0
number_in Keyboard = 0
number_in Output = 0
number_in Pending = 0

-- ---- a task with no packets

pub waits-more : (f b h : ℕ) → f ≡ 0 → f + b + h + 4 ≡ 4 + b + h
waits-more f b h e = omega arith

-- its state alone changes
pub waiting-exchange : (version : ℕ) (t : Task) (n : ℕ)
    → Exchange (task_words version t n) (task_words version (waiting t) n) ((t.address + 4, state_word t) ∷ []) ((t.address + 4, state_word (waiting t)) ∷ [])
waiting-exchange version t n =
    exchange-right ((t.address, n) ∷ name_words t) _ _ _ _
    (exchange-left (state_words version t) (state_words version (waiting t)) (fault_words version t ++ (queue_words (queue_head t.address) t.queue ++ words_of_coroutines t.address t.coroutines)) _ _
    (exchange-row t.address 4 (state_word t) (state_word (waiting t)) []
    (t.flags ∷ stack_of version t ∷ t.highest ∷ globals_of version t ∷ t.maker ∷ first_of (λ m. m) t.modules 0 ∷ t.saved.a ∷ t.saved.b ∷ t.saved.c ∷ t.saved.p ∷ t.saved.g ∷ t.saved.pc ∷ [])))

IsTask-waiting : (l : Lists) (t : Task) → is_guest_id t.id ≡ true → IsTask l t → IsTask l (waiting t)
IsTask-waiting l t guest h =
    record {
      low = h.low;
      high = h.high;
      maker = h.maker;
      field = inr (inl refl);
      byte = h.byte;
      guest = λ is.
          let g = h.guest is in
          record { high = g.high; block = g.block; some_module = g.some_module; most = g.most; modules = g.modules; fault = g.fault; unreported = g.unreported };
      resident = λ is. cc;
    }

module _ (s : List ℕ) (tells : List ℕ → Type 0) (room : ℕ) (l : Lists) (t : ℕ) (k : HasKeeper s tells room l) (c : HasCaller l) (g : GuestAt l l.running t) where
  facts : GuestFacts s l l.running t g.task
  facts = guest-facts s l l.running t k.lists g

  abbrev after : Lists
  after = with_tasks (g.front ++ waiting g.task ∷ g.back) l

  after-is : with_task l.running waiting l ≡ after
  after-is = ap (λ ts. with_tasks ts l) (guest-changed l l.running t waiting k.lists.valid g)

  exchange : Exchange (owned l) (owned after) ((g.task.address + 4, state_word g.task) ∷ []) ((g.task.address + 4, state_word (waiting g.task)) ∷ [])
  exchange = one_task-owned l g.front g.task (waiting g.task) g.back _ _ g.is refl refl (waiting-exchange l.version g.task (first_of task_address g.back 0))

  waiting-valid : AreValid after
  waiting-valid =
      same_task-valid l g.front g.back g.task (waiting g.task) k.lists.valid g.is (record { id = refl; address = refl; priority = refl; queue = refl; coroutines = refl })
      (IsTask-waiting l g.task facts.guest facts.task) (record { each = facts.coroutines.each; members = facts.coroutines.members; distinct = facts.coroutines.distinct })

  waiting-words : set s (t + 4) (get_or s (t + 4) 0 + 4) ≡ set s (g.task.address + 4) (state_word (waiting g.task))
  waiting-words = λ i.
      set s (sym g.at i + 4)
      ((ap (λ w. w + 4) (caller-state s l l.running t k.lists g) ∙ waits-more g.task.field (queue_bit g.task.queue) (cond g.task.held 2 0) (caller-runs l t c g)) i)

  empty : get_or s (t + 3) 0 ≡ 0 → queue_of (Work l.running) l ≡ []
  empty none =
      no-packets (queue_of (Work l.running) l) (held-at s l (Work l.running) k.lists (caller-there s l l.running t k.lists g)).some (sym (caller-first s l l.running t k.lists g) ∙ none)

  pub none-waits : (v : List ℕ) → get_or s (t + 3) 0 ≡ 0 → v ≡ set s (t + 4) (get_or s (t + 4) 0 + 4) → IsMade s v tells (Ok 0) (taskwait l)
  none-waits v none is =
      let changed : IsChanged s v after [] = exchange-owned s v l after _ _ k.lists waiting-valid refl exchange (is ∙ waiting-words) in
      let knows : Knows tells after = knows-same tells l after (λ a. sym (owners-exchanged (owned l) (owned after) _ _ a exchange refl)) k.knows in
      subst (λ ps. IsMade s v tells (Ok 0) (waited ps l)) (sym (empty none))
      (subst (λ m. IsMade s v tells (Ok 0) (record { answer = Ok 0; lists = m; plain = []; events = [] })) (sym after-is)
      (record { leaves = record { lists = changed; answered = refl }; knows = knows }))

  pub none-first : get_or s (t + 3) 0 ≡ 0 → None ≡ first_of_queue (queue_of (Work l.running) l)
  none-first none = ap first_of_queue (sym (empty none))

  pub none-noted : (events : Option (List KernelEvent)) (f : Bool) → get_or s (t + 3) 0 ≡ 0 → NotesAll events events f f (taskwait l).events
  none-noted events f none = subst (λ ps. NotesAll events events f f (waited ps l).events) (sym (empty none)) (notes-none events f)

  -- ---- a task with packets

  module _ (p : ℕ) (at : p ≡ get_or s (t + 3) 0) (some : p ≢ 0) where
    first : HasFirst p (queue_of (Work l.running) l)
    first = first-there p (queue_of (Work l.running) l) (at ∙ caller-first s l l.running t k.lists g) some

    abbrev q : QueuedPacket
    q = first.packet

    there : has_task l.running l.tasks ≡ true
    there = caller-there s l l.running t k.lists g

    guest : is_guest_id l.running ≡ true
    guest = c.guest

    valid-packet : IsValidPacket l (Work l.running) q
    valid-packet = (subst (AllByRecursion (IsValidPacket l (Work l.running))) first.is (valid-at-place l (Work l.running) k.lists.valid there)).0

    no_key : is_key_packet l q ≡ false
    no_key = false_from_ne_true (is_key_packet l q) (λ one. (let i : IsKeyPacket (Work l.running) q = valid-packet.key one in absurd (omega (arith, leb-true 5 l.running guest, i.place.0))))

    no_fault : is_fault_packet l q ≡ false
    no_fault =
        false_from_ne_true (is_fault_packet l q)
        (λ one. (let i : IsFaultPacket (Work l.running) q = valid-packet.fault one in absurd (omega (arith, leb-true 5 l.running guest, ap number_in i.place))))

    valid : AreValid (with_queue (Work l.running) first.back l)
    valid = unqueued-valid l (Work l.running) q [] first.back k.lists.valid first.is no_key no_fault

    pub wait-queue : HasQueue s (queue_head t)
    wait-queue = subst (λ z. HasQueue s (head_of z)) (caller-queue s l l.running t k.lists g) (valid-at s l (Work l.running) k.lists there)

    pub wait-packet : has p (queue_at s (queue_head t)) ≡ true
    wait-packet =
        subst (λ z. has p (queue_at s (head_of z)) ≡ true) (caller-queue s l l.running t k.lists g)
        (has-at s l (Work l.running) k.lists there p ∙ ap (is_on_queue p) first.is ∙ or_left (eqb p q.address) (is_on_queue p first.back) (eq-eqb p q.address (sym first.address)))

    left-is : (v : List ℕ) → v ≡ unqueued s (queues.Work t) p → v ≡ unqueued s (queue_for l (Work l.running)) q.address
    left-is v is = is ∙ (λ i. unqueued s (sym (caller-queue s l l.running t k.lists g) i) (sym first.address i))

    pub some-taken : (v : List ℕ) (told : List ℕ → Type 0) → v ≡ unqueued s (queues.Work t) p
        → ((known rest : List ℕ) → tells known → IsApart known → AreTogether known rest (range_with_len p 5) → told rest)
        → IsMade s v told (Ok p) (taskwait l)
    some-taken v told is release =
        subst (λ z. IsMade s v told (Ok z) (taskwait l)) first.address
        (subst (λ ps. IsMade s v told (Ok q.address) (waited ps l)) (sym first.is)
        (record {
          leaves = record { lists = departed-changed s l (Work l.running) q [] first.back k.lists first.is v valid (left-is v is); answered = refl };
          knows =
              knows-released tells told l (with_queue (Work l.running) first.back l) q.address 5 k.lists.valid.owns (owners-departed s l (Work l.running) q [] first.back k.lists first.is) k.knows
              (subst (λ z. (known rest : List ℕ) → tells known → IsApart known → AreTogether known rest (range_with_len z 5) → told rest) (sym first.address) release);
        }))

    pub taken-first : Some p ≡ first_of_queue (queue_of (Work l.running) l)
    taken-first = ap Some (sym first.address) ∙ ap first_of_queue (sym first.is)

    pub some-noted : (v : List ℕ) (before now : Option (List KernelEvent)) (f g' : Bool) → v ≡ unqueued s (queues.Work t) p
        → Notes before now f g' (Taken (signed (get_or s (t + 1) 0)) p (signed (get_or v (p + 1) 0))) → NotesAll before now f g' (taskwait l).events
    some-noted v before now f g' is notes =
        let sender : get_or v (p + 1) 0 ≡ q.sender =
        (λ i. get_or (left-is v is i) (sym first.address i + 1) 0)
        ∙ others-kept s l (Work l.running) q [] first.back k.lists first.is (q.address + 1) (omega arith) (omega arith)
        ∙ (held-before s l (Work l.running) q [] first.back k.lists first.is).holds.1.1.0
        in
        subst (λ ps. NotesAll before now f g' (waited ps l).events) (sym first.is)
        (subst (λ e. NotesAll before now f g' (e ∷ [])) (λ i. Taken (signed (caller-number s l l.running t k.lists g i)) (sym first.address i) (signed (sender i))) (notes-one before now f g' _ notes))
