-- The words of a queue among all owned words: an exchange in the queue at a place is one of all, together with the state of the
-- task whose queue it is.
use Rattle.std.proofs.Common.{◌≡◌, ℕ, ◌+◌, ◌%◌, ◌-◌, ◌<◌, ◌||◌, Bool, true, false, None, List, [], ◌∷◌, ◌++◌, map, cond, eqb, inl, inr, refl, sym, ap, ◌∙◌, subst, arith}
use Rattle.std.specs.List.{AllByRecursion}
use Rattle.std.proofs.lemmas.Bool.{eq-eqb, ne_eqb}
use Rattle.word_store.specs.Count.{IsApart, times}
use Rattle.word_store.proofs.Counts.{hit-same}
use Rattle.kernel_lists.specs.OwnedWords.Exchange.{Exchange}
use Rattle.kernel_lists.specs.OwnedWords.LinkedWords.{first_of}
use Rattle.kernel_lists.specs.OwnedWords.Owned.{Pairs}
use Rattle.kernel_lists.proofs.OwnedWords.Exchanges.{exchange-all, exchange-both, exchange-left, exchange-right, exchange-row}
use Rattle.kernel_lists.specs.GetvecChain.BlockWords.{blocks_words}
use Rattle.kernel_lists.specs.HunkLoader.ModuleExchanges.{modules_words}
use Rattle.kernel_lists.specs.PacketQueue.QueueWords.{QueuedPacket, first_packet, queue_words}
use Rattle.kernel_lists.specs.Coroutines.CoroutineExchanges.{words_of_coroutines}
use Rattle.kernel_lists.specs.TaskBlock.HeldTasks.{address_with}
use Rattle.kernel_model.specs.KernelRecord.Changes.{HasPlace, queue_of, with_key, with_queue, with_tasks}
use Rattle.kernel_model.specs.KernelRecord.Lists.{Lists, address_of_task, has_task}
use Rattle.kernel_model.specs.KernelRecord.Owned.{clock_head, device_words, keyboard_head, output_head, owned, tasks_words}
use Rattle.kernel_model.specs.KernelRecord.Residents.{fault_packet_words, key_arguments, key_words, pending_head, resident_words}
use Rattle.kernel_model.specs.KernelRecord.Root.{root_words}
use Rattle.kernel_model.specs.KernelRecord.Task.{Task, fault_words, globals_of, name_words, queue_bit, queue_head, stack_of, state_word, state_words, task_address, task_id, task_words}
use Rattle.kernel_model.specs.KernelRecord.ValidQueues.{Place}
use Rattle.kernel_model.specs.KernelRecord.ValidQueues.Place.{Clock, Keyboard, Output, Pending, Work}
use Rattle.kernel_model.specs.KernelRecord.ValidTasks.{IsField}
use Rattle.kernel_model.proofs.KernelRecord.ChainSplits.{address-between, number-there}
use Rattle.kernel_model.proofs.KernelRecord.ChangedLists.{one_task-owned}
use Rattle.kernel_model.proofs.KernelRecord.WorkQueues.{WorkSplit, work-split}
use Rattle.kernel_calls.specs.PacketCalls.Destinations.{queue_for}
use Rattle.kernel_calls.specs.PacketCalls.QueueWords.{head_of, state_left, state_with_packets}
use Rattle.kernel_model.proofs.KernelDispatch.TaskStates.{by-field}

-- ---- the state of the task whose queue it is

-- the state of the task with the number, once its queue is this one
abbrev pub state_of_work : ℕ → List Task → List QueuedPacket → ℕ
state_of_work id [] ps = 0
state_of_work id (t ∷ ts) ps = cond (eqb t.id id) (state_word (record t { queue = ps })) (state_of_work id ts ps)

-- a word of its own, where the queue is that of a task
abbrev pub state_pairs : Lists → Place → List QueuedPacket → Pairs
state_pairs l (Work id) ps = (address_of_task l id + 4, state_of_work id l.tasks ps) ∷ []
state_pairs l Clock ps = []
state_pairs l Keyboard ps = []
state_pairs l Output ps = []
state_pairs l Pending ps = []

state-between : (front : List Task) (t : Task) (back : List Task) (ps : List QueuedPacket) → IsApart (map task_id (front ++ t ∷ back))
    → state_of_work t.id (front ++ t ∷ back) ps ≡ state_word (record t { queue = ps })
state-between [] t back ps apart = ap (λ b. cond b (state_word (record t { queue = ps })) (state_of_work t.id back ps)) (eq-eqb t.id t.id refl)
state-between (z ∷ zs) t back ps apart =
    ap (λ b. cond b (state_word (record z { queue = ps })) (state_of_work t.id (zs ++ t ∷ back) ps))
    (ne_eqb z.id t.id (λ e. absurd (omega (arith, apart t.id, hit-same t.id z.id (sym e), number-there zs t back))))
    ∙ state-between zs t back ps (λ a. omega (arith, apart a))

-- ---- a work queue

exchange-work : (version : ℕ) (t : Task) (qs : List QueuedPacket) (n : ℕ) (old new : Pairs) → Exchange (queue_words (queue_head t.address) t.queue) (queue_words (queue_head t.address) qs) old new
    → Exchange (task_words version t n) (task_words version (record t { queue = qs }) n) ((t.address + 4, state_word t) ∷ old) ((t.address + 4, state_word (record t { queue = qs })) ∷ new)
exchange-work version t qs n old new queue =
    let frames : Pairs = words_of_coroutines t.address t.coroutines in
    let head : ℕ = queue_head t.address in
    exchange-right ((t.address, n) ∷ []) _ _ _ _
    (exchange-right (name_words t) _ _ _ _
    (exchange-both (state_words version t) _ ((t.address + 4, state_word t) ∷ []) ((t.address + 4, state_word (record t { queue = qs })) ∷ [])
    (fault_words version t ++ (queue_words head t.queue ++ frames)) _ old new
    (exchange-row t.address 4 (state_word t) (state_word (record t { queue = qs })) []
    (t.flags ∷ stack_of version t ∷ t.highest ∷ globals_of version t ∷ t.maker ∷ first_of (λ m. m) t.modules 0 ∷ t.saved.a ∷ t.saved.b ∷ t.saved.c ∷ t.saved.p ∷ t.saved.g ∷ t.saved.pc ∷ []))
    (exchange-right (fault_words version t) _ _ _ _ (exchange-left (queue_words head t.queue) (queue_words head qs) frames old new queue))))

-- ---- the queues of devices and residents

module _ (l : Lists) where
  -- all owned words, with these at the end
  abbrev before : Pairs → Pairs
  before L = root_words l (address_of_task l l.running) ++ (blocks_words l.blocks ++ (tasks_words l ++ (modules_words l.modules ++ L)))

  before-exchange : (L M old new : Pairs) → Exchange L M old new → Exchange (before L) (before M) old new
  before-exchange L M old new x =
      exchange-right (root_words l (address_of_task l l.running)) _ _ _ _
      (exchange-right (blocks_words l.blocks) _ _ _ _ (exchange-right (tasks_words l) _ _ _ _ (exchange-right (modules_words l.modules) _ _ _ _ x)))

  clock-exchange : (qs : List QueuedPacket) (old new : Pairs) → Exchange (queue_words clock_head l.clock) (queue_words clock_head qs) old new → Exchange (owned l) (owned (with_queue Clock qs l)) old new
  unfolding owned
  clock-exchange qs old new x =
      before-exchange (device_words l ++ resident_words l) (device_words (with_queue Clock qs l) ++ resident_words l) old new
      (exchange-left (device_words l) (device_words (with_queue Clock qs l)) (resident_words l) old new
      (exchange-left (queue_words clock_head l.clock) (queue_words clock_head qs) (queue_words keyboard_head l.keyboard ++ queue_words output_head l.output) old new x))

  keyboard-exchange : (qs : List QueuedPacket) (old new : Pairs) → Exchange (queue_words keyboard_head l.keyboard) (queue_words keyboard_head qs) old new
      → Exchange (owned l) (owned (with_queue Keyboard qs l)) old new
  unfolding owned
  keyboard-exchange qs old new x =
      before-exchange (device_words l ++ resident_words l) (device_words (with_queue Keyboard qs l) ++ resident_words l) old new
      (exchange-left (device_words l) (device_words (with_queue Keyboard qs l)) (resident_words l) old new
      (exchange-right (queue_words clock_head l.clock) _ _ _ _
      (exchange-left (queue_words keyboard_head l.keyboard) (queue_words keyboard_head qs) (queue_words output_head l.output) old new x)))

  output-exchange : (qs : List QueuedPacket) (old new : Pairs) → Exchange (queue_words output_head l.output) (queue_words output_head qs) old new → Exchange (owned l) (owned (with_queue Output qs l)) old new
  unfolding owned
  output-exchange qs old new x =
      before-exchange (device_words l ++ resident_words l) (device_words (with_queue Output qs l) ++ resident_words l) old new
      (exchange-left (device_words l) (device_words (with_queue Output qs l)) (resident_words l) old new
      (exchange-right (queue_words clock_head l.clock) _ _ _ _ (exchange-right (queue_words keyboard_head l.keyboard) _ _ _ _ x)))

  abbrev reads : List QueuedPacket → Pairs
  reads qs = queue_words pending_head qs ++ (key_words l.key ++ (key_arguments ++ fault_packet_words l.fault_packet_free))

  reads-exchange : (qs : List QueuedPacket) (old new : Pairs) → l.residents ≡ true → Exchange (queue_words pending_head l.pending) (queue_words pending_head qs) old new
      → Exchange (owned l) (owned (with_queue Pending qs l)) old new
  unfolding owned
  reads-exchange qs old new has x =
      before-exchange (device_words l ++ cond l.residents (reads l.pending) []) (device_words l ++ cond l.residents (reads qs) []) old new
      (subst (λ b. Exchange (device_words l ++ cond b (reads l.pending) []) (device_words l ++ cond b (reads qs) []) old new) (sym has)
      (exchange-right (device_words l) _ _ _ _ (exchange-left (queue_words pending_head l.pending) (queue_words pending_head qs) _ old new x)))

  -- the key packet's words, which are owned while it is on no queue
  pub keys-exchange : l.residents ≡ true → Exchange (owned l) (owned (with_key None l)) (key_words l.key) []
  unfolding owned
  keys-exchange has =
      before-exchange (device_words l ++ cond l.residents (reads l.pending) []) (device_words l ++ cond l.residents (queue_words pending_head l.pending ++ (key_arguments ++ fault_packet_words l.fault_packet_free)) []) (key_words l.key) []
      (subst
      (λ b.
      Exchange (device_words l ++ cond b (reads l.pending) []) (device_words l ++ cond b (queue_words pending_head l.pending ++ (key_arguments ++ fault_packet_words l.fault_packet_free)) []) (key_words l.key) [])
      (sym has)
      (exchange-right (device_words l) _ _ _ _
      (exchange-right (queue_words pending_head l.pending) _ _ _ _
      (exchange-left (key_words l.key) [] (key_arguments ++ fault_packet_words l.fault_packet_free) (key_words l.key) [] (exchange-all (key_words l.key) [])))))

-- ---- any queue

pub place-exchange : (l : Lists) (at : Place) (qs : List QueuedPacket) (old new : Pairs) → IsApart (map task_id l.tasks) → HasPlace l at
    → Exchange (queue_words (head_of (queue_for l at)) (queue_of at l)) (queue_words (head_of (queue_for l at)) qs) old new
    → Exchange (owned l) (owned (with_queue at qs l)) (state_pairs l at (queue_of at l) ++ old) (state_pairs l at qs ++ new)
place-exchange l (Work id) qs old new apart has x =
    let r : WorkSplit id qs l.tasks = work-split id qs l.tasks apart has in
    let u : Task = record r.task { queue = qs } in
    let distinct : IsApart (map task_id (r.front ++ r.task ∷ r.back)) = subst (λ ts. IsApart (map task_id ts)) r.whole apart in
    let address : address_of_task l id ≡ r.task.address =
    ap (λ ts. address_with task_address task_id ts id) r.whole ∙ ap (address_with task_address task_id (r.front ++ r.task ∷ r.back)) (sym r.number) ∙ address-between r.front r.task r.back distinct
    in
    let state : (ps : List QueuedPacket) → state_of_work id l.tasks ps ≡ state_word (record r.task { queue = ps }) = λ ps.
    ap (λ ts. state_of_work id ts ps) r.whole ∙ ap (λ i. state_of_work i (r.front ++ r.task ∷ r.back) ps) (sym r.number) ∙ state-between r.front r.task r.back ps distinct
    in
    let was : state_of_work id l.tasks (queue_of (Work id) l) ≡ state_word r.task = state (queue_of (Work id) l) ∙ ap (λ ps. state_word (record r.task { queue = ps })) r.queue in
    let inner : Exchange (queue_words (queue_head r.task.address) r.task.queue) (queue_words (queue_head r.task.address) qs) old new =
    subst (λ a. Exchange (queue_words (queue_head a) r.task.queue) (queue_words (queue_head a) qs) old new) address
    (subst (λ ps. Exchange (queue_words (queue_head (address_of_task l id)) ps) (queue_words (queue_head (address_of_task l id)) qs) old new) r.queue x)
    in
    let one : Exchange (owned l) (owned (with_tasks (r.front ++ u ∷ r.back) l)) ((r.task.address + 4, state_word r.task) ∷ old) ((r.task.address + 4, state_word u) ∷ new) =
    one_task-owned l r.front r.task u r.back _ _ r.whole refl refl (exchange-work l.version r.task qs (first_of task_address r.back 0) old new inner)
    in
    subst (λ ts. Exchange (owned l) (owned (with_tasks ts l)) (state_pairs l (Work id) (queue_of (Work id) l) ++ old) (state_pairs l (Work id) qs ++ new)) (sym r.becomes)
    (subst (λ (e : ℕ × ℕ). Exchange (owned l) (owned (with_tasks (r.front ++ u ∷ r.back) l)) (e ∷ old) (state_pairs l (Work id) qs ++ new)) (λ i. (sym address i + 4, sym was i))
    (subst (λ (e : ℕ × ℕ). Exchange (owned l) (owned (with_tasks (r.front ++ u ∷ r.back) l)) ((r.task.address + 4, state_word r.task) ∷ old) (e ∷ new)) (λ i. (sym address i + 4, sym (state qs) i)) one))
place-exchange l Clock qs old new apart has x = clock-exchange l qs old new x
place-exchange l Keyboard qs old new apart has x = keyboard-exchange l qs old new x
place-exchange l Output qs old new apart has x = output-exchange l qs old new x
place-exchange l Pending qs old new apart has x = reads-exchange l qs old new has x

-- ---- the state where packets come and go

-- a state with a bit more where packets wait
abbrev with_bit : ℕ → Bool → ℕ → ℕ
with_bit bit h n = n + bit + cond h 2 0

one-bit : (h : Bool) (n : ℕ) → IsField n → state_with_packets (with_bit 0 h n) ≡ with_bit 1 h n
one-bit true n f = by-field (λ m. state_with_packets (with_bit 0 true m) ≡ with_bit 1 true m) refl refl refl refl n f
one-bit false n f = by-field (λ m. state_with_packets (with_bit 0 false m) ≡ with_bit 1 false m) refl refl refl refl n f

same-bit : (h : Bool) (n : ℕ) → IsField n → state_with_packets (with_bit 1 h n) ≡ with_bit 1 h n
same-bit true n f = by-field (λ m. state_with_packets (with_bit 1 true m) ≡ with_bit 1 true m) refl refl refl refl n f
same-bit false n f = by-field (λ m. state_with_packets (with_bit 1 false m) ≡ with_bit 1 false m) refl refl refl refl n f

no-bit : (h : Bool) (n : ℕ) → IsField n → with_bit 1 h n - with_bit 1 h n % 2 ≡ with_bit 0 h n
no-bit true n f = by-field (λ m. with_bit 1 true m - with_bit 1 true m % 2 ≡ with_bit 0 true m) refl refl refl refl n f
no-bit false n f = by-field (λ m. with_bit 1 false m - with_bit 1 false m % 2 ≡ with_bit 0 false m) refl refl refl refl n f

bit-more : (front : List QueuedPacket) (p : QueuedPacket) (back : List QueuedPacket) → queue_bit (front ++ p ∷ back) ≡ 1
bit-more [] p back = refl
bit-more (q ∷ qs) p back = refl

state-comes : (t : Task) (ps : List QueuedPacket) (p : QueuedPacket) → IsField t.field → state_with_packets (state_word (record t { queue = ps })) ≡ state_word (record t { queue = ps ++ p ∷ [] })
state-comes t [] p f = one-bit t.held t.field f
state-comes t (q ∷ qs) p f = same-bit t.held t.field f

state-goes : (t : Task) (front : List QueuedPacket) (p : QueuedPacket) (back qs : List QueuedPacket) → front ++ back ≡ qs → IsField t.field → AllByRecursion (λ q. 0 < q.address) qs
    → state_left (state_word (record t { queue = front ++ p ∷ back })) (first_packet qs) ≡ state_word (record t { queue = qs })
state-goes t front p back [] is f some = ap (λ b. with_bit b t.held t.field - with_bit b t.held t.field % 2) (bit-more front p back) ∙ no-bit t.held t.field f
state-goes t front p back (q ∷ qs) is f some =
    ap (λ b. cond b (state_word (record t { queue = front ++ p ∷ back }) - state_word (record t { queue = front ++ p ∷ back }) % 2) (state_word (record t { queue = front ++ p ∷ back })))
    (ne_eqb q.address 0 (λ e. absurd (omega (arith, some.0, e))))
    ∙ ap (λ b. with_bit b t.held t.field) (bit-more front p back)

-- of the task with the number
pub work-comes : (id : ℕ) (ts : List Task) (ps : List QueuedPacket) (p : QueuedPacket) → has_task id ts ≡ true → AllByRecursion (λ t. IsField t.field) ts
    → state_with_packets (state_of_work id ts ps) ≡ state_of_work id ts (ps ++ p ∷ [])
work-comes id [] ps p has fields = cc
work-comes id (t ∷ ts) ps p has fields = on (eqb t.id id) has (λ more. work-comes id ts ps p more fields.1)
  where
    on : (b : Bool) → (b || has_task id ts) ≡ true → (has_task id ts ≡ true → state_with_packets (state_of_work id ts ps) ≡ state_of_work id ts (ps ++ p ∷ []))
        → state_with_packets (cond b (state_word (record t { queue = ps })) (state_of_work id ts ps)) ≡ cond b (state_word (record t { queue = ps ++ p ∷ [] })) (state_of_work id ts (ps ++ p ∷ []))
    on true has more = state-comes t ps p fields.0
    on false has more = more has

pub work-goes : (id : ℕ) (ts : List Task) (front : List QueuedPacket) (p : QueuedPacket) (back : List QueuedPacket) → has_task id ts ≡ true → AllByRecursion (λ t. IsField t.field) ts
    → AllByRecursion (λ q. 0 < q.address) (front ++ back) → state_left (state_of_work id ts (front ++ p ∷ back)) (first_packet (front ++ back)) ≡ state_of_work id ts (front ++ back)
work-goes id [] front p back has fields some = cc
work-goes id (t ∷ ts) front p back has fields some = on (eqb t.id id) has (λ more. work-goes id ts front p back more fields.1 some)
  where
    on : (b : Bool) → (b || has_task id ts) ≡ true → (has_task id ts ≡ true → state_left (state_of_work id ts (front ++ p ∷ back)) (first_packet (front ++ back)) ≡ state_of_work id ts (front ++ back))
        → state_left (cond b (state_word (record t { queue = front ++ p ∷ back })) (state_of_work id ts (front ++ p ∷ back))) (first_packet (front ++ back))
        ≡ cond b (state_word (record t { queue = front ++ back })) (state_of_work id ts (front ++ back))
    on true has more = state-goes t front p back (front ++ back) refl fields.0 some
    on false has more = more has
