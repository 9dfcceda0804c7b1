-- What the guest that runs is once its fault was recorded.
use Rattle.std.proofs.Common.{◌≡◌, ℕ, ◌+◌, ◌%◌, ◌≤◌, Bool, true, false, ◌||◌, eqb, map, List, [], ◌∷◌, ◌++◌, cond, get_or, set, inl, inr, refl, sym, ap, ◌∙◌, subst, arith}
use Rattle.std.proofs.lemmas.Bool.{false≢true}
use Rattle.instruction_set.specs.declared.Fault.{Fault}
use Rattle.kernel_lists.specs.OwnedWords.Exchange.{Exchange}
use Rattle.kernel_lists.specs.OwnedWords.LinkedWords.{first_of}
use Rattle.kernel_lists.specs.OwnedWords.Owned.{Pairs, owners, row_from, written}
use Rattle.kernel_lists.proofs.OwnedWords.Exchanges.{exchange-all, exchange-both, exchange-left, exchange-right, exchange-row}
use Rattle.kernel_lists.specs.PacketQueue.QueueWords.{QueuedPacket, queue_words}
use Rattle.kernel_lists.specs.Coroutines.CoroutineExchanges.{words_of_coroutines}
use Rattle.kernel_model.specs.KernelRecord.ChangedStore.{IsChanged}
use Rattle.kernel_model.specs.KernelRecord.Changes.{change_of, with_tasks}
use Rattle.kernel_model.specs.KernelRecord.HoldsLists.{HoldsLists}
use Rattle.kernel_model.specs.KernelRecord.Lists.{Lists, has_task}
use Rattle.kernel_model.specs.KernelRecord.Owned.{owned}
use Rattle.kernel_model.specs.KernelRecord.Running.{RunsIf}
use Rattle.kernel_model.specs.KernelRecord.Task.{Task, fault_words, further_modules, globals_of, is_guest_id, name_words, queue_bit, queue_head, stack_of, state_word, state_words, task_address, task_words}
use Rattle.kernel_model.specs.KernelRecord.ValidLists.{AreValid}
use Rattle.kernel_model.specs.KernelRecord.ValidTasks.{IsGuest, IsTask, runs}
use Rattle.kernel_model.proofs.KernelRecord.ChangedLists.{changed-then, exchange-owned, one_task-owned, owners-exchanged}
use Rattle.kernel_model.proofs.KernelRecord.OneTask.{same_task-valid}
use Rattle.std.specs.List.{AllByRecursion}
use Rattle.kernel_calls.specs.CallAnswers.Callers.{HasCaller}
use Rattle.kernel_calls.specs.CallAnswers.Guests.{GuestAt}
use Rattle.kernel_calls.proofs.CallAnswers.GuestTask.{GuestFacts, guest-changed, guest-facts}
use Rattle.kernel_calls.proofs.PacketCalls.CallerTask.{caller-runs}
use Rattle.resident_tasks.specs.FaultReporter.Recorded.{CanRecord, OwnsSame, held_with, with_fault}
use Rattle.kernel_model.proofs.KernelRecord.RecoveredTasks.{bit-low}

-- its fault words are others
pub fault-exchange : (t : Task) (code address : ℕ) (words : List ℕ)
    → Exchange (row_from t.address 21 (t.fault ∷ t.fault_address ∷ words)) (row_from t.address 21 (code ∷ address ∷ words)) ((t.address + 21, t.fault) ∷ (t.address + 22, t.fault_address) ∷ [])
    ((t.address + 21, code) ∷ (t.address + 22, address) ∷ [])
fault-exchange t code address words =
    exchange-left ((t.address + 21, t.fault) ∷ (t.address + 22, t.fault_address) ∷ []) ((t.address + 21, code) ∷ (t.address + 22, address) ∷ []) (row_from t.address 23 words) _ _ (exchange-all _ _)

-- and its state
held-exchange : (version : ℕ) (f : Fault) (t : Task) (n : ℕ)
    → Exchange (task_words version t n) (task_words version (with_fault f t) n) ((t.address + 4, state_word t) ∷ (t.address + 21, t.fault) ∷ (t.address + 22, t.fault_address) ∷ [])
    ((t.address + 4, state_word (with_fault f t)) ∷ (t.address + 21, f.code) ∷ (t.address + 22, f.address) ∷ [])
held-exchange version f t n =
    let rest : Pairs = queue_words (queue_head t.address) t.queue ++ words_of_coroutines t.address t.coroutines in
    exchange-right ((t.address, n) ∷ name_words t) _ _ _ _
    (exchange-both (state_words version t) (state_words version (with_fault f t)) ((t.address + 4, state_word t) ∷ []) ((t.address + 4, state_word (with_fault f t)) ∷ [])
    (fault_words version t ++ rest) (fault_words version (with_fault f t) ++ rest) ((t.address + 21, t.fault) ∷ (t.address + 22, t.fault_address) ∷ []) ((t.address + 21, f.code) ∷ (t.address + 22, f.address) ∷ [])
    (exchange-row t.address 4 (state_word t) (state_word (with_fault f t)) []
    (t.flags ∷ stack_of version t ∷ t.highest ∷ globals_of version t ∷ t.maker ∷ first_of (λ m. m) t.modules 0 ∷ t.saved.a ∷ t.saved.b ∷ t.saved.c ∷ t.saved.p ∷ t.saved.g ∷ t.saved.pc ∷ []))
    (exchange-left (fault_words version t) (fault_words version (with_fault f t)) rest _ _ (fault-exchange t f.code f.address (further_modules version t))))

-- a guest with another fault is a task
faulty-task : (l : Lists) (f : Fault) (t : Task) → CanRecord l f → is_guest_id t.id ≡ true → IsTask l t → IsTask l (with_fault f t)
faulty-task l f t r guest h =
    record {
      low = h.low;
      high = h.high;
      maker = h.maker;
      field = h.field;
      byte = h.byte;
      guest = λ is.
          let g : IsGuest l t = h.guest is in
          record {
            high = g.high;
            block = g.block;
            some_module = g.some_module;
            most = g.most;
            modules = g.modules;
            fault = inr (inl r.fault);
            unreported = λ none. absurd (false≢true (sym none ∙ r.reporter));
          };
      resident = λ is. cc;
    }

-- the state of one that runs, with the bit that says that it is held
held-state : (w field bit held : ℕ) → w ≡ field + bit + held → field ≡ 0 → bit ≤ 1 → held % 2 ≡ 0 → w % 2 + 2 ≡ field + bit + 2
held-state w field bit held is runs low even = omega arith

even-held : (b : Bool) → cond b 2 0 % 2 ≡ 0
even-held true = refl
even-held false = refl

module _ (s : List ℕ) (l : Lists) (f : Fault) (h : HoldsLists s l) (r : CanRecord l f) (t : ℕ) (g : GuestAt l l.running t) where
  abbrev u : Task
  u = with_fault f g.task

  abbrev after : Lists
  after = with_tasks (g.front ++ u ∷ g.back) l

  facts : GuestFacts s l l.running t g.task
  facts = guest-facts s l l.running t h g

  exchange : Exchange (owned l) (owned after) ((g.task.address + 4, state_word g.task) ∷ (g.task.address + 21, g.task.fault) ∷ (g.task.address + 22, g.task.fault_address) ∷ [])
      ((g.task.address + 4, state_word u) ∷ (g.task.address + 21, f.code) ∷ (g.task.address + 22, f.address) ∷ [])
  exchange = one_task-owned l g.front g.task u g.back _ _ g.is refl refl (held-exchange l.version f g.task (first_of task_address g.back 0))

  valid : AreValid after
  valid =
      same_task-valid l g.front g.back g.task u h.valid g.is (record { id = refl; address = refl; priority = refl; queue = refl; coroutines = refl }) (faulty-task l f g.task r facts.guest facts.task)
      (record { each = facts.coroutines.each; members = facts.coroutines.members; distinct = facts.coroutines.distinct })

  held-is : held_with f l ≡ after
  held-is = ap (λ ts. with_tasks ts l) (guest-changed l l.running t (with_fault f) h.valid g)

  state-is : get_or s (t + 4) 0 % 2 + 2 ≡ state_word u
  state-is = held-state (get_or s (t + 4) 0) g.task.field (queue_bit g.task.queue) (cond g.task.held 2 0) facts.state (caller-runs l t r.caller g) (bit-low g.task.queue) (even-held g.task.held)

  words : set (set (set s (t + 22) f.address) (t + 21) f.code) (t + 4) (get_or s (t + 4) 0 % 2 + 2)
      ≡ written ((g.task.address + 4, state_word u) ∷ (g.task.address + 21, f.code) ∷ (g.task.address + 22, f.address) ∷ []) s
  words = λ i. set (set (set s (sym g.at i + 22) f.address) (sym g.at i + 21) f.code) (sym g.at i + 4) (state-is i)

  pub is-held : (v : List ℕ) → v ≡ set (set (set s (t + 22) f.address) (t + 21) f.code) (t + 4) (get_or s (t + 4) 0 % 2 + 2) → OwnsSame s v l (held_with f l)
  is-held v is =
      record {
        lists = subst (λ m. IsChanged s v m []) (sym held-is) (exchange-owned s v l after _ _ h valid refl exchange (is ∙ words));
        same = λ a. ap (λ m. owners a (owned m)) held-is ∙ sym (owners-exchanged (owned l) (owned after) _ _ a exchange refl);
      }

-- ---- the guest still runs

change-id : (id : ℕ) (f : Fault) (t : Task) → (change_of id (with_fault f) t).id ≡ t.id
change-id id f t = elim (eqb t.id id) as (λ b. (cond b (with_fault f t) t).id ≡ t.id) [ true ↦ refl | false ↦ refl ]

change-field : (id : ℕ) (f : Fault) (t : Task) → (change_of id (with_fault f) t).field ≡ t.field
change-field id f t = elim (eqb t.id id) as (λ b. (cond b (with_fault f t) t).field ≡ t.field) [ true ↦ refl | false ↦ refl ]

has_task-held : (i id : ℕ) (f : Fault) (ts : List Task) → has_task i (map (change_of id (with_fault f)) ts) ≡ has_task i ts
has_task-held i id f [] = refl
has_task-held i id f (t ∷ ts) = λ k. eqb (change-id id f t k) i || has_task-held i id f ts k

fields-held : (running id : ℕ) (f : Fault) (ts : List Task) → AllByRecursion (RunsIf running) ts → AllByRecursion (RunsIf running) (map (change_of id (with_fault f)) ts)
fields-held running id f [] all = tt
fields-held running id f (t ∷ ts) all = ((λ e. change-field id f t ∙ all.0 (sym (change-id id f t) ∙ e)), fields-held running id f ts all.1)

pub held-caller : (l : Lists) (f : Fault) → HasCaller l → HasCaller (held_with f l)
held-caller l f c = record { guest = c.guest; there = has_task-held l.running l.running f l.tasks ∙ c.there; field = fields-held l.running l.running f l.tasks c.field }

pub held-reporter : (l : Lists) (f : Fault) → has_task 2 l.tasks ≡ true → has_task 2 (held_with f l).tasks ≡ true
held-reporter l f there = has_task-held 2 l.running f l.tasks ∙ there

-- one change after another
pub same-then : (s t u : List ℕ) (l m n : Lists) → OwnsSame s t l m → OwnsSame t u m n → OwnsSame s u l n
same-then s t u l m n x y = record { lists = changed-then s t u m n [] x.lists y.lists (λ a none. sym (y.same a) ∙ none); same = λ a. y.same a ∙ x.same a }
