-- What is left where the function of the running task has returned: in its root the task is dead.
use Rattle.std.proofs.Common.{◌≡◌, ◌≢◌, ℕ, ◌+◌, ◌++◌, List, [], ◌∷◌, true, false, Ok, map, cond, eqb, get_or, set, not, inr, refl, sym, ap, ◌∙◌, subst, arith}
use Rattle.std.proofs.lemmas.Bool.{ne_eqb}
use Rattle.word_store.specs.declared.registers.Regs.{Regs}
use Rattle.word_store.specs.Count.{IsApart}
use Rattle.kernel_lists.specs.OwnedWords.Exchange.{Exchange}
use Rattle.kernel_lists.specs.OwnedWords.LinkedWords.{first_of}
use Rattle.kernel_lists.proofs.OwnedWords.Exchanges.{exchange-none}
use Rattle.kernel_lists.specs.PacketQueue.QueueWords.{queue_words}
use Rattle.kernel_lists.specs.Coroutines.CoroutineExchanges.{current_of}
use Rattle.kernel_model.specs.KernelRecord.ChangedStore.{IsChanged}
use Rattle.kernel_model.specs.KernelRecord.Changes.{change_of, with_task, with_tasks}
use Rattle.kernel_model.specs.KernelRecord.HoldsLists.{HoldsLists}
use Rattle.kernel_model.specs.KernelRecord.Lists.{Lists}
use Rattle.kernel_model.specs.KernelRecord.Owned.{owned}
use Rattle.kernel_model.specs.KernelRecord.Task.{Task, is_guest_id, queue_bit, queue_head, state_word, task_address, task_id, task_words}
use Rattle.kernel_model.specs.KernelRecord.ValidLists.{AreValid}
use Rattle.kernel_model.specs.KernelRecord.ValidTasks.{IsTask}
use Rattle.kernel_model.proofs.KernelRecord.ChainSplits.{change-between}
use Rattle.kernel_model.proofs.KernelRecord.ChangedLists.{exchange-owned, one_task-owned, owners-exchanged}
use Rattle.kernel_model.proofs.KernelRecord.OneTask.{same_task-valid}
use Rattle.kernel_model.proofs.KernelDispatch.StateExchanges.{exchange-state, exchange-task}
use Rattle.kernel_calls.specs.CallAnswers.Callers.{HasCaller}
use Rattle.kernel_calls.specs.CallAnswers.Guests.{GuestAt}
use Rattle.kernel_calls.proofs.CallAnswers.GuestTask.{GuestFacts, guest-facts}
use Rattle.kernel_calls.proofs.PacketCalls.CallerTask.{caller-runs, caller-state}
use Rattle.kernel_calls.specs.CoroutineCalls.CallersCoroutines.{coroutines_of_caller}
use Rattle.kernel_calls.specs.CoroutineCalls.CoWait.{IsWithin, ended}
use Rattle.kernel_calls.specs.CoroutineCalls.SwitchChange.{IsSwitched}
use Rattle.kernel_calls.proofs.CoroutineCalls.CallersTask.{callers-found, callers-held}
use Rattle.guest_turns.specs.GuestTurn.{died, dies, returned}

-- the state of a task that ran and is dead
dead-state : (f b h : ℕ) → f ≡ 0 → f + b + h + 12 ≡ 12 + b + h
dead-state f b h e = omega arith

-- its state alone changes
died-exchange : (version : ℕ) (t : Task) (n : ℕ)
    → Exchange (task_words version t n) (task_words version (died t) n) ((t.address + 4, state_word t) ∷ []) ((t.address + 4, state_word (died t)) ∷ [])
died-exchange version t n =
    exchange-task version t 12 t.saved t.queue n ((t.address + 4, state_word t) ∷ []) ((t.address + 4, state_word (died t)) ∷ []) [] []
    (exchange-state version t 12 t.queue) (exchange-none (queue_words (queue_head t.address) t.queue))

IsTask-died : (l : Lists) (t : Task) → is_guest_id t.id ≡ true → IsTask l t → IsTask l (died t)
IsTask-died l t guest h =
    record {
      low = h.low;
      high = h.high;
      maker = h.maker;
      field = inr (inr (inr refl));
      byte = h.byte;
      guest = λ is.
          let g = h.guest is in
          record { high = g.high; block = g.block; some_module = g.some_module; most = g.most; modules = g.modules; fault = g.fault; unreported = g.unreported };
      resident = λ is. cc;
    }

module _ (s : List ℕ) (l : Lists) (t : ℕ) (h : HoldsLists s l) (c : HasCaller l) (g : GuestAt l l.running t) where
  facts : GuestFacts s l l.running t g.task
  facts = guest-facts s l l.running t h g

  -- ---- in its root

  abbrev after : Lists
  after = with_tasks (g.front ++ died g.task ∷ g.back) l

  after-is : with_task l.running died l ≡ after
  after-is =
      ap (λ ts. with_tasks (map (change_of l.running died) ts) l) g.is
      ∙ ap (λ i. with_tasks (map (change_of i died) (g.front ++ g.task ∷ g.back)) l) (sym g.number)
      ∙ ap (λ ts. with_tasks ts l) (change-between died g.front g.task g.back (subst (λ ts. IsApart (map task_id ts)) g.is h.valid.tasks.distinct))

  exchange : Exchange (owned l) (owned after) ((g.task.address + 4, state_word g.task) ∷ []) ((g.task.address + 4, state_word (died g.task)) ∷ [])
  exchange = one_task-owned l g.front g.task (died g.task) g.back _ _ g.is refl refl (died-exchange l.version g.task (first_of task_address g.back 0))

  died-valid : AreValid after
  died-valid =
      same_task-valid l g.front g.back g.task (died g.task) h.valid g.is (record { id = refl; address = refl; priority = refl; queue = refl; coroutines = refl })
      (IsTask-died l g.task facts.guest facts.task) (record { each = facts.coroutines.each; members = facts.coroutines.members; distinct = facts.coroutines.distinct })

  died-words : set s (t + 4) (get_or s (t + 4) 0 + 12) ≡ set s (g.task.address + 4) (state_word (died g.task))
  died-words = λ i.
      set s (sym g.at i + 4)
      ((ap (λ w. w + 12) (caller-state s l l.running t h g) ∙ dead-state g.task.field (queue_bit g.task.queue) (cond g.task.held 2 0) (caller-runs l t c g)) i)

  caller-dies : (v : List ℕ) (r : Regs) → v ≡ set s (t + 4) (get_or s (t + 4) 0 + 12) → IsSwitched s v l r (Ok tt) (dies l r)
  caller-dies v r is =
      let changed : IsChanged s v after [] = exchange-owned s v l after _ _ h died-valid refl exchange (is ∙ died-words) in
      subst (λ m. IsSwitched s v l r (Ok tt) (record { answer = Ok tt; lists = m; regs = r })) (sym after-is)
      (record { lists = changed; regs = refl; answered = refl; same = λ a. sym (owners-exchanged (owned l) (owned after) _ _ a exchange refl) })

  -- ---- which coroutine is current

  current-read : get_or s (t + 18) 0 ≡ current_of (coroutines_of_caller l)
  current-read = (callers-held s l t h g).coroutines.current ∙ ap current_of (sym (callers-found s l t h g))

  inside : get_or s (t + 18) 0 ≢ 0 → eqb (current_of (coroutines_of_caller l)) 0 ≡ false
  inside some = ne_eqb (current_of (coroutines_of_caller l)) 0 (λ e. some (current-read ∙ e))

  pub is-within : get_or s (t + 18) 0 ≢ 0 → IsWithin l
  is-within some = ap not (inside some)

  pub returns-in_root : (v : List ℕ) (r : Regs) → get_or s (t + 18) 0 ≡ 0 → v ≡ set s (t + 4) (get_or s (t + 4) 0 + 12) → IsSwitched s v l r (Ok tt) (returned l r)
  returns-in_root v r root is =
      let test : eqb (current_of (coroutines_of_caller l)) 0 ≡ true = ap (λ z. eqb z 0) (sym current-read ∙ root) in
      subst (λ b. IsSwitched s v l r (Ok tt) (cond b (dies l r) (ended l r))) (sym test) (caller-dies v r is)

  pub returns-inside : (v : List ℕ) (r after' : Regs) → get_or s (t + 18) 0 ≢ 0 → IsSwitched s v l after' (Ok tt) (ended l r) → IsSwitched s v l after' (Ok tt) (returned l r)
  returns-inside v r after' some is = subst (λ b. IsSwitched s v l after' (Ok tt) (cond b (dies l r) (ended l r))) (sym (inside some)) is
