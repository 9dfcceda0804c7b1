-- What letting a task begin leaves.
use Rattle.std.proofs.Common.{◌≡◌, ℕ, ◌+◌, ◌%◌, Bool, true, false, List, [], ◌∷◌, ◌++◌, get_or, map, inl, inr, refl, sym, ap, ◌∙◌, subst, arith}
use Rattle.std.proofs.lemmas.List.{append-nil}
use Rattle.word_store.specs.declared.registers.Regs.{Regs}
use Rattle.kernel_lists.specs.OwnedWords.Exchange.{Exchange}
use Rattle.kernel_lists.specs.TaskBlock.HeldTasks.{address_with}
use Rattle.kernel_lists.specs.OwnedWords.LinkedWords.{first_of}
use Rattle.kernel_lists.specs.OwnedWords.Owned.{Holds, Pairs, owners, written}
use Rattle.kernel_lists.proofs.OwnedWords.Exchanges.{exchange-none}
use Rattle.kernel_lists.specs.PacketQueue.QueueWords.{QueuedPacket, queue_words}
use Rattle.kernel_model.specs.KernelRecord.ChangedStore.{IsChanged}
use Rattle.kernel_model.specs.KernelRecord.Changes.{change_of, with_tasks}
use Rattle.kernel_model.specs.KernelRecord.HoldsLists.{HoldsLists}
use Rattle.kernel_model.specs.KernelRecord.Lists.{Lists}
use Rattle.kernel_model.specs.KernelRecord.Owned.{owned}
use Rattle.kernel_model.specs.KernelRecord.Task.{Task, is_guest_id, queue_head, state_word, state_words, task_address, task_id, task_words}
use Rattle.kernel_model.specs.KernelRecord.ValidLists.{AreValid}
use Rattle.kernel_model.specs.KernelRecord.ValidTasks.{IsField, IsTask}
use Rattle.kernel_model.proofs.KernelRecord.ChangedLists.{exchange-owned, one_task-owned, owners-exchanged}
use Rattle.kernel_model.proofs.KernelRecord.OneTask.{same_task-valid}
use Rattle.kernel_model.specs.KernelDispatch.Private.DispatchWords.{saved_words}
use Rattle.kernel_model.proofs.KernelDispatch.StateExchanges.{exchange-suspended, exchange-task}
use Rattle.kernel_model.proofs.KernelDispatch.TaskStates.{by-field}
use Rattle.kernel_calls.specs.CallAnswers.Guests.{GuestAt}
use Rattle.kernel_calls.proofs.CallAnswers.Refusals.{guest-at}
use Rattle.kernel_calls.proofs.CallAnswers.RunningTask.{there-at}
use Rattle.kernel_model.specs.KernelRecord.ValidQueues.{HasGuest}
use Rattle.kernel_calls.proofs.CallAnswers.GuestTask.{GuestFacts, guest-changed, guest-facts, guest-words}
use Rattle.kernel_boot.specs.BegunTask.{begin_regs, begun, with_begun}

-- the two bits of a state stay
begun-state : (t : Task) → IsField t.field → state_word t % 4 + 8 ≡ state_word (record t { field = 8 })
begun-state t f = on t.held t.queue
  where
    Says : Bool → List QueuedPacket → ℕ → Type 0
    Says h ps n = state_word (record t { field = n; held = h; queue = ps }) % 4 + 8 ≡ state_word (record t { field = 8; held = h; queue = ps })

    on : (h : Bool) (ps : List QueuedPacket) → Says h ps t.field
    on true [] = by-field (Says true []) refl refl refl refl t.field f
    on true (p ∷ ps) = by-field (Says true (p ∷ ps)) refl refl refl refl t.field f
    on false [] = by-field (Says false []) refl refl refl refl t.field f
    on false (p ∷ ps) = by-field (Says false (p ∷ ps)) refl refl refl refl t.field f

begun-task : (l : Lists) (t : Task) (r : Regs) → r.c ≡ 0 → is_guest_id t.id ≡ true → IsTask l t → IsTask l (record t { field = 8; saved = r })
begun-task l t r byte guest h =
    record {
      low = h.low;
      high = h.high;
      maker = h.maker;
      field = inr (inr (inl refl));
      byte = omega (arith, byte);
      guest = λ is.
          let g = h.guest is in
          record { high = g.high; block = g.block; some_module = g.some_module; most = g.most; modules = g.modules; fault = g.fault; unreported = g.unreported };
      resident = λ is. cc;
    }

module _ (s : List ℕ) (l : Lists) (id address : ℕ) (h : HoldsLists s l) (g : GuestAt l id address) where
  abbrev regs : Regs
  regs = begin_regs l.version s g.task

  facts : GuestFacts s l id address g.task
  facts = guest-facts s l id address h g

  abbrev after : Lists
  after = with_tasks (g.front ++ begun l.version s g.task ∷ g.back) l

  valid : AreValid after
  valid =
      same_task-valid l g.front g.back g.task (begun l.version s g.task) h.valid g.is (record { id = refl; address = refl; priority = refl; queue = refl; coroutines = refl })
      (begun-task l g.task regs refl facts.guest facts.task)
      (record { each = facts.coroutines.each; members = facts.coroutines.members; distinct = facts.coroutines.distinct })

  abbrev old : Pairs
  old = saved_words g.task.address (state_word g.task) g.task.saved

  abbrev new : Pairs
  new = saved_words g.task.address (state_word (begun l.version s g.task)) regs

  exchange : Exchange (owned l) (owned after) old new
  exchange =
      let n : ℕ = first_of task_address g.back 0 in
      one_task-owned l g.front g.task (begun l.version s g.task) g.back old new g.is refl refl
      (subst (λ z. Exchange (task_words l.version g.task n) (task_words l.version (begun l.version s g.task) n) z new) (append-nil old)
      (subst (Exchange (task_words l.version g.task n) (task_words l.version (begun l.version s g.task) n) (old ++ [])) (append-nil new)
      (exchange-task l.version g.task 8 regs g.task.queue n old new [] [] (exchange-suspended l.version g.task 8 regs) (exchange-none (queue_words (queue_head g.task.address) g.task.queue)))))

  split : map (change_of id (begun l.version s)) l.tasks ≡ g.front ++ begun l.version s g.task ∷ g.back
  split = guest-changed l id address (begun l.version s) h.valid g

  words : Holds s (state_words l.version g.task)
  words = guest-words s l id address h g

  -- the registers, read from the task block at the address
  pub regs-read : ◌≡◌ {A = Regs}
      (record { a = 0; b = 0; c = 0; p = get_or s (address + 6) 0; g = get_or s (address + 8) 0; pc = get_or s (get_or s (address + 8) 0 + 1) 0 }) regs
  regs-read =
      let stack = ap (λ a. get_or s (a + 6) 0) (sym g.at) ∙ words.1.1.0 in
      let globals = ap (λ a. get_or s (a + 8) 0) (sym g.at) ∙ words.1.1.1.1.0 in
      λ i. record { a = 0; b = 0; c = 0; p = stack i; g = globals i; pc = get_or s (globals i + 1) 0 }

  pub begun-changed : (t : List ℕ) (r : Regs) → r ≡ regs → t ≡ written (saved_words address (get_or s (address + 4) 0 % 4 + 8) r) s → IsChanged s t (with_begun s id l) []
  begun-changed t r same is =
      let state : get_or s (address + 4) 0 % 4 + 8 ≡ state_word (begun l.version s g.task) = ap (λ w. w % 4 + 8) facts.state ∙ begun-state g.task facts.task.field in
      subst (λ ts. IsChanged s t (with_tasks ts l) []) (sym split)
      (exchange-owned s t l after old new h valid refl exchange (is ∙ (λ i. written (saved_words (sym g.at i) (state i) (same i)) s)))

  -- the same words are owned
  pub begun-owners : (a : ℕ) → owners a (owned (with_begun s id l)) ≡ owners a (owned l)
  begun-owners a = ap (λ ts. owners a (owned (with_tasks ts l))) split ∙ sym (owners-exchanged (owned l) (owned after) old new a exchange refl)

-- of a guest with the number
pub begun-same : (s : List ℕ) (l : Lists) (id : ℕ) → HoldsLists s l → HasGuest l id → (a : ℕ) → owners a (owned (with_begun s id l)) ≡ owners a (owned l)
begun-same s l id h g a =
    let there = there-at id l.tasks g.1 in
    begun-owners s l id (address_with task_address task_id l.tasks id) h (guest-at l id (address_with task_address task_id l.tasks id) there g.0) a
