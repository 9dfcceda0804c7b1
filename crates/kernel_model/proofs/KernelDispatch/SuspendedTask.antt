-- The task that ran is suspended.
use Rattle.std.proofs.Common.{◌≡◌, ℕ, ◌<◌, Bool, true, false, List, [], ◌∷◌, ◌++◌, cond, eqb, inl, inr, refl, ap, ◌∙◌, subst}
use Rattle.std.specs.List.{AllByRecursion}
use Rattle.std.proofs.lemmas.List.{append-nil}
use Rattle.word_store.specs.declared.registers.Regs.{Regs}
use Rattle.kernel_lists.specs.OwnedWords.Exchange.{Exchange}
use Rattle.kernel_lists.specs.OwnedWords.LinkedWords.{first_of}
use Rattle.kernel_lists.specs.OwnedWords.Owned.{Pairs, owners, written}
use Rattle.kernel_lists.proofs.OwnedWords.Exchanges.{exchange-none}
use Rattle.kernel_lists.specs.PacketQueue.QueueWords.{QueuedPacket, queue_words}
use Rattle.kernel_model.specs.KernelRecord.ChangedStore.{IsChanged}
use Rattle.kernel_model.specs.KernelRecord.Changes.{with_tasks}
use Rattle.kernel_model.specs.KernelRecord.HoldsLists.{HoldsLists}
use Rattle.kernel_model.specs.KernelRecord.Lists.{Lists}
use Rattle.kernel_model.specs.KernelRecord.Owned.{owned}
use Rattle.kernel_model.specs.KernelRecord.Task.{Task, is_guest_id, queue_head, state_word, task_address, task_words}
use Rattle.kernel_model.specs.KernelRecord.ValidLists.{AreValid}
use Rattle.kernel_model.specs.KernelRecord.ValidTasks.{AreValidCoroutines, IsField, IsTask, dead, no_regs}
use Rattle.kernel_model.proofs.KernelRecord.AllThings.{all-here}
use Rattle.kernel_model.proofs.KernelRecord.ChangedLists.{exchange-owned, one_task-owned, owners-exchanged}
use Rattle.kernel_model.proofs.KernelRecord.OneTask.{same_task-valid}
use Rattle.kernel_model.specs.KernelDispatch.Dispatch.{suspended}
use Rattle.kernel_model.specs.KernelDispatch.Private.DispatchWords.{saved_words, state_of, suspended_state, with_saved}
use Rattle.kernel_model.proofs.KernelDispatch.StateExchanges.{exchange-suspended, exchange-task}
use Rattle.kernel_model.proofs.KernelDispatch.TaskStates.{by-field, tells-states}

-- the field of a task that is suspended
abbrev pub suspended_field : ℕ → ℕ
suspended_field f = cond (eqb f 0) 8 f

abbrev SaysSuspended : Task → Bool → List QueuedPacket → ℕ → Type 0
SaysSuspended t h ps n = suspended_state (state_word (record t { field = n; held = h; queue = ps })) ≡ state_word (record t { field = suspended_field n; held = h; queue = ps })

pub suspended-state : (t : Task) → IsField t.field → suspended_state (state_word t) ≡ state_word (record t { field = suspended_field t.field })
suspended-state t f = on t.held t.queue
  where
    on : (h : Bool) (ps : List QueuedPacket) → SaysSuspended t h ps t.field
    on true [] = by-field (SaysSuspended t true []) refl refl refl refl t.field f
    on true (p ∷ ps) = by-field (SaysSuspended t true (p ∷ ps)) refl refl refl refl t.field f
    on false [] = by-field (SaysSuspended t false []) refl refl refl refl t.field f
    on false (p ∷ ps) = by-field (SaysSuspended t false (p ∷ ps)) refl refl refl refl t.field f

-- it is a task still
suspended-task : (l : Lists) (t : Task) (r : Regs) → r.c < 256 → (is_guest_id t.id ≡ false → r ≡ no_regs) → IsTask l t → IsTask l (suspended r t)
suspended-task l t r byte idle h =
    record {
      low = h.low;
      high = h.high;
      maker = h.maker;
      field = by-field (λ f. IsField (suspended_field f)) (inr (inr (inl refl))) (inr (inl refl)) (inr (inr (inl refl))) (inr (inr (inr refl))) t.field h.field;
      byte = byte;
      guest = λ is.
          let g = h.guest is in
          record { high = g.high; block = g.block; some_module = g.some_module; most = g.most; modules = g.modules; fault = g.fault; unreported = g.unreported };
      resident = λ is.
          let q = h.resident is in
          record {
            place = q.place;
            modules = q.modules;
            stack = q.stack;
            fault = q.fault;
            fault_address = q.fault_address;
            saved = idle is;
            coroutines = q.coroutines;
            active = q.active;
            alive = by-field (λ f. (f ≡ dead → ⊥) → suspended_field f ≡ dead → ⊥) (λ n e. cc) (λ n e. n e) (λ n e. n e) (λ n e. n e) t.field h.field q.alive;
            free = q.free;
          };
    }

module _ (s t : List ℕ) (l : Lists) (front : List Task) (c : Task) (back : List Task) (r : Regs) (is : l.tasks ≡ front ++ c ∷ back) (h : HoldsLists s l) where
  abbrev after : Lists
  after = with_tasks (front ++ suspended r c ∷ back) l

  pub valid-suspended : r.c < 256 → (is_guest_id c.id ≡ false → r ≡ no_regs) → AreValid after
  valid-suspended byte idle =
      let k : AreValidCoroutines l c = all-here (AreValidCoroutines l) front c back (subst (AllByRecursion (AreValidCoroutines l)) is h.valid.coroutines) in
      same_task-valid l front back c (suspended r c) h.valid is (record { id = refl; address = refl; priority = refl; queue = refl; coroutines = refl })
      (suspended-task l c r byte idle (all-here (IsTask l) front c back (subst (AllByRecursion (IsTask l)) is h.valid.tasks.each)))
      (record { each = k.each; members = k.members; distinct = k.distinct })

  abbrev old : Pairs
  old = saved_words c.address (state_word c) c.saved

  abbrev new : Pairs
  new = saved_words c.address (state_word (suspended r c)) r

  exchange : Exchange (owned l) (owned after) old new
  exchange =
      let n : ℕ = first_of task_address back 0 in
      one_task-owned l front c (suspended r c) back old new is refl refl
      (subst (λ z. Exchange (task_words l.version c n) (task_words l.version (suspended r c) n) z new) (append-nil old)
      (subst (Exchange (task_words l.version c n) (task_words l.version (suspended r c) n) (old ++ [])) (append-nil new)
      (exchange-task l.version c (suspended_field c.field) r c.queue n old new [] [] (exchange-suspended l.version c (suspended_field c.field) r) (exchange-none (queue_words (queue_head c.address) c.queue)))))

  pub owners-suspended : (a : ℕ) → owners a (owned l) ≡ owners a (owned after)
  owners-suspended a = owners-exchanged (owned l) (owned after) old new a exchange refl

  -- the store that has its registers
  pub changed-suspended : r.c < 256 → (is_guest_id c.id ≡ false → r ≡ no_regs) → t ≡ with_saved s c.address r → IsChanged s t after []
  changed-suspended byte idle is_t =
      let task : IsTask l c = all-here (IsTask l) front c back (subst (AllByRecursion (IsTask l)) is h.valid.tasks.each) in
      let state : suspended_state (state_of s c.address) ≡ state_word (suspended r c) =
      ap suspended_state (all-here (λ z. state_of s z.address ≡ state_word z) front c back (subst (AllByRecursion (λ z. state_of s z.address ≡ state_word z)) is (tells-states s l h)))
      ∙ suspended-state c task.field
      in
      exchange-owned s t l after old new h (valid-suspended byte idle) refl exchange (is_t ∙ ap (λ w. written (saved_words c.address w r) s) state)
