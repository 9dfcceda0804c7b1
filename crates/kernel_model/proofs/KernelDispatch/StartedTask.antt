-- A task runs.
use Rattle.std.proofs.Common.{◌≡◌, ℕ, ◌+◌, ◌%◌, Bool, true, false, List, [], ◌∷◌, ◌++◌, set, inl, inr, refl, sym, ap, ◌∙◌, subst}
use Rattle.std.specs.List.{AllByRecursion}
use Rattle.kernel_lists.specs.OwnedWords.Exchange.{Exchange}
use Rattle.kernel_lists.specs.OwnedWords.LinkedWords.{first_of}
use Rattle.kernel_lists.specs.OwnedWords.Owned.{Pairs, owners}
use Rattle.kernel_lists.proofs.OwnedWords.Exchanges.{exchange-none}
use Rattle.kernel_lists.specs.PacketQueue.QueueWords.{QueuedPacket, queue_words}
use Rattle.kernel_model.specs.KernelRecord.ChangedStore.{IsChanged}
use Rattle.kernel_model.specs.KernelRecord.Changes.{with_tasks}
use Rattle.kernel_model.specs.KernelRecord.HoldsLists.{HoldsLists}
use Rattle.kernel_model.specs.KernelRecord.Lists.{Lists}
use Rattle.kernel_model.specs.KernelRecord.Owned.{owned}
use Rattle.kernel_model.specs.KernelRecord.Task.{Task, queue_head, state_word, task_address}
use Rattle.kernel_model.specs.KernelRecord.ValidLists.{AreValid}
use Rattle.kernel_model.specs.KernelRecord.ValidTasks.{AreValidCoroutines, IsField, IsTask}
use Rattle.kernel_model.proofs.KernelRecord.AllThings.{all-here}
use Rattle.kernel_model.proofs.KernelRecord.ChainSplits.{address-between, has_task-between}
use Rattle.kernel_model.proofs.KernelRecord.ChangedLists.{changed-then, exchange-owned, one_task-owned, owners-exchanged, running-changed}
use Rattle.kernel_model.proofs.KernelRecord.OneTask.{same_task-valid}
use Rattle.kernel_model.proofs.KernelRecord.RunningTask.{owners-running, running-valid, with_running}
use Rattle.kernel_model.specs.KernelDispatch.Dispatch.{started}
use Rattle.kernel_model.specs.KernelDispatch.Private.DispatchWords.{state_of, with_started}
use Rattle.kernel_model.proofs.KernelDispatch.StateExchanges.{exchange-state, exchange-task}
use Rattle.kernel_model.proofs.KernelDispatch.TaskStates.{by-field, tells-states}

abbrev SaysStarted : Task → Bool → List QueuedPacket → ℕ → Type 0
SaysStarted t h ps n = state_word (record t { field = n; held = h; queue = ps }) % 4 ≡ state_word (record t { field = 0; held = h; queue = ps })

started-state : (t : Task) → IsField t.field → state_word t % 4 ≡ state_word (started t)
started-state t f = on t.held t.queue
  where
    on : (h : Bool) (ps : List QueuedPacket) → SaysStarted t h ps t.field
    on true [] = by-field (SaysStarted t true []) refl refl refl refl t.field f
    on true (p ∷ ps) = by-field (SaysStarted t true (p ∷ ps)) refl refl refl refl t.field f
    on false [] = by-field (SaysStarted t false []) refl refl refl refl t.field f
    on false (p ∷ ps) = by-field (SaysStarted t false (p ∷ ps)) refl refl refl refl t.field f

started-task : (l : Lists) (t : Task) → IsTask l t → IsTask l (started t)
started-task l t h =
    record {
      low = h.low;
      high = h.high;
      maker = h.maker;
      field = inl refl;
      byte = h.byte;
      guest = λ is.
          let g = h.guest is in
          record { high = g.high; block = g.block; some_module = g.some_module; most = g.most; modules = g.modules; fault = g.fault; unreported = g.unreported };
      resident = λ is.
          let q = h.resident is in
          record {
            place = q.place;
            modules = q.modules;
            stack = q.stack;
            fault = q.fault;
            fault_address = q.fault_address;
            saved = q.saved;
            coroutines = q.coroutines;
            active = q.active;
            alive = λ e. cc;
            free = q.free;
          };
    }

module _ (s t : List ℕ) (l : Lists) (front : List Task) (c : Task) (back : List Task) (is : l.tasks ≡ front ++ c ∷ back) (h : HoldsLists s l) where
  abbrev resumed_lists : Lists
  resumed_lists = with_tasks (front ++ started c ∷ back) l

  abbrev after : Lists
  after = with_running c.id resumed_lists

  valid-state : AreValid resumed_lists
  valid-state =
      let k : AreValidCoroutines l c = all-here (AreValidCoroutines l) front c back (subst (AllByRecursion (AreValidCoroutines l)) is h.valid.coroutines) in
      same_task-valid l front back c (started c) h.valid is (record { id = refl; address = refl; priority = refl; queue = refl; coroutines = refl })
      (started-task l c (all-here (IsTask l) front c back (subst (AllByRecursion (IsTask l)) is h.valid.tasks.each)))
      (record { each = k.each; members = k.members; distinct = k.distinct })

  abbrev old : Pairs
  old = (c.address + 4, state_word c) ∷ []

  abbrev new : Pairs
  new = (c.address + 4, state_word (started c)) ∷ []

  exchange : Exchange (owned l) (owned resumed_lists) old new
  exchange =
      one_task-owned l front c (started c) back old new is refl refl
      (exchange-task l.version c 0 c.saved c.queue (first_of task_address back 0) old new [] [] (exchange-state l.version c 0 c.queue) (exchange-none (queue_words (queue_head c.address) c.queue)))

  owners-state : (a : ℕ) → owners a (owned l) ≡ owners a (owned resumed_lists)
  owners-state a = owners-exchanged (owned l) (owned resumed_lists) old new a exchange refl

  pub owners-started : (a : ℕ) → owners a (owned l) ≡ owners a (owned after)
  owners-started a = owners-state a ∙ sym (owners-running resumed_lists c.id a)

  pub changed-started : t ≡ with_started s c.address → IsChanged s t after []
  changed-started is_t =
      let task : IsTask l c = all-here (IsTask l) front c back (subst (AllByRecursion (IsTask l)) is h.valid.tasks.each) in
      let state : state_of s c.address % 4 ≡ state_word (started c) =
      ap (λ w. w % 4) (all-here (λ z. state_of s z.address ≡ state_word z) front c back (subst (AllByRecursion (λ z. state_of s z.address ≡ state_word z)) is (tells-states s l h)))
      ∙ started-state c task.field
      in
      let between : List ℕ = set s (c.address + 4) (state_of s c.address % 4) in
      let first : IsChanged s between resumed_lists [] = exchange-owned s between l resumed_lists old new h valid-state refl exchange (ap (set s (c.address + 4)) state) in
      changed-then s between t resumed_lists after [] first
      (running-changed between t resumed_lists c.id first.lists
      (running-valid resumed_lists c.id valid-state (inr (has_task-between front (started c) back)))
      (is_t ∙ ap (set between 102) (sym (address-between front (started c) back valid-state.tasks.distinct))))
      (λ a none. sym (owners-running resumed_lists c.id a) ∙ none)
