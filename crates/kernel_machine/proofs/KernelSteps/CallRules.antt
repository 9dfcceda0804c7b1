-- What a guest's turn keeps of the rules of residents.
use Rattle.std.proofs.Common.{◌≡◌, ℕ, zero, suc, ◌+◌, ◌-◌, ◌≤◌, ◌||◌, ◌&&◌, ◌++◌, Bool, true, false, not, Option, Some, None, Result, Ok, Err, List, [], ◌∷◌, cond, eqb, get_or, ltb, refl, sym, ap, ◌∙◌, subst, arith}
use Rattle.std.specs.Prelude.{find, unwrap_or}
use Rattle.std.specs.List.{AllByRecursion, list_any, range_with_len}
use Rattle.std.proofs.lemmas.Bool.{ltb-false, ne_eqb, not-true}
use Rattle.word_store.specs.declared.registers.Regs.{Regs}
use Rattle.kernel_lists.specs.LinkedList.Places.{without_first}
use Rattle.kernel_lists.specs.HunkLoader.Globals.{globals_in}
use Rattle.kernel_lists.specs.OwnedWords.Owned.{owners}
use Rattle.kernel_lists.specs.PacketQueue.QueueWords.{QueuedPacket}
use Rattle.kernel_lists.specs.Coroutines.CoroutineExchanges.{TaskCoroutines, current_of, with_called, with_resumed, with_waiting}
use Rattle.kernel_lists.specs.Coroutines.Creation.{highest}
use Rattle.kernel_model.specs.KernelRecord.Between.{AreValidFaults, Tells, is_unreported}
use Rattle.kernel_model.specs.KernelRecord.Changes.{queue_of, with_queue, with_task, work_of}
use Rattle.kernel_model.specs.KernelRecord.Lists.{Lists, has_task}
use Rattle.kernel_model.specs.KernelRecord.Owned.{owned}
use Rattle.kernel_model.specs.KernelRecord.Residents.{device, fault_packet}
use Rattle.kernel_model.specs.KernelRecord.Task.{Task, is_guest_id}
use Rattle.kernel_model.specs.KernelRecord.ValidLists.{AreValid}
use Rattle.kernel_model.specs.KernelRecord.ValidQueues.{Place}
use Rattle.kernel_model.specs.KernelRecord.ValidQueues.Place.{Clock, Keyboard, Output, Pending, Work}
use Rattle.kernel_model.specs.KernelRecord.Versions.{highest_id_of}
use Rattle.kernel_model.proofs.KernelRecord.OwnedPackets.{unowned-no_fault}
use Rattle.kernel_calls.specs.CallAnswers.Guests.{guest_tests}
use Rattle.kernel_calls.specs.CallAnswers.CallChange.{CallChange, by_refusal, done, unless_refused}
use Rattle.kernel_calls.specs.CallAnswers.Refusals.{first_refusal}
use Rattle.kernel_calls.specs.BlockCalls.FreeStore.{data_taken, with_taken}
use Rattle.kernel_calls.specs.BlockCalls.Freevec.{freevec, freevec_tests, with_given}
use Rattle.kernel_calls.specs.BlockCalls.Getvec.{getvec, getvec_tests}
use Rattle.kernel_calls.specs.TaskCalls.ChangePri.{change_pri, moved, priority_tests, with_new_priority}
use Rattle.kernel_calls.specs.TaskCalls.CreateTask.{create_task, creation_tests, free_id, last_word_of, new_task, number_of, with_created}
use Rattle.kernel_calls.specs.TaskCalls.DeleteTask.{delete_task, deletion_tests, has_packet_out, without_task}
use Rattle.kernel_calls.specs.TaskCalls.HoldTask.{held, hold, hold_tests}
use Rattle.kernel_calls.specs.TaskCalls.ReleaseTask.{release, release_tests, released}
use Rattle.kernel_calls.specs.TaskCalls.SetFlags.{flagged, set_flags}
use Rattle.kernel_calls.specs.TaskCalls.TestFlags.{cleared}
use Rattle.kernel_calls.specs.ModuleCalls.AddModule.{add_module, addition_tests, global_words, globals_of_task, modules_so_far, task_of, with_further}
use Rattle.kernel_calls.specs.ModuleCalls.UnloadModule.{unload_module, unload_tests, without_module}
use Rattle.kernel_calls.specs.PacketCalls.Destinations.{place_of}
use Rattle.kernel_calls.specs.PacketCalls.PacketMoves.{arrived, departed, sent_packet}
use Rattle.kernel_calls.specs.PacketCalls.Dqpkt.{Search, dequeued, dqpkt, dqpkt_tests, found_in}
use Rattle.kernel_calls.specs.PacketCalls.Qpkt.{qpkt, qpkt_tests, sent_to}
use Rattle.kernel_calls.specs.PacketCalls.TaskWait.{taskwait, waited, waiting}
use Rattle.kernel_calls.specs.CoroutineCalls.CallCo.{idle_tests}
use Rattle.kernel_calls.specs.CoroutineCalls.CallersCoroutines.{coroutines_of_caller, with_changed}
use Rattle.kernel_calls.specs.CoroutineCalls.CoWait.{ended, wait_tests, with_ended}
use Rattle.kernel_calls.specs.CoroutineCalls.CreateCo.{create_tests, created, createco, with_created as with_new_coroutine}
use Rattle.kernel_calls.specs.CoroutineCalls.DeleteCo.{delete_tests, deleteco, with_deleted, with_deleted_at}
use Rattle.kernel_calls.specs.CoroutineCalls.ResumeCo.{resume_tests, resumed_itself}
use Rattle.kernel_calls.specs.CoroutineCalls.SwitchChange as switches
use Rattle.kernel_calls.specs.CoroutineCalls.SwitchChange.{SwitchChange, switched}
use Rattle.instruction_set.specs.Instruction.{After, instruction}
use Rattle.instruction_set.specs.declared.Outcome.{Outcome}
use Rattle.instruction_set.specs.declared.Outcome.TheVariants.{Next, Sys, Returned, Fault as Faulted}
use Rattle.kernel_calls.specs.Calls.{kernel_call, made, of_switched, of_wait, past_call, made_if_read}
use Rattle.kernel_calls.specs.CallNumbers.{call_of}
use Rattle.kernel_calls.specs.declared.call_numbers.CallOutcome.{CallOutcome}
use Rattle.kernel_calls.specs.declared.call_numbers.KernelCall.{KernelCall}
use Rattle.kernel_calls.specs.declared.call_numbers.KernelCall.TheVariants.{AddModule, CallCo, ChangePri, CoWait, CreateCo, CreateTask, DeleteCo, DeleteTask, Dqpkt, Freevec, Getvec, Hold, MulDiv, Qpkt, Quit, Release, ResumeCo, SetFlags, TaskWait, TestFlags, Unload, Wrch}
use Rattle.guest_turns.specs.Guarded.{is_owned}
use Rattle.guest_turns.specs.GuestTurn.{after_instruction, died, dies, turn_without_reporter}
use Rattle.kernel_machine.proofs.KernelSteps.FaultRule.{HasRule, LeavesFault, arrived-rule, departed-fewer, gone-rule, left-rule, moved-rule, new-rule, one-rule}

-- The rule of the fault packet holds where it held before; the key packet is where it was; and no read waits where none waited.
pub record KeepsRules (l m : Lists) : Type 0 where
  pub faults : HasRule l → HasRule m
  pub key : m.key ≡ l.key
  pub pending : l.pending ≡ [] → m.pending ≡ []

pub keeps-none : (l : Lists) → KeepsRules l l
keeps-none l = record { faults = λ h. h; key = refl; pending = λ e. e }

-- tasks and packets stay
pub beside-keeps : (l m : Lists) → m.tasks ≡ l.tasks → m.fault_packet_free ≡ l.fault_packet_free → m.key ≡ l.key → m.pending ≡ l.pending → KeepsRules l m
beside-keeps l m ts free key pending = record { faults = faults; key = key; pending = λ e. pending ∙ e }
  where
    faults : HasRule l → HasRule m
    faults h = λ there.
        let before : has_task 2 l.tasks ≡ true = ap (has_task 2) (sym ts) ∙ there in
        let x : AreValidFaults l = h before in
        record {
          waits = λ _. free ∙ x.waits before ∙ ap (λ us. not (list_any is_unreported us)) (sym ts);
          sender = subst (λ us. AllByRecursion (Tells us) (work_of 2 us)) (sym ts) x.sender;
        }

module _ (l : Lists) where
  -- one task changes
  pub one-keeps : (n : ℕ) (f : Task → Task) → LeavesFault f → KeepsRules l (with_task n f l)
  one-keeps n f same = record { faults = one-rule l n f same; key = refl; pending = λ e. e }

  -- one queue changes
  pub queue-keeps : (at : Place) (ps : List QueuedPacket) → (HasRule l → HasRule (with_queue at ps l)) → (at ≡ Pending → l.pending ≡ [] → ps ≡ []) → KeepsRules l (with_queue at ps l)
  queue-keeps (Work i) ps rule none = record { faults = rule; key = refl; pending = λ e. e }
  queue-keeps Clock ps rule none = record { faults = rule; key = refl; pending = λ e. e }
  queue-keeps Keyboard ps rule none = record { faults = rule; key = refl; pending = λ e. e }
  queue-keeps Output ps rule none = record { faults = rule; key = refl; pending = λ e. e }
  queue-keeps Pending ps rule none = record { faults = rule; key = refl; pending = none refl }

-- ---- tests

tests-passed : (tests : List (Bool × ℕ)) → first_refusal tests ≡ None → AllByRecursion (λ test. test.0 ≡ true) tests
tests-passed [] e = tt
tests-passed (test ∷ tests) e = on test.0 refl e (tests-passed tests)
  where
    on : (b : Bool) → test.0 ≡ b → cond b (first_refusal tests) (Some test.1) ≡ None → (first_refusal tests ≡ None → AllByRecursion (λ test. test.0 ≡ true) tests) → AllByRecursion (λ test. test.0 ≡ true) (test ∷ tests)
    on true is e more = (is, more e)
    on false is e more = cc

-- refused or not
pub refused-keeps : (l : Lists) (tests : List (Bool × ℕ)) (m : CallChange) → (AllByRecursion (λ test. test.0 ≡ true) tests → KeepsRules l m.lists) → KeepsRules l (unless_refused tests l m).lists
refused-keeps l tests m kept = on (first_refusal tests) refl
  where
    on : (o : Option ℕ) → first_refusal tests ≡ o → KeepsRules l (by_refusal o l m).lists
    on None e = kept (tests-passed tests e)
    on (Some code) e = keeps-none l

either-none : (b c : Bool) → (b || c) ≡ false → b ≡ false
either-none true c e = cc
either-none false c e = refl

-- ---- a new number

found-low : (f : ℕ → Bool) (a n x : ℕ) → find f (range_with_len a n) ≡ Some x → a ≤ x
found-low f a zero x e = cc
found-low f a (suc n) x e = on (f a) e (found-low f (a + 1) n x)
  where
    on : (b : Bool) → cond b (Some a) (find f (range_with_len (a + 1) n)) ≡ Some x → (find f (range_with_len (a + 1) n) ≡ Some x → a + 1 ≤ x) → a ≤ x
    on true e more = (let same : a ≡ x = cc in omega (arith, same))
    on false e more = omega (arith, more e)

-- it is not that of the reporter of faults
free-number : (l : Lists) → eqb (unwrap_or (number_of l 0) 0) 2 ≡ false
free-number l = on (free_id l) refl
  where
    on : (o : Option ℕ) → free_id l ≡ o → eqb (unwrap_or o 0) 2 ≡ false
    on None e = refl
    on (Some n) e = ne_eqb n 2 (λ two. absurd (omega (arith, two, found-low (λ i. not (has_task i l.tasks)) 5 (highest_id_of l.version - 4) n e)))

-- ---- the calls

-- a packet whose words nobody owns is not the fault packet
pub plain-other : (l : Lists) (q : QueuedPacket) → AreValid l → owners q.address (owned l) ≡ 0 → has_task 2 l.tasks ≡ true → eqb q.address fault_packet ≡ false
plain-other l q v none there = sym (ap (λ b. b && eqb q.address fault_packet) there) ∙ unowned-no_fault l q v none

not-pending : (n : ℕ) → place_of n ≡ Pending → ⊥
not-pending n = on (eqb n (device 1)) (eqb n (device 2)) (eqb n (device 3))
  where
    on : (a b c : Bool) → ◌≡◌ {A = Place} (cond a Clock (cond b Keyboard (cond c Output (Work n)))) Pending → ⊥
    on true b c e = cc
    on false true c e = cc
    on false false true e = cc
    on false false false e = cc

module _ (l : Lists) where
  getvec-keeps : (u : ℕ) → KeepsRules l (getvec l u).lists
  getvec-keeps u =
      refused-keeps l (getvec_tests l u) (record { answer = Ok (data_taken u l); lists = with_taken u l; plain = []; events = [] }) (λ p. beside-keeps l (with_taken u l) refl refl refl refl)

  freevec-keeps : (v : ℕ) → KeepsRules l (freevec l v).lists
  freevec-keeps v = on (eqb v 0)
    where
      on : (b : Bool) → KeepsRules l (cond b (done l) (unless_refused (freevec_tests l v) l (done (with_given v l)))).lists
      on true = keeps-none l
      on false = refused-keeps l (freevec_tests l v) (done (with_given v l)) (λ p. beside-keeps l (with_given v l) refl refl refl refl)

  pub create_task-keeps : (s : List ℕ) (id : ℕ) (modules : List ℕ) (u pri maker : ℕ) → eqb (unwrap_or (number_of l id) 0) 2 ≡ false → KeepsRules l (create_task s l id modules u pri maker).lists
  create_task-keeps s id modules u pri maker other =
      let t : Task = new_task l (unwrap_or (number_of l id) 0) modules u pri maker in
      let m : Lists = with_taken (last_word_of l.version t.highest) l in
      let taken : KeepsRules l m = beside-keeps l m refl refl refl refl in
      refused-keeps l (creation_tests s l id modules u pri) (with_created s l t) (λ p. record { faults = λ h. new-rule m t refl other (taken.faults h); key = refl; pending = λ e. e })

  pub unload-keeps : (m : ℕ) → KeepsRules l (unload_module l m).lists
  unload-keeps m = refused-keeps l (unload_tests l m) (done (with_given m (without_module m l))) (λ p. beside-keeps l (with_given m (without_module m l)) refl refl refl refl)

  pub change_pri-keeps : (n pri : ℕ) → KeepsRules l (change_pri l n pri).lists
  change_pri-keeps n pri =
      refused-keeps l (guest_tests l n ++ priority_tests l n pri) (done (with_new_priority n pri l))
      (λ p. on (find (λ t. eqb t.id n) l.tasks) refl p.1.0)
    where
      on : (o : Option Task) → find (λ t. eqb t.id n) l.tasks ≡ o → is_guest_id n ≡ true → KeepsRules l (with_new_priority n pri l)
      on o is guest = record { faults = moved-rule l pri n guest (find (λ t. eqb t.id n) l.tasks) refl; key = beside o is; pending = λ e. behind o is ∙ e }
        where
          beside : (o : Option Task) → find (λ t. eqb t.id n) l.tasks ≡ o → (with_new_priority n pri l).key ≡ l.key
          beside None is = ap (λ o. (moved pri o (without_first (λ t. eqb t.id n) l.tasks) l).key) is
          beside (Some t) is = ap (λ o. (moved pri o (without_first (λ t. eqb t.id n) l.tasks) l).key) is

          behind : (o : Option Task) → find (λ t. eqb t.id n) l.tasks ≡ o → (with_new_priority n pri l).pending ≡ l.pending
          behind None is = ap (λ o. (moved pri o (without_first (λ t. eqb t.id n) l.tasks) l).pending) is
          behind (Some t) is = ap (λ o. (moved pri o (without_first (λ t. eqb t.id n) l.tasks) l).pending) is

  pub set_flags-keeps : (n flags : ℕ) → KeepsRules l (set_flags l n flags).lists
  set_flags-keeps n flags =
      refused-keeps l (guest_tests l n) (done (with_task n (flagged flags) l))
      (λ p. one-keeps l n (flagged flags) (record { id = λ t. refl; fault = λ t. refl; queue = λ t. refl }))

  pub hold-keeps : (n : ℕ) → KeepsRules l (hold l n).lists
  hold-keeps n = refused-keeps l (hold_tests l n) (done (with_task n held l)) (λ p. one-keeps l n held (record { id = λ t. refl; fault = λ t. refl; queue = λ t. refl }))

  pub release-keeps : (n : ℕ) → KeepsRules l (release l n).lists
  release-keeps n = refused-keeps l (release_tests l n) (done (with_task n released l)) (λ p. one-keeps l n released (record { id = λ t. refl; fault = λ t. refl; queue = λ t. refl }))

  taskwait-keeps : KeepsRules l (taskwait l).lists
  taskwait-keeps = on (queue_of (Work l.running) l) refl
    where
      on : (ps : List QueuedPacket) → queue_of (Work l.running) l ≡ ps → KeepsRules l (waited ps l).lists
      on [] is = one-keeps l l.running waiting (record { id = λ t. refl; fault = λ t. refl; queue = λ t. refl })
      on (p ∷ ps) is =
          queue-keeps l (Work l.running) ps (left-rule l (Work l.running) ps (λ P all. (subst (AllByRecursion P) is all).1)) (λ e. cc)

  dqpkt-keeps : (n p : ℕ) → KeepsRules l (dqpkt l n p).lists
  dqpkt-keeps n p = refused-keeps l (dqpkt_tests l n p) (dequeued p (found_in l n p) l) (λ passed. on (found_in l n p))
    where
      on : (o : Option Search) → KeepsRules l (dequeued p o l).lists
      on None = keeps-none l
      on (Some w) =
          queue-keeps l w.place (departed p (queue_of w.place l)) (left-rule l w.place (departed p (queue_of w.place l)) (departed-fewer (λ q. eqb p q.address) (queue_of w.place l)))
          (λ at none. ap (λ z. departed p (queue_of z l)) at ∙ ap (departed p) none)

  add_module-keeps : (s : List ℕ) (n m : ℕ) → KeepsRules l (add_module s l n m).lists
  add_module-keeps s n m =
      refused-keeps l (addition_tests s l n m)
      (record {
        answer = Ok (modules_so_far (task_of n l) + 1);
        lists = with_task n (with_further m) l;
        plain = global_words (globals_of_task n l) (globals_in s m);
        events = [];
      })
      (λ p. one-keeps l n (with_further m) (record { id = λ t. refl; fault = λ t. refl; queue = λ t. refl }))

  -- ---- coroutines of the caller

  coroutines-keep : (change : TaskCoroutines → TaskCoroutines) → KeepsRules l (with_task l.running (with_changed change) l)
  coroutines-keep change = one-keeps l l.running (with_changed change) (record { id = λ t. refl; fault = λ t. refl; queue = λ t. refl })

  createco-keeps : (entry u : ℕ) → KeepsRules l (createco l entry u).lists
  createco-keeps entry u =
      let changed = coroutines-keep (with_new_coroutine (data_taken (highest u) l) entry u) in
      refused-keeps l (create_tests l u) (created (data_taken (highest u) l) entry u l)
      (λ p. record { faults = λ h there. (let x = changed.faults h there in record { waits = x.waits; sender = x.sender }); key = refl; pending = λ e. e })

  deleteco-keeps : (c : ℕ) → KeepsRules l (deleteco l c).lists
  deleteco-keeps c =
      let changed = coroutines-keep (with_deleted c) in
      refused-keeps l (delete_tests l c) (done (with_deleted_at c l))
      (λ p. record { faults = λ h there. (let x = changed.faults h there in record { waits = x.waits; sender = x.sender }); key = refl; pending = λ e. e })

  refused-switch : (o : Option ℕ) (r : Regs) (m : SwitchChange) → KeepsRules l m.lists → KeepsRules l (switches.by_refusal o l r m).lists
  refused-switch None r m is = is
  refused-switch (Some code) r m is = keeps-none l

  switched-keeps : (change : TaskCoroutines → TaskCoroutines) (v : ℕ) (r : Regs) → KeepsRules l (switched change v l r).lists
  switched-keeps change v r = coroutines-keep change

  resume-keeps : (r : Regs) (c v : ℕ) (b : Bool) → KeepsRules l (cond b (resumed_itself v l r) (switched (with_resumed c r.p r.pc) v l r)).lists
  resume-keeps r c v true = keeps-none l
  resume-keeps r c v false = switched-keeps (with_resumed c r.p r.pc) v r

  go_on-keeps : (m : SwitchChange) → KeepsRules l m.lists → KeepsRules l (of_switched m).lists
  go_on-keeps m is = is

  wait-keeps : (r : Regs) (ps : List QueuedPacket) (m : CallChange) → KeepsRules l m.lists → KeepsRules l (of_wait r ps m).lists
  wait-keeps r [] m is = is
  wait-keeps r (p ∷ ps) m is = is

  -- ---- in valid lists

  module _ (v : AreValid l) where
    pub delete_task-keeps : (n : ℕ) → KeepsRules l (delete_task l n).lists
    delete_task-keeps n =
        refused-keeps l (guest_tests l n ++ deletion_tests l n) (done (without_task l n))
        (λ p. record {
          faults = gone-rule l n v p.1.0 (not-true (has_packet_out l n) p.1.1.1.1.0);
          key = refl;
          pending = λ e. e;
        })

    qpkt-keeps : (s : List ℕ) (p : ℕ) → KeepsRules l (qpkt s l p).lists
    qpkt-keeps s p =
        let at : Place = place_of (get_or s (p + 1) 0) in
        let q : QueuedPacket = sent_packet s l at p l.running in
        refused-keeps l (qpkt_tests s l p) (sent_to (get_or s (p + 1) 0) s l p)
        (λ passed.
        let low : ltb 0 (owners p (owned l)) ≡ false =
        either-none (ltb 0 (owners p (owned l))) (list_any (λ a. ltb 0 (owners a (owned l))) (range_with_len (p + 1) 4)) (not-true _ passed.1.1.0)
        in
        let none : owners p (owned l) ≡ 0 = omega (arith, ltb-false 0 (owners p (owned l)) low) in
        queue-keeps l at (arrived at q (queue_of at l)) (arrived-rule l at q (plain-other l q v none)) (λ e. absurd (not-pending (get_or s (p + 1) 0) e)))

    call-keeps : (s : List ℕ) (r : Regs) (call : KernelCall) → KeepsRules l (made s l r call).lists
    call-keeps s r (Quit result) = keeps-none l
    call-keeps s r (Getvec u) = getvec-keeps u
    call-keeps s r (Freevec v) = freevec-keeps v
    call-keeps s r (CreateTask m u pri) = create_task-keeps s 0 (m ∷ []) u pri l.running (free-number l)
    call-keeps s r (DeleteTask n) = delete_task-keeps n
    call-keeps s r (ChangePri n pri) = change_pri-keeps n pri
    call-keeps s r (SetFlags n flags) = set_flags-keeps n flags
    call-keeps s r (TestFlags mask) = one-keeps l l.running (cleared mask) (record { id = λ t. refl; fault = λ t. refl; queue = λ t. refl })
    call-keeps s r (Hold n) = hold-keeps n
    call-keeps s r (Release n) = release-keeps n
    call-keeps s r TaskWait = wait-keeps r (queue_of (Work l.running) l) (taskwait l) taskwait-keeps
    call-keeps s r (Qpkt p) = qpkt-keeps s p
    call-keeps s r (Dqpkt n p) = dqpkt-keeps n p
    call-keeps s r (Unload m) = unload-keeps m
    call-keeps s r (CreateCo entry u) = createco-keeps entry u
    call-keeps s r (DeleteCo c) = deleteco-keeps c
    call-keeps s r (CallCo c v) = refused-switch (first_refusal (idle_tests c (coroutines_of_caller l))) r (switched (with_called c r.p r.pc) v l r) (switched-keeps (with_called c r.p r.pc) v r)
    call-keeps s r (ResumeCo c v) =
        refused-switch (first_refusal (resume_tests c (coroutines_of_caller l))) r (cond (eqb (current_of (coroutines_of_caller l)) c) (resumed_itself v l r) (switched (with_resumed c r.p r.pc) v l r))
        (resume-keeps r c v (eqb (current_of (coroutines_of_caller l)) c))
    call-keeps s r (CoWait v) = refused-switch (first_refusal (wait_tests (coroutines_of_caller l))) r (switched (with_waiting r.p r.pc) v l r) (switched-keeps (with_waiting r.p r.pc) v r)
    call-keeps s r (Wrch ch) = keeps-none l
    call-keeps s r (MulDiv a b c) = keeps-none l
    call-keeps s r (AddModule n m) = add_module-keeps s n m

    read-keeps : (s : List ℕ) (r : Regs) (q : Result KernelCall CallOutcome) → KeepsRules l (made_if_read s l r q).lists
    read-keeps s r (Ok call) = call-keeps s (past_call r) call
    read-keeps s r (Err outcome) = keeps-none l

    kernel_call-keeps : (s : List ℕ) (r : Regs) → KeepsRules l (kernel_call s l r).lists
    unfolding kernel_call
    kernel_call-keeps s r = read-keeps s r (call_of s r)

    -- ---- the turn

    returned-keeps : (r : Regs) (b : Bool) → KeepsRules l (cond b (dies l r) (ended l r)).lists
    returned-keeps r true = one-keeps l l.running died (record { id = λ t. refl; fault = λ t. refl; queue = λ t. refl })
    returned-keeps r false = switched-keeps with_ended r.a r

    instruction-keeps : (s : List ℕ) (r : Regs) (outcome : Outcome) → KeepsRules l (after_instruction l s r outcome).lists
    instruction-keeps s r Next = keeps-none l
    instruction-keeps s r Sys = kernel_call-keeps s r
    instruction-keeps s r Returned = returned-keeps r (eqb (current_of (coroutines_of_caller l)) 0)
    instruction-keeps s r (Faulted f) = keeps-none l

    pub turn-keeps : (s : List ℕ) (r : Regs) → KeepsRules l (turn_without_reporter s l r).lists
    unfolding turn_without_reporter
    turn-keeps s r = let x : After = instruction (is_owned l) s r in instruction-keeps x.words x.regs x.outcome
