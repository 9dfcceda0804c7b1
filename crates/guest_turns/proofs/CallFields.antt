-- What each call keeps: who runs, that no other task has the field of one that runs, and C.
use Rattle.std.proofs.Common.{◌≡◌, ℕ, ◌+◌, ◌++◌, List, [], ◌∷◌, Bool, true, false, Option, Some, None, Result, Ok, Err, cond, eqb, get_or, refl}
use Rattle.std.specs.Prelude.{find, unwrap_or}
use Rattle.word_store.specs.declared.registers.Regs.{Regs}
use Rattle.kernel_lists.specs.LinkedList.Places.{without_first}
use Rattle.kernel_lists.specs.PacketQueue.QueueWords.{QueuedPacket}
use Rattle.kernel_lists.specs.HunkLoader.Globals.{globals_in}
use Rattle.kernel_lists.specs.Coroutines.CoroutineExchanges.{TaskCoroutines, current_of, with_called, with_resumed, with_waiting}
use Rattle.kernel_lists.specs.Coroutines.Creation.{highest}
use Rattle.kernel_model.specs.KernelRecord.Changes.{queue_of, with_task}
use Rattle.kernel_model.specs.KernelRecord.Lists.{Lists}
use Rattle.kernel_model.specs.KernelRecord.Task.{Task}
use Rattle.kernel_model.specs.KernelRecord.ValidQueues.{Place}
use Rattle.kernel_model.specs.KernelRecord.ValidQueues.Place.{Work}
use Rattle.kernel_calls.specs.CallAnswers.Guests.{guest_tests}
use Rattle.kernel_calls.specs.CallAnswers.CallChange.{CallChange, by_refusal, done, unless_refused}
use Rattle.kernel_calls.specs.CallAnswers.Refusals.{first_refusal}
use Rattle.kernel_calls.specs.BlockCalls.FreeStore.{data_taken, with_taken}
use Rattle.kernel_calls.specs.BlockCalls.Freevec.{freevec, freevec_tests, with_given}
use Rattle.kernel_calls.specs.BlockCalls.Getvec.{getvec, getvec_tests}
use Rattle.kernel_calls.specs.TaskCalls.ChangePri.{change_pri, priority_tests, with_new_priority}
use Rattle.kernel_calls.specs.TaskCalls.CreateTask.{create_task, creation_tests, new_task, number_of, with_created}
use Rattle.kernel_calls.specs.TaskCalls.DeleteTask.{delete_task, deletion_tests, without_task}
use Rattle.kernel_calls.specs.TaskCalls.HoldTask.{held, hold, hold_tests}
use Rattle.kernel_calls.specs.TaskCalls.ReleaseTask.{release, release_tests, released}
use Rattle.kernel_calls.specs.TaskCalls.SetFlags.{flagged, set_flags}
use Rattle.kernel_calls.specs.TaskCalls.TestFlags.{cleared}
use Rattle.kernel_calls.specs.ModuleCalls.AddModule.{add_module, addition_tests, global_words, globals_of_task, modules_so_far, task_of, with_further}
use Rattle.kernel_calls.specs.ModuleCalls.UnloadModule.{unload_module, unload_tests, without_module}
use Rattle.kernel_calls.specs.PacketCalls.Destinations.{place_of}
use Rattle.kernel_calls.specs.PacketCalls.Dqpkt.{Search, dequeued, dqpkt, dqpkt_tests, found_in}
use Rattle.kernel_calls.specs.PacketCalls.PacketMoves.{arrived, departed, sent_packet}
use Rattle.kernel_calls.specs.PacketCalls.Qpkt.{qpkt, qpkt_tests, sent_to}
use Rattle.kernel_calls.specs.PacketCalls.TaskWait.{taskwait, waited, waiting}
use Rattle.kernel_calls.specs.CoroutineCalls.CallCo.{idle_tests}
use Rattle.kernel_calls.specs.CoroutineCalls.CallersCoroutines.{coroutines_of_caller, with_changed}
use Rattle.kernel_calls.specs.CoroutineCalls.CoWait.{wait_tests}
use Rattle.kernel_calls.specs.CoroutineCalls.CreateCo.{create_tests, created, createco, with_created as with_new_coroutine}
use Rattle.kernel_calls.specs.CoroutineCalls.DeleteCo.{delete_tests, deleteco, with_deleted, with_deleted_at}
use Rattle.kernel_calls.specs.CoroutineCalls.ResumeCo.{resume_tests, resumed_itself}
use Rattle.kernel_calls.specs.CoroutineCalls.SwitchChange as switches
use Rattle.kernel_calls.specs.CoroutineCalls.SwitchChange.{SwitchChange, switched}
use Rattle.kernel_calls.specs.Calls.{CallTurn, answered, made, of_made, of_switched, of_wait, past_call, made_if_read}
use Rattle.kernel_calls.specs.declared.call_numbers.CallOutcome.{CallOutcome}
use Rattle.kernel_calls.specs.declared.call_numbers.CallOutcome.TheVariants.{Done, Outside as OutsideStore, Quit as Quits, Unknown, Waits}
use Rattle.kernel_calls.specs.declared.call_numbers.KernelCall.{KernelCall}
use Rattle.kernel_calls.specs.declared.call_numbers.KernelCall.TheVariants.{AddModule, CallCo, ChangePri, CoWait, CreateCo, CreateTask, DeleteCo, DeleteTask, Dqpkt, Freevec, Getvec, Hold, MulDiv, Qpkt, Quit, Release, ResumeCo, SetFlags, TaskWait, TestFlags, Unload, Wrch}
use Rattle.guest_turns.specs.GuestTurn.{Numbers}
use Rattle.guest_turns.proofs.RunningField.{RunsIn, moved-runs, one-runs, queue-runs, runs-changed, runs-found, runs-inserted, runs-without}

-- a call that is made or refused is neither unknown nor outside the store
abbrev pub IsMadeEnd : CallOutcome → Type 0
IsMadeEnd Done = Unit {0}
IsMadeEnd Waits = Unit {0}
IsMadeEnd (Quits result) = Unit {0}
IsMadeEnd Unknown = ⊥
IsMadeEnd (OutsideStore a) = ⊥

-- the lists and the C that a call leaves
pub record Keeps (nums : Numbers) (byte : ℕ) (c : CallTurn) : Type 0 where
  pub lists : RunsIn nums c.lists
  pub same : c.regs.c ≡ byte

answered-byte : (r : Regs) (a : Result ℕ ℕ) → (answered r a).c ≡ r.c
answered-byte r (Ok w) = refl
answered-byte r (Err code) = refl

-- what another coroutine goes on with
pub record KeepsSwitched (nums : Numbers) (byte : ℕ) (m : SwitchChange) : Type 0 where
  pub lists : RunsIn nums m.lists
  pub same : m.regs.c ≡ byte

module _ (nums : Numbers) (l : Lists) (h : RunsIn nums l) where
  -- refused or not
  refused-runs : (o : Option ℕ) (m : CallChange) → RunsIn nums m.lists → RunsIn nums (by_refusal o l m).lists
  refused-runs None m is = is
  refused-runs (Some code) m is = h

  getvec-runs : (u : ℕ) → RunsIn nums (getvec l u).lists
  getvec-runs u =
      refused-runs (first_refusal (getvec_tests l u)) (record { answer = Ok (data_taken u l); lists = with_taken u l; plain = []; events = [] })
      (record { numbers = h.numbers; alone = h.alone })

  freevec-runs : (v : ℕ) → RunsIn nums (freevec l v).lists
  freevec-runs v = on (eqb v 0)
    where
      on : (b : Bool) → RunsIn nums (cond b (done l) (unless_refused (freevec_tests l v) l (done (with_given v l)))).lists
      on true = h
      on false = refused-runs (first_refusal (freevec_tests l v)) (done (with_given v l)) (record { numbers = h.numbers; alone = h.alone })

  create_task-runs : (s : List ℕ) (m u pri maker : ℕ) → RunsIn nums (create_task s l 0 (m ∷ []) u pri maker).lists
  create_task-runs s m u pri maker =
      let t : Task = new_task l (unwrap_or (number_of l 0) 0) (m ∷ []) u pri maker in
      refused-runs (first_refusal (creation_tests s l 0 (m ∷ []) u pri)) (with_created s l t)
      (record { numbers = h.numbers; alone = runs-inserted nums.running t l.tasks (λ e. cc) h.alone })

  delete_task-runs : (n : ℕ) → RunsIn nums (delete_task l n).lists
  delete_task-runs n =
      refused-runs (first_refusal (guest_tests l n ++ deletion_tests l n)) (done (without_task l n))
      (record { numbers = h.numbers; alone = runs-without nums.running (λ t. eqb t.id n) l.tasks h.alone })

  change_pri-runs : (n pri : ℕ) → RunsIn nums (change_pri l n pri).lists
  change_pri-runs n pri =
      refused-runs (first_refusal (guest_tests l n ++ priority_tests l n pri)) (done (with_new_priority n pri l))
      (moved-runs nums l pri (find (λ t. eqb t.id n) l.tasks) (without_first (λ t. eqb t.id n) l.tasks) (runs-found nums.running (λ t. eqb t.id n) l.tasks h.alone)
      (runs-without nums.running (λ t. eqb t.id n) l.tasks h.alone) h)

  set_flags-runs : (n flags : ℕ) → RunsIn nums (set_flags l n flags).lists
  set_flags-runs n flags = refused-runs (first_refusal (guest_tests l n)) (done (with_task n (flagged flags) l)) (one-runs nums l n (flagged flags) (λ t one. one) h)

  hold-runs : (n : ℕ) → RunsIn nums (hold l n).lists
  hold-runs n = refused-runs (first_refusal (hold_tests l n)) (done (with_task n held l)) (one-runs nums l n held (λ t one. one) h)

  release-runs : (n : ℕ) → RunsIn nums (release l n).lists
  release-runs n = refused-runs (first_refusal (release_tests l n)) (done (with_task n released l)) (one-runs nums l n released (λ t one. one) h)

  taskwait-runs : RunsIn nums (taskwait l).lists
  taskwait-runs = on (queue_of (Work l.running) l)
    where
      on : (ps : List QueuedPacket) → RunsIn nums (waited ps l).lists
      on [] = one-runs nums l l.running waiting (λ t one e. cc) h
      on (p ∷ ps) = queue-runs nums l (Work l.running) ps h

  qpkt-runs : (s : List ℕ) (p : ℕ) → RunsIn nums (qpkt s l p).lists
  qpkt-runs s p =
      let at : Place = place_of (get_or s (p + 1) 0) in
      refused-runs (first_refusal (qpkt_tests s l p)) (sent_to (get_or s (p + 1) 0) s l p)
      (queue-runs nums l at (arrived at (sent_packet s l at p l.running) (queue_of at l)) h)

  dqpkt-runs : (n p : ℕ) → RunsIn nums (dqpkt l n p).lists
  dqpkt-runs n p = refused-runs (first_refusal (dqpkt_tests l n p)) (dequeued p (found_in l n p) l) (on (found_in l n p))
    where
      on : (o : Option Search) → RunsIn nums (dequeued p o l).lists
      on None = h
      on (Some w) = queue-runs nums l w.place (departed p (queue_of w.place l)) h

  unload-runs : (m : ℕ) → RunsIn nums (unload_module l m).lists
  unload-runs m = refused-runs (first_refusal (unload_tests l m)) (done (with_given m (without_module m l))) (record { numbers = h.numbers; alone = h.alone })

  add_module-runs : (s : List ℕ) (n m : ℕ) → RunsIn nums (add_module s l n m).lists
  add_module-runs s n m =
      refused-runs (first_refusal (addition_tests s l n m))
      (record {
        answer = Ok (modules_so_far (task_of n l) + 1);
        lists = with_task n (with_further m) l;
        plain = global_words (globals_of_task n l) (globals_in s m);
        events = [];
      })
      (one-runs nums l n (with_further m) (λ t one. one) h)

  -- ---- coroutines of the caller

  createco-runs : (entry u : ℕ) → RunsIn nums (createco l entry u).lists
  createco-runs entry u =
      refused-runs (first_refusal (create_tests l u)) (created (data_taken (highest u) l) entry u l)
      (record { numbers = h.numbers; alone = runs-changed nums.running l.running (with_changed (with_new_coroutine (data_taken (highest u) l) entry u)) (λ t one. one) l.tasks h.alone })

  deleteco-runs : (c : ℕ) → RunsIn nums (deleteco l c).lists
  deleteco-runs c =
      refused-runs (first_refusal (delete_tests l c)) (done (with_deleted_at c l))
      (record { numbers = h.numbers; alone = runs-changed nums.running l.running (with_changed (with_deleted c)) (λ t one. one) l.tasks h.alone })

  refused-switch : (o : Option ℕ) (r : Regs) (m : SwitchChange) → KeepsSwitched nums r.c m → KeepsSwitched nums r.c (switches.by_refusal o l r m)
  refused-switch None r m is = is
  refused-switch (Some code) r m is = record { lists = h; same = refl }

  pub switched-keeps : (change : TaskCoroutines → TaskCoroutines) (v : ℕ) (r : Regs) → KeepsSwitched nums r.c (switched change v l r)
  switched-keeps change v r = record { lists = one-runs nums l l.running (with_changed change) (λ t one. one) h; same = refl }

  -- ---- the calls

  -- the registers answer
  made-keeps : (r : Regs) (m : CallChange) → RunsIn nums m.lists → Keeps nums r.c (of_made r m)
  made-keeps r m is = record { lists = is; same = answered-byte r m.answer }

  wait-keeps : (r : Regs) (ps : List QueuedPacket) (m : CallChange) → RunsIn nums m.lists → Keeps nums r.c (of_wait r ps m)
  wait-keeps r [] m is = record { lists = is; same = refl }
  wait-keeps r (p ∷ ps) m is = made-keeps r m is

  go_on-keeps : (r : Regs) (m : SwitchChange) → KeepsSwitched nums r.c m → Keeps nums r.c (of_switched m)
  go_on-keeps r m is = record { lists = is.lists; same = on m.answer }
    where
      on : (a : Result (Unit {0}) ℕ) → (of_switched (record m { answer = a })).regs.c ≡ r.c
      on (Ok u) = is.same
      on (Err code) = is.same

  resume-keeps : (r : Regs) (c v : ℕ) (b : Bool) → KeepsSwitched nums r.c (cond b (resumed_itself v l r) (switched (with_resumed c r.p r.pc) v l r))
  resume-keeps r c v true = record { lists = h; same = refl }
  resume-keeps r c v false = switched-keeps (with_resumed c r.p r.pc) v r

  call-keeps : (s : List ℕ) (r : Regs) (call : KernelCall) → Keeps nums r.c (made s l r call)
  call-keeps s r (Quit result) = record { lists = h; same = refl }
  call-keeps s r (Getvec u) = made-keeps r (getvec l u) (getvec-runs u)
  call-keeps s r (Freevec v) = made-keeps r (freevec l v) (freevec-runs v)
  call-keeps s r (CreateTask m u pri) = made-keeps r (create_task s l 0 (m ∷ []) u pri l.running) (create_task-runs s m u pri l.running)
  call-keeps s r (DeleteTask n) = made-keeps r (delete_task l n) (delete_task-runs n)
  call-keeps s r (ChangePri n pri) = made-keeps r (change_pri l n pri) (change_pri-runs n pri)
  call-keeps s r (SetFlags n flags) = made-keeps r (set_flags l n flags) (set_flags-runs n flags)
  call-keeps s r (TestFlags mask) = record { lists = one-runs nums l l.running (cleared mask) (λ t one. one) h; same = refl }
  call-keeps s r (Hold n) = made-keeps r (hold l n) (hold-runs n)
  call-keeps s r (Release n) = made-keeps r (release l n) (release-runs n)
  call-keeps s r TaskWait = wait-keeps r (queue_of (Work l.running) l) (taskwait l) taskwait-runs
  call-keeps s r (Qpkt p) = made-keeps r (qpkt s l p) (qpkt-runs s p)
  call-keeps s r (Dqpkt n p) = made-keeps r (dqpkt l n p) (dqpkt-runs n p)
  call-keeps s r (Unload m) = made-keeps r (unload_module l m) (unload-runs m)
  call-keeps s r (CreateCo entry u) = made-keeps r (createco l entry u) (createco-runs entry u)
  call-keeps s r (DeleteCo c) = made-keeps r (deleteco l c) (deleteco-runs c)
  call-keeps s r (CallCo c v) =
      let m : SwitchChange = switched (with_called c r.p r.pc) v l r in
      let tests = first_refusal (idle_tests c (coroutines_of_caller l)) in
      go_on-keeps r (switches.by_refusal tests l r m) (refused-switch tests r m (switched-keeps (with_called c r.p r.pc) v r))
  call-keeps s r (ResumeCo c v) =
      let m : SwitchChange = cond (eqb (current_of (coroutines_of_caller l)) c) (resumed_itself v l r) (switched (with_resumed c r.p r.pc) v l r) in
      let tests = first_refusal (resume_tests c (coroutines_of_caller l)) in
      go_on-keeps r (switches.by_refusal tests l r m) (refused-switch tests r m (resume-keeps r c v (eqb (current_of (coroutines_of_caller l)) c)))
  call-keeps s r (CoWait v) =
      let m : SwitchChange = switched (with_waiting r.p r.pc) v l r in
      let tests = first_refusal (wait_tests (coroutines_of_caller l)) in
      go_on-keeps r (switches.by_refusal tests l r m) (refused-switch tests r m (switched-keeps (with_waiting r.p r.pc) v r))
  call-keeps s r (Wrch ch) = record { lists = h; same = refl }
  call-keeps s r (MulDiv a b c) = record { lists = h; same = refl }
  call-keeps s r (AddModule n m) = made-keeps r (add_module s l n m) (add_module-runs s n m)

  pub read-keeps : (s : List ℕ) (r : Regs) (q : Result KernelCall CallOutcome) → Keeps nums r.c (made_if_read s l r q)
  read-keeps s r (Ok call) = call-keeps s (past_call r) call
  read-keeps s r (Err outcome) = record { lists = h; same = refl }

-- ---- how calls end

wait-ends : (r : Regs) (ps : List QueuedPacket) (m : CallChange) → IsMadeEnd (of_wait r ps m).outcome
wait-ends r [] m = tt
wait-ends r (p ∷ ps) m = tt

pub call-ends : (s : List ℕ) (l : Lists) (r : Regs) (call : KernelCall) → IsMadeEnd (made s l r call).outcome
call-ends s l r TaskWait = wait-ends r (queue_of (Work l.running) l) (taskwait l)
call-ends s l r _ = tt
