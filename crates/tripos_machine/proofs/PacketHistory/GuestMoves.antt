-- Every call, and the whole turn of a guest, moves packets as its events say.
use Rattle.std.proofs.Common.{◌≡◌, ℕ, ◌+◌, ◌-◌, ◌&&◌, Bool, true, false, cond, eqb, is_some, Option, Some, None, Result, Ok, Err, List, [], ◌∷◌, ◌++◌, map, inl, refl, sym, ap, ◌∙◌, subst}
use Rattle.std.specs.Prelude.{find, not, slice_index, unwrap_or}
use Rattle.std.specs.List.{AllByRecursion, list_any, range_with_len}
use Rattle.std.proofs.lemmas.Bool.{not-true}
use Rattle.word_store.specs.Arithmetic.{signed}
use Rattle.word_store.specs.declared.registers.Regs.{Regs}
use Rattle.word_store.specs.Count.{IsApart}
use Rattle.instruction_set.specs.Instruction.{After, instruction}
use Rattle.instruction_set.specs.declared.Outcome.{Outcome}
use Rattle.instruction_set.specs.declared.Outcome.TheVariants.{Next, Sys, Returned, Fault as Faulted}
use Rattle.instruction_set.proofs.Unexecuted.{StaysOrRuns, not-next, stays-instruction}
use Rattle.kernel_lists.specs.LinkedList.Places.{without_first}
use Rattle.kernel_lists.specs.PacketQueue.QueueWords.{QueuedPacket}
use Rattle.kernel_lists.specs.declared.packet_queue.events.KernelEvent.{KernelEvent}
use Rattle.kernel_lists.specs.HunkLoader.Globals.{globals_in}
use Rattle.kernel_lists.specs.Coroutines.CoroutineExchanges.{TaskCoroutines, current_of, with_called, with_resumed, with_waiting}
use Rattle.kernel_lists.specs.Coroutines.Creation.{highest}
use Rattle.kernel_model.specs.KernelRecord.Between.{is_empty_queue}
use Rattle.kernel_model.specs.KernelRecord.Changes.{queue_of, with_task, work_of}
use Rattle.kernel_model.specs.KernelRecord.Lists.{Lists, has_task}
use Rattle.kernel_model.specs.KernelRecord.Task.{Task, task_id}
use Rattle.kernel_model.specs.KernelRecord.ValidLists.{AreValid}
use Rattle.kernel_model.specs.KernelRecord.ValidQueues.Place.{Work}
use Rattle.kernel_model.specs.KernelRecord.Versions.{highest_id_of}
use Rattle.word_store.proofs.Elements.{find-passes}
use Rattle.kernel_calls.specs.CallAnswers.Guests.{guest_tests}
use Rattle.kernel_calls.specs.CallAnswers.CallChange.{CallChange, done, unless_refused}
use Rattle.kernel_calls.specs.CallAnswers.Refusals.{first_refusal}
use Rattle.kernel_calls.proofs.CallAnswers.FoundTask.{any-one, find-numbered}
use Rattle.kernel_calls.proofs.CallAnswers.RunningTask.{there-at}
use Rattle.kernel_calls.specs.BlockCalls.FreeStore.{data_taken, with_taken}
use Rattle.kernel_calls.specs.BlockCalls.Freevec.{freevec, freevec_tests, with_given}
use Rattle.kernel_calls.specs.BlockCalls.Getvec.{getvec, getvec_tests}
use Rattle.kernel_calls.specs.TaskCalls.ChangePri.{change_pri, moved, priority_tests, with_new_priority}
use Rattle.kernel_calls.specs.TaskCalls.CreateTask.{create_task, creation_tests, free_id, new_task, number_of, with_created}
use Rattle.kernel_calls.specs.TaskCalls.DeleteTask.{delete_task, deletion_tests, without_task}
use Rattle.kernel_calls.specs.TaskCalls.HoldTask.{held, hold, hold_tests}
use Rattle.kernel_calls.specs.TaskCalls.ReleaseTask.{release, release_tests, released}
use Rattle.kernel_calls.specs.TaskCalls.SetFlags.{flagged, set_flags}
use Rattle.kernel_calls.specs.TaskCalls.TestFlags.{cleared}
use Rattle.kernel_calls.specs.ModuleCalls.AddModule.{add_module, addition_tests, global_words, globals_of_task, modules_so_far, task_of, with_further}
use Rattle.kernel_calls.specs.ModuleCalls.UnloadModule.{unload_module, unload_tests, without_module}
use Rattle.kernel_calls.specs.PacketCalls.Dqpkt.{Search, dequeued, dqpkt_tests, found_in}
use Rattle.kernel_calls.specs.PacketCalls.Qpkt.{qpkt_tests, sent_to}
use Rattle.kernel_calls.specs.PacketCalls.TaskWait.{taskwait, waited}
use Rattle.kernel_calls.specs.CoroutineCalls.CallCo.{idle_tests}
use Rattle.kernel_calls.specs.CoroutineCalls.CallersCoroutines.{coroutines_of_caller, with_changed}
use Rattle.kernel_calls.specs.CoroutineCalls.CoWait.{ended, wait_tests, with_ended}
use Rattle.kernel_calls.specs.CoroutineCalls.CreateCo.{create_tests, created, createco, with_created as with_new_coroutine}
use Rattle.kernel_calls.specs.CoroutineCalls.DeleteCo.{delete_tests, deleteco, with_deleted, with_deleted_at}
use Rattle.kernel_calls.specs.CoroutineCalls.ResumeCo.{resume_tests, resumed_itself}
use Rattle.kernel_calls.specs.CoroutineCalls.SwitchChange as switches
use Rattle.kernel_calls.specs.CoroutineCalls.SwitchChange.{SwitchChange, switched}
use Rattle.kernel_calls.specs.CallNumbers.{call_of}
use Rattle.kernel_calls.specs.Calls.{kernel_call, made, made_if_read, of_wait, past_call}
use Rattle.kernel_calls.specs.declared.call_numbers.CallOutcome.{CallOutcome}
use Rattle.kernel_calls.specs.declared.call_numbers.KernelCall.{KernelCall}
use Rattle.kernel_calls.specs.declared.call_numbers.KernelCall.TheVariants.{AddModule, CallCo, ChangePri, CoWait, CreateCo, CreateTask, DeleteCo, DeleteTask, Dqpkt, Freevec, Getvec, Hold, MulDiv, Qpkt, Quit, Release, ResumeCo, SetFlags, TaskWait, TestFlags, Unload, Wrch}
use Rattle.guest_turns.specs.Guarded.{is_owned}
use Rattle.guest_turns.specs.GuestTurn.{after_instruction, died, dies, turn_without_reporter}
use Rattle.tripos_machine.specs.PacketHistory.Queues.{IsDueIn, Moves, ledger_of}
use Rattle.tripos_machine.specs.PacketHistory.SentBy.{AreOfTurn}
use Rattle.tripos_machine.proofs.PacketHistory.CallMoves.{dqpkt-moves, qpkt-moves, refused-moves, taskwait-moves}
use Rattle.tripos_machine.proofs.PacketHistory.FirstTaken.{TakesFirst, first-refused}
use Rattle.tripos_machine.proofs.PacketHistory.Ledgers.{ledger-same, ledger-task}
use Rattle.tripos_machine.proofs.PacketHistory.Moves.{move-none}
use Rattle.tripos_machine.proofs.PacketHistory.SentEvents.{dqpkt-turn, qpkt-turn, taskwait-turn, turn-none, turn-refused}
use Rattle.tripos_machine.proofs.PacketHistory.ChainMoves.{work-gone, work-moved, work-new}

-- ---- calls that move no packets

abbrev pub Quiet : Lists → Lists → Type 0
Quiet l m = ledger_of m ≡ ledger_of l

-- tasks and queues stay
pub beside-quiet : (l m : Lists) → m.tasks ≡ l.tasks → m.clock ≡ l.clock → m.keyboard ≡ l.keyboard → m.output ≡ l.output → m.pending ≡ l.pending → Quiet l m
beside-quiet l m ts c k o p = ledger-same l m (λ n. ap (work_of n) ts) c k o p

module _ (due : KernelEvent → ℕ) (l : Lists) where
  -- The events lead to these lists, are those of a turn of the running task, and take a packet first.
  abbrev Goes : List KernelEvent → Lists → Type 0
  Goes es m = Moves due l es m × AreOfTurn (signed l.running) es × TakesFirst es

  goes-none : (m : Lists) → Quiet l m → Goes [] m
  goes-none m same = (move-none due l m same, turn-none (signed l.running), tt)

  -- a call without events
  abbrev IsQuiet : CallChange → Type 0
  IsQuiet m = Goes m.events m.lists

  quiet : (tests : List (Bool × ℕ)) (m : CallChange) → m.events ≡ [] → (AllByRecursion (λ test. test.0 ≡ true) tests → Quiet l m.lists) → IsQuiet (unless_refused tests l m)
  quiet tests m none same = (
    refused-moves due l tests m (λ ok. subst (λ es. Moves due l es m.lists) (sym none) (move-none due l m.lists (same ok))),
    turn-refused (signed l.running) tests l m (λ ok. subst (AreOfTurn (signed l.running)) (sym none) (turn-none (signed l.running))),
    first-refused tests l m (subst TakesFirst (sym none) tt),
  )

  one-quiet : (n : ℕ) (f : Task → Task) → ((t : Task) → ((f t).id ≡ t.id) × ((f t).queue ≡ t.queue)) → Quiet l (with_task n f l)
  one-quiet n f same = ledger-task l n f same

  getvec-quiet : (u : ℕ) → IsQuiet (getvec l u)
  getvec-quiet u = quiet (getvec_tests l u) (record { answer = Ok (data_taken u l); lists = with_taken u l; plain = []; events = [] }) refl (λ ok. beside-quiet l (with_taken u l) refl refl refl refl refl)

  freevec-quiet : (v : ℕ) → IsQuiet (freevec l v)
  freevec-quiet v = on (eqb v 0)
    where
      on : (b : Bool) → IsQuiet (cond b (done l) (unless_refused (freevec_tests l v) l (done (with_given v l))))
      on true = goes-none l refl
      on false = quiet (freevec_tests l v) (done (with_given v l)) refl (λ ok. beside-quiet l (with_given v l) refl refl refl refl refl)

  pub unload-quiet : (m : ℕ) → IsQuiet (unload_module l m)
  unload-quiet m = quiet (unload_tests l m) (done (with_given m (without_module m l))) refl (λ ok. beside-quiet l (with_given m (without_module m l)) refl refl refl refl refl)

  pub set_flags-quiet : (n flags : ℕ) → IsQuiet (set_flags l n flags)
  set_flags-quiet n flags = quiet (guest_tests l n) (done (with_task n (flagged flags) l)) refl (λ ok. one-quiet n (flagged flags) (λ t. (refl, refl)))

  pub hold-quiet : (n : ℕ) → IsQuiet (hold l n)
  hold-quiet n = quiet (hold_tests l n) (done (with_task n held l)) refl (λ ok. one-quiet n held (λ t. (refl, refl)))

  pub release-quiet : (n : ℕ) → IsQuiet (release l n)
  release-quiet n = quiet (release_tests l n) (done (with_task n released l)) refl (λ ok. one-quiet n released (λ t. (refl, refl)))

  add_module-quiet : (s : List ℕ) (n m : ℕ) → IsQuiet (add_module s l n m)
  add_module-quiet s n m =
      quiet (addition_tests s l n m)
      (record {
        answer = Ok (modules_so_far (task_of n l) + 1);
        lists = with_task n (with_further m) l;
        plain = global_words (globals_of_task n l) (globals_in s m);
        events = [];
      }) refl
      (λ ok. one-quiet n (with_further m) (λ t. (refl, refl)))

  -- the number of a guest that a guest creates is new
  free-new : is_some (free_id l) ≡ true → has_task (unwrap_or (free_id l) 0) l.tasks ≡ false
  free-new = on (free_id l) refl
    where
      on : (o : Option ℕ) → free_id l ≡ o → is_some o ≡ true → has_task (unwrap_or o 0) l.tasks ≡ false
      on None is some = cc
      on (Some n) is some = not-true (has_task n l.tasks) (find-passes (λ i. not (has_task i l.tasks)) (range_with_len 5 (highest_id_of l.version - 4)) n is)

  pub create_task-quiet : (s : List ℕ) (modules : List ℕ) (u pri maker : ℕ) → IsQuiet (create_task s l 0 modules u pri maker)
  create_task-quiet s modules u pri maker =
      let t : Task = new_task l (unwrap_or (number_of l 0) 0) modules u pri maker in
      let made : CallChange = with_created s l t in
      quiet (creation_tests s l 0 modules u pri) made refl
      (λ ok. ledger-same l made.lists (λ n. work-new n _ t l.tasks (free-new ok.1.1.1.0) refl) refl refl refl refl)

  module _ (v : AreValid l) where
    pub delete_task-quiet : (n : ℕ) → IsQuiet (delete_task l n)
    delete_task-quiet n =
        quiet (guest_tests l n ++ deletion_tests l n) (done (without_task l n)) refl
        (λ ok.
        let at = there-at n l.tasks ok.0 in
        let distinct : IsApart (map task_id (at.front ++ at.task ∷ at.back)) = subst (λ ts. IsApart (map task_id ts)) at.is v.tasks.distinct in
        let found : find (λ t. eqb t.id n) l.tasks ≡ Some at.task = ap (find (λ t. eqb t.id n)) at.is ∙ find-numbered n at.front at.task at.back at.number distinct in
        let empty : is_empty_queue at.task.queue ≡ true =
        sym (any-one n (λ t. is_empty_queue t.queue) at.front at.task at.back at.number distinct) ∙ ap (list_any (λ t. eqb t.id n && is_empty_queue t.queue)) (sym at.is) ∙ ok.1.1.1.0
        in
        ledger-same l (without_task l n) (λ i. work-gone i n at.task l.tasks v.tasks.distinct found (empty-is at.task.queue empty)) refl refl refl refl)
      where
        empty-is : (ps : List QueuedPacket) → is_empty_queue ps ≡ true → ps ≡ []
        empty-is [] e = refl
        empty-is (p ∷ ps) e = cc

    pub change_pri-quiet : (n pri : ℕ) → IsQuiet (change_pri l n pri)
    change_pri-quiet n pri =
        quiet (guest_tests l n ++ priority_tests l n pri) (done (with_new_priority n pri l)) refl (λ ok. on (find (λ t. eqb t.id n) l.tasks) refl)
      where
        on : (o : Option Task) → find (λ t. eqb t.id n) l.tasks ≡ o → Quiet l (moved pri o (without_first (λ t. eqb t.id n) l.tasks) l)
        on None is = refl
        on (Some t) is =
            let u : Task = record t { priority = pri } in
            ledger-same l (moved pri (Some t) (without_first (λ t. eqb t.id n) l.tasks) l) (λ i. work-moved i n t l.tasks v.tasks.distinct is _ u refl refl) refl refl refl refl

  -- ---- coroutines of the caller

  callers-quiet : (change : TaskCoroutines → TaskCoroutines) → Quiet l (with_task l.running (with_changed change) l)
  callers-quiet change = one-quiet l.running (with_changed change) (λ t. (refl, refl))

  createco-quiet : (entry u : ℕ) → IsQuiet (createco l entry u)
  createco-quiet entry u =
      let m : CallChange = created (data_taken (highest u) l) entry u l in
      quiet (create_tests l u) m refl (λ ok. beside-quiet (with_task l.running (with_changed (with_new_coroutine (data_taken (highest u) l) entry u)) l) m.lists refl refl refl refl refl ∙ callers-quiet (with_new_coroutine (data_taken (highest u) l) entry u))

  deleteco-quiet : (c : ℕ) → IsQuiet (deleteco l c)
  deleteco-quiet c =
      quiet (delete_tests l c) (done (with_deleted_at c l)) refl (λ ok. beside-quiet (with_task l.running (with_changed (with_deleted c)) l) (with_deleted_at c l) refl refl refl refl refl ∙ callers-quiet (with_deleted c))

  abbrev SwitchIsQuiet : SwitchChange → Type 0
  SwitchIsQuiet m = Goes [] m.lists

  refused-switch : (o : Option ℕ) (r : Regs) (m : SwitchChange) → SwitchIsQuiet m → SwitchIsQuiet (switches.by_refusal o l r m)
  refused-switch None r m is = is
  refused-switch (Some code) r m is = goes-none l refl

  switched-quiet : (change : TaskCoroutines → TaskCoroutines) (v : ℕ) (r : Regs) → SwitchIsQuiet (switched change v l r)
  switched-quiet change v r = goes-none (switched change v l r).lists (callers-quiet change)

  resume-quiet : (r : Regs) (c v : ℕ) (b : Bool) → SwitchIsQuiet (cond b (resumed_itself v l r) (switched (with_resumed c r.p r.pc) v l r))
  resume-quiet r c v true = goes-none l refl
  resume-quiet r c v false = switched-quiet (with_resumed c r.p r.pc) v r

  -- ---- every call

  taskwait-first : (ps : List QueuedPacket) → TakesFirst (waited ps l).events
  taskwait-first [] = tt
  taskwait-first (p ∷ ps) = tt

  dequeued-first : (p : ℕ) (o : Option Search) → TakesFirst (dequeued p o l).events
  dequeued-first p None = tt
  dequeued-first p (Some w) = tt

  wait-moves : (r : Regs) (ps : List QueuedPacket) (m : CallChange) → IsQuiet m → Goes (of_wait r ps m).events (of_wait r ps m).lists
  wait-moves r [] m is = is
  wait-moves r (p ∷ ps) m is = is

  module _ (v : AreValid l) (there : has_task l.running l.tasks ≡ true) (s : List ℕ) (dues : (p : ℕ) → IsDueIn due s l p) where
    call-moves : (r : Regs) (call : KernelCall) → Goes (made s l r call).events (made s l r call).lists
    call-moves r (Quit result) = goes-none l refl
    call-moves r (Getvec u) = getvec-quiet u
    call-moves r (Freevec w) = freevec-quiet w
    call-moves r (CreateTask m u pri) = create_task-quiet s (m ∷ []) u pri l.running
    call-moves r (DeleteTask n) = delete_task-quiet v n
    call-moves r (ChangePri n pri) = change_pri-quiet v n pri
    call-moves r (SetFlags n flags) = set_flags-quiet n flags
    call-moves r (TestFlags mask) = goes-none (with_task l.running (cleared mask) l) (one-quiet l.running (cleared mask) (λ t. (refl, refl)))
    call-moves r (Hold n) = hold-quiet n
    call-moves r (Release n) = release-quiet n
    call-moves r TaskWait = wait-moves r (queue_of (Work l.running) l) (taskwait l) (taskwait-moves due l v there, taskwait-turn l v there, taskwait-first (queue_of (Work l.running) l))
    call-moves r (Qpkt p) = (qpkt-moves due s l p v (dues p), qpkt-turn l v s p, first-refused (qpkt_tests s l p) l (sent_to (slice_index s (p + 1)) s l p) tt)
    call-moves r (Dqpkt n p) = (dqpkt-moves due l n p v there, dqpkt-turn l v n p, first-refused (dqpkt_tests l n p) l (dequeued p (found_in l n p) l) (dequeued-first p (found_in l n p)))
    call-moves r (Unload m) = unload-quiet m
    call-moves r (CreateCo entry u) = createco-quiet entry u
    call-moves r (DeleteCo c) = deleteco-quiet c
    call-moves r (CallCo c w) = refused-switch (first_refusal (idle_tests c (coroutines_of_caller l))) r (switched (with_called c r.p r.pc) w l r) (switched-quiet (with_called c r.p r.pc) w r)
    call-moves r (ResumeCo c w) =
        refused-switch (first_refusal (resume_tests c (coroutines_of_caller l))) r (cond (eqb (current_of (coroutines_of_caller l)) c) (resumed_itself w l r) (switched (with_resumed c r.p r.pc) w l r))
        (resume-quiet r c w (eqb (current_of (coroutines_of_caller l)) c))
    call-moves r (CoWait w) = refused-switch (first_refusal (wait_tests (coroutines_of_caller l))) r (switched (with_waiting r.p r.pc) w l r) (switched-quiet (with_waiting r.p r.pc) w r)
    call-moves r (Wrch ch) = goes-none l refl
    call-moves r (MulDiv a b c) = goes-none l refl
    call-moves r (AddModule n m) = add_module-quiet s n m

    read-moves : (r : Regs) (q : Result KernelCall CallOutcome) → Goes (made_if_read s l r q).events (made_if_read s l r q).lists
    read-moves r (Ok call) = call-moves (past_call r) call
    read-moves r (Err outcome) = goes-none l refl

    pub kernel_call-moves : (r : Regs) → Goes (kernel_call s l r).events (kernel_call s l r).lists
    unfolding kernel_call
    kernel_call-moves r = read-moves r (call_of s r)

  -- ---- the turn

  returned-moves : (r : Regs) (b : Bool) → SwitchIsQuiet (cond b (dies l r) (ended l r))
  returned-moves r true = goes-none (dies l r).lists (one-quiet l.running died (λ t. (refl, refl)))
  returned-moves r false = switched-quiet with_ended r.a r

  module _ (v : AreValid l) (there : has_task l.running l.tasks ≡ true) (s : List ℕ) (dues : (p : ℕ) → IsDueIn due s l p) (r : Regs) where
    -- a call finds the words that were there before its instruction
    instruction-moves : (x : After) → StaysOrRuns s r x → Goes (after_instruction l x.words x.regs x.outcome).events (after_instruction l x.words x.regs x.outcome).lists
    instruction-moves x same = on x.outcome refl
      where
        on : (o : Outcome) → x.outcome ≡ o → Goes (after_instruction l x.words x.regs o).events (after_instruction l x.words x.regs o).lists
        on Next is = goes-none l refl
        on Sys is = kernel_call-moves v there x.words (λ p. subst (λ z. IsDueIn due z l p) (sym (same.stays (not-next x.outcome (inl is))).0) (dues p)) x.regs
        on Returned is = returned-moves x.regs (eqb (current_of (coroutines_of_caller l)) 0)
        on (Faulted f) is = goes-none l refl

    pub guest-moves : Goes (turn_without_reporter s l r).events (turn_without_reporter s l r).lists
    unfolding turn_without_reporter
    guest-moves = instruction-moves (instruction (is_owned l) s r) (stays-instruction (is_owned l) s r)
