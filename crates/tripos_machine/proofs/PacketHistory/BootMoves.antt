-- The events of a boot.
use Rattle.std.proofs.Common.{◌≡◌, ℕ, ℤ, zero, suc, pos, negsuc, ◌≤◌, ◌⊎◌, ◌&&◌, ◌||◌, Bool, true, false, cond, eqb, drop, Option, Some, None, Result, Ok, Err, inl, inr, List, [], ◌∷◌, ◌++◌, map, refl, sym, ap, ◌∙◌, subst, arith}
use Rattle.std.specs.Prelude.{unwrap_or}
use Rattle.std.specs.List.{AllByRecursion}
use Rattle.std.specs.Option.{option_map}
use Rattle.word_store.specs.declared.registers.Regs.{Regs}
use Rattle.module_text.specs.TextReader.Steps.{◌>>=◌}
use Rattle.ram_disc.specs.Disc.{Disc, file_named}
use Rattle.kernel_lists.specs.PacketQueue.QueueWords.{QueuedPacket}
use Rattle.kernel_lists.specs.declared.packet_queue.events.KernelEvent.{KernelEvent}
use Rattle.kernel_lists.specs.declared.packet_queue.events.KernelEvent.TheVariants.{Accepted, Runs}
use Rattle.kernel_model.specs.KernelRecord.Changes.{change_of, with_work, work_of}
use Rattle.kernel_model.specs.KernelRecord.Image.{image, settled}
use Rattle.kernel_model.specs.KernelRecord.Kernel.{Kernel}
use Rattle.kernel_model.specs.KernelRecord.Lists.{Lists, has_task}
use Rattle.kernel_model.specs.KernelRecord.Residents.{key_packet}
use Rattle.kernel_model.specs.KernelRecord.StoreWithLists.{store_with_lists, StoreWithLists, left_with}
use Rattle.kernel_model.specs.KernelRecord.Task.{Task, is_guest_id}
use Rattle.kernel_model.specs.KernelRecord.ValidQueues.Place.{Keyboard, Work}
use Rattle.kernel_model.proofs.KernelRecord.EachMember.{all-each}
use Rattle.kernel_model.specs.KernelDispatch.Dispatch.{dispatched, packets_left, resumed, suspended, takes_packet, with_nobody, with_resumed, with_suspended}
use Rattle.kernel_calls.specs.CallAnswers.CallChange.{CallChange, by_refusal}
use Rattle.kernel_calls.specs.CallAnswers.Refusals.{first_refusal}
use Rattle.kernel_calls.specs.TaskCalls.CreateTask.{create_task, creation_tests, new_task, number_of as given_number, with_created}
use Rattle.kernel_calls.specs.PacketCalls.Dqpkt.{pending_number}
use Rattle.kernel_calls.specs.PacketCalls.PacketMoves.{with_arrived}
use Rattle.session_text.specs.declared.sessions.LineForm.{LineForm}
use Rattle.session_text.specs.declared.sessions.LineForm.TheVariants.{Code, File, Task as TaskForm}
use Rattle.session_text.specs.declared.sessions.Session.{Session}
use Rattle.session_text.specs.declared.sessions.SessionLine.{SessionLine}
use Rattle.kernel_boot.specs.BegunTask.{with_begun}
use Rattle.kernel_boot.specs.BootFiles.{at_line, load_files}
use Rattle.kernel_boot.specs.BootTasks.{AreBootLines, IsBootForm, begin_it, create_it, load_bytes, load_named, load_names, on_answer, start_form, start_tasks}
use Rattle.kernel_boot.specs.EmptyKernel.{empty_lists}
use Rattle.kernel_boot.specs.ResidentKernel.{packet_from, resident_lists, resident_tasks}
use Rattle.kernel_boot.specs.declared.refusals.BootRefusal.{BootRefusal}
use Rattle.kernel_boot.proofs.LawfulLines.{boot-lines}
use Rattle.kernel_boot.proofs.StartedTasks.{names-loaded, number-is}
use Rattle.kernel_machine.specs.KernelSteps.ResidentSteps.{with_disc}
use Rattle.kernel_machine.specs.KernelSteps.Step.{boot_events, dispatch, first_events, run_events}
use Rattle.kernel_machine.specs.KernelSteps.Stepped.{Stepped}
use Rattle.kernel_machine.proofs.KernelSteps.DispatchKept.{dispatch-numbers, three-ways}
use Rattle.kernel_machine.specs.MachineBoot.Boot.{HasKernel, boot, first_kernel, first_lists, started, with_files, with_lines, with_store_of, with_tasks}
use Rattle.kernel_machine.specs.MachineBoot.Booted.{IsFresh}
use Rattle.kernel_machine.proofs.MachineBoot.BegunKernels.{HasBegun, first-begun, lines-begun}
use Rattle.kernel_machine.proofs.MachineBoot.BootedKernels.{booted-events}
use Rattle.tripos_machine.specs.EventHistory.Ledger.{Follows, IsNowhere, Ledger, is_on_queue, same_queue, with_queue as put}
use Rattle.tripos_machine.proofs.EventHistory.Following.{follows-join}
use Rattle.tripos_machine.specs.PacketHistory.Queues.{clock_entry, entry_of, ledger_of, timed_by}
use Rattle.tripos_machine.proofs.PacketHistory.Ledgers.{ledger-put, ledger-same, ledger-task}
use Rattle.tripos_machine.proofs.PacketHistory.Moves.{move-accepted, moves-then, timed-join}
use Rattle.tripos_machine.proofs.PacketHistory.ChainMoves.{work-new}
use Rattle.tripos_machine.proofs.PacketHistory.ShellCalls.{begun-same, load-same}
use Rattle.tripos_machine.specs.PacketHistory.Booted.{no_packets}

-- the same queues
abbrev Same : Lists → Lists → Type 0
Same l m = ledger_of m ≡ ledger_of l

-- ---- the lists before the lines

-- no queue has a packet
record IsEmpty (l : Lists) : Type 0 where
  tasks : (n : ℕ) → work_of n l.tasks ≡ []
  clock : l.clock ≡ []
  keyboard : l.keyboard ≡ []
  output : l.output ≡ []
  pending : l.pending ≡ []

empty-ledger : (l : Lists) → IsEmpty l → no_packets ≡ ledger_of l
empty-ledger l e = λ i q. each q i
  where
    both : (b : Bool) → map entry_of (cond b [] []) ≡ []
    both true = refl
    both false = refl

    each : (q : ℤ) → [] ≡ ledger_of l q
    each (pos n) = sym ((λ i. map entry_of (cond (eqb n pending_number) (e.pending i) (e.tasks n i))) ∙ both (eqb n pending_number))
    each (negsuc zero) = sym (ap (map clock_entry) e.clock)
    each (negsuc (suc zero)) = sym (ap (map entry_of) e.keyboard)
    each (negsuc (suc (suc zero))) = sym (ap (map entry_of) e.output)
    each (negsuc (suc (suc (suc n)))) = refl

all-empty : (n : ℕ) (ts : List Task) → AllByRecursion (λ t. t.queue ≡ []) ts → work_of n ts ≡ []
all-empty n [] all = refl
all-empty n (t ∷ ts) all = on (eqb t.id n) (all-empty n ts all.1)
  where
    on : (b : Bool) → work_of n ts ≡ [] → cond b t.queue (work_of n ts) ≡ []
    on true more = all.0
    on false more = more

module _ (due : KernelEvent → ℕ) (version period size : ℕ) where
  module _ (reporter : Bool) where
    -- before the two packets came
    abbrev before : Lists
    before = record (resident_lists version period size reporter) { keyboard = []; tasks = map (with_work 1 []) (resident_tasks reporter) }

    abbrev keys : QueuedPacket
    keys = packet_from 3 key_packet

    abbrev own : QueuedPacket
    own = packet_from 1 279

    abbrev between : Lists
    between = with_arrived Keyboard keys before

    before-empty : IsEmpty before
    before-empty = record { tasks = λ n. all-empty n before.tasks (on reporter); clock = refl; keyboard = refl; output = refl; pending = refl }
      where
        on : (b : Bool) → AllByRecursion (λ t. t.queue ≡ []) (map (with_work 1 []) (resident_tasks b))
        on true = (refl, (refl, (refl, (refl, tt))))
        on false = (refl, (refl, (refl, tt)))

    none : no_packets ≡ ledger_of before
    none = empty-ledger before before-empty

    nowhere-first : IsNowhere key_packet (ledger_of before)
    nowhere-first = subst (IsNowhere key_packet) none (λ q. refl)

    nowhere-then : IsNowhere 279 (ledger_of between)
    nowhere-then =
        subst (IsNowhere 279) ((λ i. put (negsuc 1) (entry_of keys ∷ []) (none i)) ∙ sym (ledger-put before Keyboard (keys ∷ []) tt tt)) (λ q. on (same_queue q (negsuc 1)))
      where
        on : (b : Bool) → is_on_queue 279 (cond b (entry_of keys ∷ []) []) ≡ false
        on true = refl
        on false = refl

    there : has_task 1 before.tasks ≡ true
    there = on reporter
      where
        on : (b : Bool) → has_task 1 (map (with_work 1 []) (resident_tasks b)) ≡ true
        on true = refl
        on false = refl

    after : Same (resident_lists version period size reporter) (with_arrived (Work 1) own between)
    after = on reporter
      where
        on : (b : Bool)
            → let l : Lists = record (resident_lists version period size b) { tasks = map (with_work 1 []) (resident_tasks b) } in
            ledger_of (with_arrived (Work 1) own l) ≡ ledger_of (resident_lists version period size b)
        on true = refl
        on false = refl

    residents-follow : Follows (timed_by due (first_events true)) no_packets (ledger_of (resident_lists version period size reporter))
    residents-follow =
        subst (λ b. Follows (timed_by due (first_events true)) b (ledger_of (resident_lists version period size reporter))) (sym none)
        (subst (λ a. Follows (timed_by due (first_events true)) (ledger_of before) a) after
        (moves-then due before between (with_arrived (Work 1) own between) (Accepted (negsuc 1) key_packet (pos 3) ∷ []) (Accepted (pos 1) 279 (pos 1) ∷ [])
        (move-accepted due before Keyboard keys tt tt nowhere-first tt)
        (move-accepted due between (Work 1) own there (λ e. absurd (omega (arith, e))) nowhere-then tt)))

first-follows : (due : KernelEvent → ℕ) (s : Session) → Follows (timed_by due (first_events s.resident)) no_packets (ledger_of (first_lists s))
first-follows due s = on s.resident
  where
    on : (b : Bool) → Follows (timed_by due (first_events b)) no_packets (ledger_of (cond b (resident_lists s.version s.period s.store s.debug) (empty_lists s.version s.period s.store)))
    on true = residents-follow due s.version s.period s.store s.debug
    on false = empty-ledger (empty_lists s.version s.period s.store) (record { tasks = λ n. refl; clock = refl; keyboard = refl; output = refl; pending = refl })

-- ---- the lines

refused-same : (o : Option ℕ) (l : Lists) (m : CallChange) → Same l m.lists → Same l (by_refusal o l m).lists
refused-same None l m same = same
refused-same (Some code) l m same = refl

bytes-same : (l : Lists) (o : Option (List ℕ)) → Same l (load_bytes l o).lists
bytes-same l None = refl
bytes-same l (Some bytes) = load-same l (Some bytes) (Ok tt)

names-same : (d : Disc) (names : List (List ℕ)) (modules : List ℕ) (k : StoreWithLists) (x : List ℕ × StoreWithLists) → load_names d names modules k ≡ Ok x → Same k.lists x.1.lists
names-same d [] modules k x is = (let same : (modules, k) ≡ x = cc in subst (λ (y : List ℕ × StoreWithLists). Same k.lists y.1.lists) same refl)
names-same d (name ∷ names) modules k x is =
    on (λ m e. names-same d names (modules ++ m ∷ []) (left_with k.words (load_named d name k.lists).lists (load_named d name k.lists).plain) x e) (load_named d name k.lists).answer is
  where
    on : ((m : ℕ) → load_names d names (modules ++ m ∷ []) (left_with k.words (load_named d name k.lists).lists (load_named d name k.lists).plain) ≡ Ok x → Same (load_named d name k.lists).lists x.1.lists)
        → (r : Result ℕ ℕ)
        → on_answer r (left_with k.words (load_named d name k.lists).lists (load_named d name k.lists).plain) (λ m j. load_names d names (modules ++ m ∷ []) j) ≡ Ok x
        → Same k.lists x.1.lists
    on more (Ok m) e = more m e ∙ bytes-same k.lists (option_map (λ f. f.bytes) (file_named d name))
    on more (Err code) e = cc

-- a task with a number that no task has comes without packets
created-same : (s : List ℕ) (l : Lists) (id : ℕ) (modules : List ℕ) (u pri maker : ℕ) → 5 ≤ id → has_task id l.tasks ≡ false → Same l (create_task s l id modules u pri maker).lists
created-same s l id modules u pri maker low away =
    let n : ℕ = unwrap_or (given_number l id) 0 in
    let t : Task = new_task l n modules u pri maker in
    let made : CallChange = with_created s l t in
    refused-same (first_refusal (creation_tests s l id modules u pri)) l made
    (ledger-same l made.lists (λ i. work-new i _ t l.tasks (ap (λ z. has_task z l.tasks) (number-is l id n low refl) ∙ away) refl) refl refl refl refl)

begin-same : (r : Result ℕ ℕ) (k j : StoreWithLists) → on_answer r k begin_it ≡ Ok j → Same k.lists j.lists
begin-same (Ok n) k j is =
    let same : left_with k.words (with_begun k.words n k.lists) [] ≡ j = cc in
    subst (λ (y : StoreWithLists). Same k.lists y.lists) same (begun-same n k)
begin-same (Err code) k j is = cc

create-same : (id pri stack : ℕ) → 5 ≤ id → (l : Lists) (r : Result (List ℕ × StoreWithLists) ℕ) (j : StoreWithLists) → create_it id pri stack r ≡ Ok j
    → ((x : List ℕ × StoreWithLists) → r ≡ Ok x → Same l x.1.lists × (has_task id x.1.lists.tasks ≡ false)) → Same l j.lists
create-same id pri stack low l (Ok x) j is h =
    let made : CallChange = create_task x.1.words x.1.lists id x.0 stack pri 0 in
    let before = h x refl in
    begin-same made.answer (left_with x.1.words made.lists made.plain) j is ∙ created-same x.1.words x.1.lists id x.0 stack pri 0 low before.1 ∙ before.0
create-same id pri stack low l (Err code) j is h = cc

form-same : (version : ℕ) (d : Disc) (form : LineForm) (k j : StoreWithLists) → IsBootForm version form → start_form d form k ≡ Ok j → Same k.lists j.lists
form-same version d (File name bytes) k j may is = (let same : k ≡ j = cc in subst (λ (y : StoreWithLists). Same k.lists y.lists) same refl)
form-same version d (Code bytes) k j may is = (let same : k ≡ j = cc in subst (λ (y : StoreWithLists). Same k.lists y.lists) same refl)
form-same version d (TaskForm id pri stack names) k j may is = on (has_task id k.lists.tasks) refl is
  where
    on : (b : Bool) → has_task id k.lists.tasks ≡ b → cond b (Err 27) (create_it id pri stack (load_names d names [] k)) ≡ Ok j → Same k.lists j.lists
    on true away e = cc
    on false away e =
        create-same id pri stack may.low k.lists (load_names d names [] k) j e
        (λ x loaded. (names-same d names [] k x loaded, ap (has_task id) (names-loaded d names [] k x loaded).tasks ∙ away))

tasks-same : (version : ℕ) (d : Disc) (lines : List SessionLine) (k j : StoreWithLists) → AreBootLines version lines → start_tasks d lines k ≡ Ok j → Same k.lists j.lists
tasks-same version d [] k j may is = (let same : k ≡ j = cc in subst (λ (y : StoreWithLists). Same k.lists y.lists) same refl)
tasks-same version d (line ∷ lines) k j may is = on (λ i e. tasks-same version d lines i j may.1 e) (start_form d line.form k) refl is
  where
    on : ((i : StoreWithLists) → start_tasks d lines i ≡ Ok j → Same i.lists j.lists) → (r : Result StoreWithLists ℕ) → start_form d line.form k ≡ r
        → at_line line.line r (λ i. start_tasks d lines i) ≡ Ok j → Same k.lists j.lists
    on more (Ok i) e f = more i f ∙ form-same version d line.form k i may.0 e
    on more (Err code) e f = cc

files-same : (lines : List SessionLine) (k j : Kernel) → with_files lines k ≡ Ok j → j.lists ≡ k.lists
unfolding with_files
files-same lines k j is = on (load_files k.disc lines) is
  where
    on : (r : Result Disc BootRefusal) → (r >>= (λ d. Ok (with_disc d k))) ≡ Ok j → j.lists ≡ k.lists
    on (Ok d) f = (let same : with_disc d k ≡ j = cc in ap (λ (z : Kernel). z.lists) (sym same))
    on (Err refusal) f = cc

with_tasks-same : (version : ℕ) (lines : List SessionLine) (k j : Kernel) → AreBootLines version lines → with_tasks lines k ≡ Ok j → Same k.lists j.lists
unfolding with_tasks
with_tasks-same version lines k j may is = on (start_tasks k.disc lines (store_with_lists (image k) k.lists)) refl is
  where
    on : (r : Result StoreWithLists BootRefusal) → start_tasks k.disc lines (store_with_lists (image k) k.lists) ≡ r → (r >>= (λ x. Ok (with_store_of x k))) ≡ Ok j → Same k.lists j.lists
    on (Ok x) e f =
        let same : with_store_of x k ≡ j = cc in
        subst (λ (z : Kernel). Same k.lists z.lists) same (tasks-same version k.disc lines (store_with_lists (image k) k.lists) x may e)
    on (Err refusal) e f = cc

lines-same : (version : ℕ) (lines : List SessionLine) (k j : Kernel) → AreBootLines version lines → with_lines lines k ≡ Ok j → Same k.lists j.lists
unfolding with_lines
lines-same version lines k j may is = on (with_files lines k) refl is
  where
    on : (r : Result Kernel BootRefusal) → with_files lines k ≡ r → (r >>= with_tasks lines) ≡ Ok j → Same k.lists j.lists
    on (Ok i) e f = with_tasks-same version lines i j may f ∙ ap ledger_of (files-same lines k i e)
    on (Err refusal) e f = cc

-- ---- the first dispatch

-- a task takes no packet once it is dispatched
abbrev TakesNone : Task → Type 0
TakesNone t = (t.queue ≡ []) ⊎ (is_guest_id t.id ≡ false)

none-left : (t : Task) → TakesNone t → packets_left t ≡ t.queue
none-left t (inl empty) = ap (λ q. packets_left (record t { queue = q })) empty ∙ on (takes_packet t) ∙ sym empty
  where
    on : (c : Bool) → ◌≡◌ {A = List QueuedPacket} (cond c [] []) []
    on true = refl
    on false = refl
none-left t (inr resident) = ap (λ g. cond (g && (eqb t.field 4 || eqb t.field 12)) (drop 1 t.queue) t.queue) resident

all-changed : (n : ℕ) (f : Task → Task) → ((t : Task) → TakesNone t → TakesNone (f t)) → (ts : List Task) → AllByRecursion TakesNone ts → AllByRecursion TakesNone (map (change_of n f) ts)
all-changed n f each [] all = tt
all-changed n f each (t ∷ ts) all = (on (eqb t.id n), all-changed n f each ts all.1)
  where
    on : (b : Bool) → TakesNone (cond b (f t) t)
    on true = each t all.0
    on false = all.0

work-resumed : (n id : ℕ) (ts : List Task) → AllByRecursion TakesNone ts → work_of n (map (change_of id resumed) ts) ≡ work_of n ts
work-resumed n id [] all = refl
work-resumed n id (t ∷ ts) all = λ i. cond (eqb (number (eqb t.id id) i) n) (packets (eqb t.id id) i) (work-resumed n id ts all.1 i)
  where
    number : (b : Bool) → (cond b (resumed t) t).id ≡ t.id
    number true = refl
    number false = refl

    packets : (b : Bool) → (cond b (resumed t) t).queue ≡ t.queue
    packets true = none-left t all.0
    packets false = refl

dispatched-same : (words : List ℕ) (l : Lists) (r : Regs) → AllByRecursion TakesNone l.tasks → Same l (dispatched words l r).lists
dispatched-same words l r all = three-ways words l r (λ d. Same l d.lists) (λ t g. refl) (λ none. idle) (λ t is. next t)
  where
    m : Lists
    m = with_suspended r l

    beside : Same l m
    beside = ledger-task l l.running (suspended r) (λ t. (refl, refl))

    idle : Same l (with_nobody m).lists
    idle = ledger-same m (with_nobody m).lists (λ n. refl) refl refl refl refl ∙ beside

    next : (t : Task) → Same l (with_resumed words t m).lists
    next t =
        ledger-same m (with_resumed words t m).lists (λ n. work-resumed n t.id m.tasks (all-changed l.running (suspended r) (λ u takes. takes) l.tasks all)) refl refl refl refl
        ∙ beside

module _ (s : Session) (h : HasKernel s) (k : Kernel) (b : HasBegun s k) where
  dispatch-same : Same k.lists (dispatch k).kernel.lists
  unfolding dispatch settled
  dispatch-same = dispatched-same (image k) k.lists k.regs (all-each (IsFresh k.lists.fault_packet_free) TakesNone (λ t fresh. fresh.takes) k.lists.tasks b.ready.fresh.tasks)

  residents-same : (dispatch k).kernel.lists.residents ≡ s.resident
  unfolding dispatch settled
  residents-same = ap (λ n. n.residents) (dispatch-numbers (image k) k.lists k.regs) ∙ ap (λ n. n.residents) b.ready.numbers

-- ---- the boot

first-is : (s : Session) → (first_kernel s).lists ≡ first_lists s
unfolding first_kernel
first-is s = refl

runs-follow : (due : KernelEvent → ℕ) (n : ℕ) (b : Ledger) → Follows (timed_by due (run_events n)) b b
runs-follow due n b = on (eqb n 0)
  where
    on : (c : Bool) → Follows (timed_by due (cond c [] (Runs n ∷ []))) b b
    on true = refl
    on false = (tt, refl)

pub boot-moves : (due : KernelEvent → ℕ) (s : Session) → HasKernel s → (x : Stepped) → boot s ≡ Ok x → Follows (timed_by due x.events) no_packets (ledger_of x.kernel.lists)
unfolding boot
boot-moves due s h x is = subst (λ es. Follows (timed_by due es) no_packets (ledger_of x.kernel.lists)) (sym (booted-events s h x is)) (on (with_lines s.lines (first_kernel s)) refl is)
  where
    on : (r : Result Kernel BootRefusal) → with_lines s.lines (first_kernel s) ≡ r → (r >>= (λ k. Ok (started k))) ≡ Ok x → Follows (timed_by due (boot_events x.kernel)) no_packets (ledger_of x.kernel.lists)
    on (Ok k) e f =
        let same : started k ≡ x = cc in
        let b : HasBegun s k = lines-begun s h (first_kernel s) k (first-begun s) e in
        let n : ℕ = (dispatch k).kernel.lists.running in
        let whole : Same (first_lists s) (dispatch k).kernel.lists = dispatch-same s h k b ∙ lines-same s.version s.lines (first_kernel s) k (boot-lines s h.lawful) e ∙ ap ledger_of (first-is s) in
        subst (λ (y : Stepped). Follows (timed_by due (boot_events y.kernel)) no_packets (ledger_of y.kernel.lists)) same
        (subst (λ (c : Bool). Follows (timed_by due (first_events c ++ run_events n)) no_packets (ledger_of (dispatch k).kernel.lists)) (sym (residents-same s h k b))
        (subst (λ xs. Follows xs no_packets (ledger_of (dispatch k).kernel.lists)) (sym (timed-join due (first_events s.resident) (run_events n)))
        (follows-join (timed_by due (first_events s.resident)) (timed_by due (run_events n)) no_packets (ledger_of (dispatch k).kernel.lists) (ledger_of (dispatch k).kernel.lists)
        (subst (Follows (timed_by due (first_events s.resident)) no_packets) (sym whole) (first-follows due s)) (runs-follow due n (ledger_of (dispatch k).kernel.lists)))))
    on (Err refusal) e f = cc
