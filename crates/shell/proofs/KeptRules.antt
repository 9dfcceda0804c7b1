-- What a turn of the shell keeps of the lists: all but the blocks, the modules and the tasks; that the task that runs alone has the
-- field of one that runs; and the rule of the fault packet.
use Rattle.std.proofs.Common.{◌≡◌, ℕ, ◌&&◌, ◌||◌, Bool, true, false, not, cond, eqb, leb, ltb, nat_lt, Option, Some, None, Err, List, [], ◌∷◌, ◌++◌, refl, sym, ap, ◌∙◌, subst, arith}
use Rattle.std.specs.Prelude.{find}
use Rattle.std.specs.List.{AllByRecursion, list_any}
use Rattle.std.proofs.lemmas.Bool.{eqb-true, false≢true}
use Rattle.kernel_lists.specs.LinkedList.Places.{insert_after, without_first}
use Rattle.word_store.proofs.Elements.{all-append, find-passes}
use Rattle.word_store.specs.declared.registers.Regs.{Regs}
use Rattle.kernel_lists.specs.PacketQueue.QueueWords.{QueuedPacket}
use Rattle.kernel_model.specs.KernelRecord.Between.{AreValidFaults, Tells, is_unreported}
use Rattle.kernel_model.specs.KernelRecord.Changes.{with_queue, with_task, with_tasks, work_of}
use Rattle.kernel_model.specs.KernelRecord.Kernel.{Shell}
use Rattle.kernel_model.specs.KernelRecord.Lists.{Lists, has_task}
use Rattle.kernel_model.specs.KernelRecord.MovedTask.{with_moved_task, with_priority}
use Rattle.kernel_model.specs.KernelRecord.Residents.{fault_packet}
use Rattle.kernel_model.specs.KernelRecord.Running.{RunsAs}
use Rattle.kernel_model.specs.KernelRecord.Task.{Task, is_guest_id}
use Rattle.kernel_model.specs.KernelRecord.ValidLists.{AreValid}
use Rattle.kernel_model.specs.KernelRecord.ValidQueues.{IsValidPacket}
use Rattle.kernel_model.specs.KernelRecord.ValidQueues.Place.{Work}
use Rattle.kernel_model.specs.KernelRecord.ValidTasks.{runs}
use Rattle.kernel_model.proofs.KernelRecord.AllThings.{all-inserted}
use Rattle.kernel_model.proofs.KernelRecord.EachMember.{all-each}
use Rattle.kernel_model.proofs.KernelRecord.QueuePlaces.{valid-at-place}
use Rattle.ram_disc.specs.Disc.{Disc}
use Rattle.kernel_model.specs.KernelDispatch.Dispatch.{CanDispatch}
use Rattle.kernel_calls.specs.CallAnswers.Guests.{guest_tests}
use Rattle.kernel_calls.specs.CallAnswers.CallChange.{by_refusal, done}
use Rattle.kernel_calls.specs.CallAnswers.Refusals.{first_refusal}
use Rattle.kernel_calls.specs.PacketCalls.TaskWait.{waiting}
use Rattle.kernel_calls.specs.TaskCalls.ChangePri.{change_pri, moved, priority_tests, with_new_priority}
use Rattle.kernel_calls.specs.TaskCalls.HoldTask.{held, hold, hold_tests}
use Rattle.kernel_calls.specs.TaskCalls.ReleaseTask.{release, release_tests, released}
use Rattle.kernel_calls.specs.TaskCalls.SetFlags.{flagged, set_flags}
use Rattle.kernel_model.specs.KernelRecord.StoreWithLists.{StoreWithLists, store_with_lists}
use Rattle.resident_tasks.specs.ResidentRequests.Answers.{answered_packet, finished, finished_by, returned}
use Rattle.resident_tasks.specs.ResidentRequests.Requests.{RunsResident, taken, taken_from, work}
use Rattle.resident_tasks.specs.declared.resident_requests.requests.Request.{Request}
use Rattle.shell.specs.ShellPrograms.ClearedTasks.{cleared}
use Rattle.shell.specs.ShellPrograms.KeptLists.{KeepsResidents, ResidentAlone}
use Rattle.shell.proofs.ShellPrograms.KeptFaults.{all-work, begun-faults, cleared-faults, faults-same, posted-faults, started-faults, tells-more}
use Rattle.shell.proofs.ShellPrograms.KeptRules.{begun-alone, begun-residents, cleared-alone, cleared-residents, other-number, other-task, started-alone, started-residents}
use Rattle.shell.proofs.ShellPrograms.KeptTasks.{all-changed, all-without, any-changed, work-changed, work-inserted, work-without}
use Rattle.shell.proofs.ShellPrograms.SentRules.{posted-alone, posted-is}
use Rattle.kernel_model.specs.declared.kernel_record.numbers.TheConstants.{SHELL}
use Rattle.shell.specs.ShellTurn.{shell_turn}
use Rattle.shell.proofs.KeptTurns.{Allows, turn-keeps}
use Rattle.kernel_model.proofs.KernelRecord.MovedTask.{or-swap}
use Rattle.resident_tasks.proofs.FaultReporter.FaultsKept.{queue-faults}

-- ---- the parts that change tasks alone

-- a change of a task that leaves its number, its fault and its queue, and after which it runs only where it ran
record IsLight (f : Task → Task) : Type 0 where
  pub id : (t : Task) → (f t).id ≡ t.id
  pub fault : (t : Task) → (f t).fault ≡ t.fault
  pub queue : (t : Task) → (f t).queue ≡ t.queue
  pub field : (t : Task) → (f t).field ≡ runs → t.field ≡ runs

-- the chain with the task in another place
abbrev moved_chain : ℕ → Task → List Task → List Task
moved_chain pri t ts = insert_after (λ u. nat_lt pri u.priority) (with_priority pri t) (without_first (λ u. eqb u.id t.id) ts)

-- What holds of lists goes over where one task changes so, where a guest moves in the chain, and where a queue gets fewer packets.
record AllowsTasks (P : Lists → Type 0) : Type 0 where
  pub one : (l : Lists) (id : ℕ) (f : Task → Task) → IsLight f → P l → P (with_task id f l)
  pub move : (l : Lists) (pri : ℕ) (t : Task) → is_guest_id t.id ≡ true → find (λ u. eqb u.id t.id) l.tasks ≡ Some t → P l → P (with_tasks (moved_chain pri t l.tasks) l)

module _ (P : Lists → Type 0) (h : AllowsTasks P) where
  one-refused : (o : Option ℕ) (l : Lists) (id : ℕ) (f : Task → Task) → IsLight f → P l → P (by_refusal o l (done (with_task id f l))).lists
  one-refused None l id f same p = h.one l id f same p
  one-refused (Some code) l id f same p = p

  hold-keeps : (l : Lists) (id : ℕ) → P l → P (hold l id).lists
  hold-keeps l id p = one-refused (first_refusal (hold_tests l id)) l id held (record { id = λ t. refl; fault = λ t. refl; queue = λ t. refl; field = λ t e. e }) p

  release-keeps : (l : Lists) (id : ℕ) → P l → P (release l id).lists
  release-keeps l id p = one-refused (first_refusal (release_tests l id)) l id released (record { id = λ t. refl; fault = λ t. refl; queue = λ t. refl; field = λ t e. e }) p

  flags-keeps : (l : Lists) (id flags : ℕ) → P l → P (set_flags l id flags).lists
  flags-keeps l id flags p = one-refused (first_refusal (guest_tests l id)) l id (flagged flags) (record { id = λ t. refl; fault = λ t. refl; queue = λ t. refl; field = λ t e. e }) p

  priority-keeps : (l : Lists) (id pri : ℕ) → P l → P (change_pri l id pri).lists
  priority-keeps l id pri p = on (first_refusal (guest_tests l id ++ priority_tests l id pri)) refl
    where
      guest : (o : Option ℕ) → first_refusal (guest_tests l id ++ priority_tests l id pri) ≡ o → o ≡ None → is_guest_id id ≡ true
      guest o e none = accepted (has_task id l.tasks) (is_guest_id id) (e ∙ none)
        where
          accepted : (b c : Bool) → first_refusal ((b, 2) ∷ (c, 14) ∷ priority_tests l id pri) ≡ None → c ≡ true
          accepted true true k = refl
          accepted true false k = cc
          accepted false c k = cc

      found : (o : Option Task) → find (λ u. eqb u.id id) l.tasks ≡ o → is_guest_id id ≡ true → P (moved pri o (without_first (λ u. eqb u.id id) l.tasks) l)
      found None e g = p
      found (Some t) e g =
          let number : t.id ≡ id = eqb-true t.id id (find-passes (λ u. eqb u.id id) l.tasks t e) in
          subst (λ i. P (with_moved_task pri t (without_first (λ u. eqb u.id i) l.tasks) l)) number
          (h.move l pri t (ap is_guest_id number ∙ g) (subst (λ i. find (λ u. eqb u.id i) l.tasks ≡ Some t) (sym number) e) p)

      on : (o : Option ℕ) → first_refusal (guest_tests l id ++ priority_tests l id pri) ≡ o → P (by_refusal o l (done (with_new_priority id pri l))).lists
      on None e = found (find (λ u. eqb u.id id) l.tasks) refl (guest None e refl)
      on (Some code) e = p

  end-keeps : (l : Lists) → P l → P (finished l)
  end-keeps l p = on (work l)
    where
      on : (ps : List QueuedPacket) → P (finished_by ps l)
      on [] = h.one l l.running waiting (record { id = λ t. refl; fault = λ t. refl; queue = λ t. refl; field = λ t e. absurd (omega (arith, e)) }) p
      on (q ∷ qs) = p

-- ---- all but the blocks, the modules and the tasks stays

abbrev Rest : Lists → Lists → Type 0
Rest l m = m ≡ record l { blocks = m.blocks; modules = m.modules; tasks = m.tasks }

module _ (l : Lists) where
  rest-tasks : (m : Lists) (ts : List Task) → Rest l m → Rest l (with_tasks ts m)
  rest-tasks m ts e = λ i. with_tasks ts (e i)

  rest-then : (m n : Lists) → KeepsResidents m n → Rest l m → Rest l n
  rest-then m n k e = k.rest ∙ (λ i. record (e i) { blocks = n.blocks; modules = n.modules; tasks = n.tasks })

  rest-changes : AllowsTasks (Rest l)
  rest-changes = record { one = λ m id f same e. rest-tasks m _ e; move = λ m pri t guest is e. rest-tasks m _ e }

  rest-taken : (m : Lists) (ps : List QueuedPacket) → Rest l m → Rest l (taken_from ps m).lists
  rest-taken m [] e = e
  rest-taken m (p ∷ ps) e = rest-tasks m _ e

  rest-allows : Allows (Rest l) (Rest l)
  rest-allows =
      record {
        at_taking = λ m e. rest-taken m (work m) e;
        at_refusal = λ m r p ps is same e. rest-tasks (taken m).lists _ (rest-taken m (work m) e);
        at_sending = λ to k low e. subst (Rest l) (sym (posted-is to k low)) (rest-tasks k.lists _ e);
        at_start = λ d name rest pri k e. rest-then k.lists _ (started-residents d name rest pri k) e;
        at_beginning = λ id k guest e. rest-then k.lists _ (begun-residents id k) e;
        at_hold = hold-keeps (Rest l) rest-changes;
        at_release = release-keeps (Rest l) rest-changes;
        at_priority = priority-keeps (Rest l) rest-changes;
        at_flags = flags-keeps (Rest l) rest-changes;
        at_end = end-keeps (Rest l) rest-changes;
      }

pub turn-rest : (s : List ℕ) (l : Lists) (sh : Shell) (d : Disc) → Rest l (shell_turn s l sh d).store.lists
turn-rest s l sh d = turn-keeps (Rest l) (Rest l) (rest-allows l) s l sh d refl (cleared-residents (store_with_lists s l)).rest

-- ---- the task that runs alone has the field of one that runs

find-all : (f : Task → Bool) (ts : List Task) (t : Task) (n : ℕ) → find f ts ≡ Some t → AllByRecursion (RunsAs n) ts → RunsAs n t
find-all f [] t n e all = cc
find-all f (u ∷ us) t n e all = on (f u) e (λ is. find-all f us t n is all.1)
  where
    on : (b : Bool) → cond b (Some u) (find f us) ≡ Some t → (find f us ≡ Some t → RunsAs n t) → RunsAs n t
    on true is more = (let same : u ≡ t = cc in subst (RunsAs n) same all.0)
    on false is more = more is

alone-tasks : (m : Lists) (ts : List Task) → ResidentAlone m → AllByRecursion (RunsAs m.running) ts → ResidentAlone (with_tasks ts m)
alone-tasks m ts r all = record { resident = r.resident; field = all }

alone-changes : AllowsTasks ResidentAlone
alone-changes =
    record {
      one = λ m id f same r. alone-tasks m _ r (all-changed id f (RunsAs m.running) (λ t e before e'. same.id t ∙ before (same.field t e')) m.tasks r.field);
      move = λ m pri t guest is r.
          alone-tasks m _ r
          (all-inserted (RunsAs m.running) (λ u. nat_lt pri u.priority) (with_priority pri t) (without_first (λ u. eqb u.id t.id) m.tasks) (find-all (λ u. eqb u.id t.id) m.tasks t m.running is r.field)
          (all-without (λ u. eqb u.id t.id) (RunsAs m.running) m.tasks r.field));
    }

alone-work : (m : Lists) (id : ℕ) (ps : List QueuedPacket) → ResidentAlone m → ResidentAlone (with_queue (Work id) ps m)
alone-work m id ps r = alone-tasks m _ r (all-changed id (λ t. record t { queue = ps }) (RunsAs m.running) (λ t e before. before) m.tasks r.field)

alone-taken : (m : Lists) (ps : List QueuedPacket) → ResidentAlone m → ResidentAlone (taken_from ps m).lists
alone-taken m [] r = r
alone-taken m (p ∷ ps) r = alone-work m m.running ps r

alone-allows : Allows ResidentAlone ResidentAlone
alone-allows =
    record {
      at_taking = λ m r. alone-taken m (work m) r;
      at_refusal = λ m q p ps is same r. alone-work (taken m).lists q.sender _ (alone-taken m (work m) r);
      at_sending = posted-alone;
      at_start = started-alone;
      at_beginning = λ id k guest r. begun-alone id k r;
      at_hold = hold-keeps ResidentAlone alone-changes;
      at_release = release-keeps ResidentAlone alone-changes;
      at_priority = priority-keeps ResidentAlone alone-changes;
      at_flags = flags-keeps ResidentAlone alone-changes;
      at_end = end-keeps ResidentAlone alone-changes;
    }

pub turn-alone : (s : List ℕ) (l : Lists) (sh : Shell) (d : Disc) → ResidentAlone l → ResidentAlone (shell_turn s l sh d).store.lists
turn-alone s l sh d r = turn-keeps ResidentAlone ResidentAlone alone-allows s l sh d r (cleared-alone (store_with_lists s l) r)

-- a dispatch may follow
pub turn-dispatches : (s : List ℕ) (l : Lists) (sh : Shell) (d : Disc) (r : Regs) → RunsResident l → CanDispatch l r → CanDispatch (shell_turn s l sh d).store.lists r
turn-dispatches s l sh d r runs c =
    let still : (shell_turn s l sh d).store.lists.running ≡ l.running = ap (λ (m : Lists). m.running) (turn-rest s l sh d) in
    record { field = (turn-alone s l sh d (record { resident = runs.resident; field = c.field })).field; registers = record { byte = c.registers.byte; idle = λ e. c.registers.idle (ap is_guest_id (sym still) ∙ e) } }

-- ---- the fault packet waits where some fault was not reported yet

module _ (g : Task → Bool) where
  any-come : (f : Task → Bool) (t : Task) (ts : List Task) → list_any g (insert_after f t ts) ≡ (g t || list_any g ts)
  any-come f t [] = refl
  any-come f t (u ∷ us) = on (list_any f (u ∷ us)) (any-come f t us)
    where
      on : (b : Bool) → list_any g (insert_after f t us) ≡ (g t || list_any g us) → list_any g (cond b (u ∷ insert_after f t us) (t ∷ u ∷ us)) ≡ (g t || (g u || list_any g us))
      on true more = ap (λ b. g u || b) more ∙ or-swap (g u) (g t) (list_any g us)
      on false more = refl

  any-gone : (f : Task → Bool) (t : Task) (ts : List Task) → find f ts ≡ Some t → (g t || list_any g (without_first f ts)) ≡ list_any g ts
  any-gone f t [] e = cc
  any-gone f t (u ∷ us) e = on (f u) e (any-gone f t us)
    where
      on : (b : Bool) → cond b (Some u) (find f us) ≡ Some t → (find f us ≡ Some t → (g t || list_any g (without_first f us)) ≡ list_any g us)
          → (g t || list_any g (cond b us (u ∷ without_first f us))) ≡ (g u || list_any g us)
      on true is more = (let same : t ≡ u = cc in ap (λ v. g v || list_any g us) same)
      on false is more = or-swap (g t) (g u) (list_any g (without_first f us)) ∙ ap (λ b. g u || b) (more is)

  any-moved : (pri : ℕ) (t : Task) (ts : List Task) → g (with_priority pri t) ≡ g t → find (λ u. eqb u.id t.id) ts ≡ Some t → list_any g (moved_chain pri t ts) ≡ list_any g ts
  any-moved pri t ts same is =
      any-come (λ u. nat_lt pri u.priority) (with_priority pri t) (without_first (λ u. eqb u.id t.id) ts)
      ∙ ap (λ b. b || list_any g (without_first (λ u. eqb u.id t.id) ts)) same ∙ any-gone (λ u. eqb u.id t.id) t ts is

-- without a task that reports faults nothing is asked
no-work : (ts : List Task) → has_task 2 ts ≡ false → work_of 2 ts ≡ []
no-work [] none = refl
no-work (t ∷ ts) none = on (eqb t.id 2) none (no-work ts)
  where
    on : (b : Bool) → (b || has_task 2 ts) ≡ false → (has_task 2 ts ≡ false → work_of 2 ts ≡ []) → cond b t.queue (work_of 2 ts) ≡ []
    on true e more = cc
    on false e more = more e

absent : (l : Lists) → has_task 2 l.tasks ≡ false → AreValidFaults l
absent l none = record { waits = λ there. absurd (false≢true (sym none ∙ there)); sender = subst (AllByRecursion (Tells l.tasks)) (sym (no-work l.tasks none)) tt }

faults-one : (l : Lists) (n : ℕ) (f : Task → Task) → IsLight f → AreValidFaults l → AreValidFaults (with_task n f l)
faults-one l n f same h =
    faults-same l (with_task n f l)
    (record {
      free = refl;
      there = any-changed n f (λ t. eqb t.id 2) (λ t. ap (λ i. eqb i 2) (same.id t)) l.tasks;
      any = any-changed n f is_unreported (λ t. ap (λ w. leb 1 w && ltb w 256) (same.fault t)) l.tasks;
      own = λ id.
          any-changed n f (λ u. eqb u.id id && is_guest_id id && is_unreported u) (λ t. λ i. eqb (same.id t i) id && is_guest_id id && (leb 1 (same.fault t i) && ltb (same.fault t i) 256)) l.tasks;
      work = work-changed n f (λ t. (same.id t, same.queue t)) 2 l.tasks;
    }) h

faults-move : (l : Lists) (pri : ℕ) (t : Task) → is_guest_id t.id ≡ true → find (λ u. eqb u.id t.id) l.tasks ≡ Some t → AreValidFaults l → AreValidFaults (with_tasks (moved_chain pri t l.tasks) l)
faults-move l pri t guest is h =
    faults-same l (with_tasks (moved_chain pri t l.tasks) l)
    (record {
      free = refl;
      there = any-moved (λ u. eqb u.id 2) pri t l.tasks refl is;
      any = any-moved is_unreported pri t l.tasks refl is;
      own = λ id. any-moved (λ u. eqb u.id id && is_guest_id id && is_unreported u) pri t l.tasks refl is;
      work =
          work-inserted (λ u. nat_lt pri u.priority) (with_priority pri t) 2 (other-number t.id 2 guest refl) (without_first (λ u. eqb u.id t.id) l.tasks)
          ∙ work-without (λ u. eqb u.id t.id) 2 (other-task t.id 2 guest refl) l.tasks;
    }) h

-- none of the shell's packets is the fault packet
record Begins (l : Lists) : Type 0 where
  pub faults : AreValidFaults l
  pub others : has_task 2 l.tasks ≡ true → AllByRecursion (λ p. eqb p.address fault_packet ≡ false) (work l)
  pub is : l.running ≡ SHELL

waits-changes : AllowsTasks AreValidFaults
waits-changes =
    record {
      one = faults-one;
      move = faults-move;
    }

waits-taken : (l : Lists) (ps : List QueuedPacket) → l.running ≡ SHELL → AreValidFaults l → AreValidFaults (taken_from ps l).lists
waits-taken l [] is h = h
waits-taken l (p ∷ ps) is h = queue-faults l l.running ps (λ e. absurd (omega (arith, e, is))) h

taken-has : (l : Lists) (ps : List QueuedPacket) → has_task 2 (taken_from ps l).lists.tasks ≡ has_task 2 l.tasks
taken-has l [] = refl
taken-has l (p ∷ ps) = any-changed l.running (λ t. record t { queue = ps }) (λ t. eqb t.id 2) (λ t. refl) l.tasks

waits-refused : (l : Lists) (r : Request) (p : QueuedPacket) (ps : List QueuedPacket) → work l ≡ p ∷ ps → r.packet ≡ p.address → Begins l → AreValidFaults (returned (taken l).lists r (Err 31)).lists
waits-refused l r p ps is same h = on (has_task 2 l.tasks) refl
  where
    m : Lists
    m = (taken l).lists

    q : QueuedPacket
    q = answered_packet m r (Err 31)

    qs : List QueuedPacket
    qs = work_of r.sender m.tasks ++ q ∷ []

    before : AreValidFaults m
    before = waits-taken l (work l) h.is h.faults

    on : (b : Bool) → has_task 2 l.tasks ≡ b → AreValidFaults (with_queue (Work r.sender) qs m)
    on true there =
        queue-faults m r.sender qs
        (λ e.
        all-append (Tells m.tasks) (work_of r.sender m.tasks) (q ∷ []) (subst (λ i. AllByRecursion (Tells m.tasks) (work_of i m.tasks)) (sym e) before.sender)
        ((λ fault. absurd (false≢true (sym (subst (AllByRecursion (λ z. eqb z.address fault_packet ≡ false)) is (h.others there)).0 ∙ ap (λ a. eqb a fault_packet) (sym same) ∙ fault))), tt)) before
    on false none =
        absent (with_queue (Work r.sender) qs m)
        (any-changed r.sender (λ t. record t { queue = qs }) (λ t. eqb t.id 2) (λ t. refl) m.tasks ∙ taken-has l (work l) ∙ none)

waits-allows : Allows Begins AreValidFaults
waits-allows =
    record {
      at_taking = λ l h. waits-taken l (work l) h.is h.faults;
      at_refusal = waits-refused;
      at_sending = posted-faults;
      at_start = started-faults;
      at_beginning = λ id j guest h. begun-faults id j h;
      at_hold = hold-keeps AreValidFaults waits-changes;
      at_release = release-keeps AreValidFaults waits-changes;
      at_priority = priority-keeps AreValidFaults waits-changes;
      at_flags = flags-keeps AreValidFaults waits-changes;
      at_end = end-keeps AreValidFaults waits-changes;
    }

-- the fault packet is none of the shell's
none-fault : (l : Lists) → AreValid l → RunsResident l → l.running ≡ SHELL → has_task 2 l.tasks ≡ true → AllByRecursion (λ p. eqb p.address fault_packet ≡ false) (work l)
none-fault l v r is there = all-each (IsValidPacket l (Work l.running)) (λ p. eqb p.address fault_packet ≡ false) each (work l) (valid-at-place l (Work l.running) v r.there)
  where
    each : (p : QueuedPacket) → IsValidPacket l (Work l.running) p → eqb p.address fault_packet ≡ false
    each p may = on (eqb p.address fault_packet) refl
      where
        on : (b : Bool) → eqb p.address fault_packet ≡ b → b ≡ false
        on false e = refl
        on true e = (let place = (may.fault (λ i. there i && e i)).place in let two : l.running ≡ 2 = cc in absurd (omega (arith, two, is)))

pub turn-faults : (s : List ℕ) (l : Lists) (sh : Shell) (d : Disc) → AreValid l → RunsResident l → l.running ≡ SHELL → AreValidFaults l → AreValidFaults (shell_turn s l sh d).store.lists
turn-faults s l sh d v r is h =
    let start : StoreWithLists = store_with_lists s l in
    let kept = cleared-residents start in
    let still : (cleared start).lists.running ≡ l.running = ap (λ (m : Lists). m.running) kept.rest in
    turn-keeps Begins AreValidFaults waits-allows s l sh d h
    (record {
      faults = cleared-faults start v h;
      others = λ there.
          subst (AllByRecursion (λ p. eqb p.address fault_packet ≡ false)) (sym (ap (λ i. work_of i (cleared start).lists.tasks) still ∙ kept.work l.running r.resident))
          (none-fault l v r is (sym (kept.there 2 refl) ∙ there));
      is = still ∙ is;
    })
