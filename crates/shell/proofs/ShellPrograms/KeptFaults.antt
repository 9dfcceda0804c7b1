-- The fault packet waits exactly where some fault was not reported yet: also where the shell clears up, where it starts a program, where
-- that begins, and where the shell's packet is sent.
use Rattle.std.proofs.Common.{◌≡◌, ℕ, ◌≤◌, List, [], ◌∷◌, ◌++◌, map, cond, eqb, leb, ltb, not, ◌&&◌, ◌||◌, Bool, true, false, Result, refl, sym, ap, ◌∙◌, subst}
use Rattle.std.specs.List.{AllByRecursion, flat_map, list_any}
use Rattle.std.proofs.lemmas.Bool.{and_parts, eq-eqb, eqb-true, false≢true, ne_eqb, or_left, or_parts, or_right}
use Rattle.std.proofs.lemmas.List.Folds.{list_any-append}
use Rattle.std.proofs.Math.Bool.{and-false}
use Rattle.kernel_lists.specs.LinkedList.Places.{without_first}
use Rattle.word_store.proofs.Elements.{all-append}
use Rattle.kernel_lists.specs.PacketQueue.QueueWords.{QueuedPacket}
use Rattle.ram_disc.specs.Disc.{Disc}
use Rattle.kernel_model.specs.KernelRecord.Between.{AreValidFaults, Tells, has_unreported, is_unreported}
use Rattle.kernel_model.specs.KernelRecord.Changes.{change_of, with_queue, with_tasks, work_of}
use Rattle.kernel_model.specs.KernelRecord.Lists.{Lists, has_task}
use Rattle.kernel_model.specs.KernelRecord.Residents.{fault_packet}
use Rattle.kernel_model.specs.KernelRecord.Task.{Task, is_guest_id}
use Rattle.kernel_model.specs.KernelRecord.ValidLists.{AreValid}
use Rattle.kernel_model.specs.KernelRecord.ValidQueues.Place.{Work}
use Rattle.kernel_model.proofs.KernelRecord.AllThings.{all-fail}
use Rattle.resident_tasks.proofs.FaultReporter.FaultPacket.{free-is}
use Rattle.kernel_calls.specs.TaskCalls.DeleteTask.{has_packet_out, resident_packets}
use Rattle.kernel_boot.specs.BegunTask.{begun as begun_task}
use Rattle.kernel_model.specs.KernelRecord.StoreWithLists.{StoreWithLists}
use Rattle.kernel_model.specs.declared.kernel_record.numbers.TheConstants.{SHELL_PACKET}
use Rattle.shell.specs.ShellPrograms.ClearedTasks.{cleared}
use Rattle.shell.specs.ShellPrograms.StartedProgram.{begun, start_program}
use Rattle.shell.specs.declared.shell_programs.programs.Priority.{Priority}
use Rattle.kernel_calls.specs.PacketCalls.PacketMoves.{sent_packet}
use Rattle.shell.specs.ShellPrograms.ShellPacket.{posted}
use Rattle.shell.proofs.ShellPrograms.SentRules.{posted-is, queue-with}
use Rattle.shell.proofs.ShellPrograms.KeptRules.{other-number, other-task}
use Rattle.shell.proofs.ShellPrograms.KeptSteps.{AllowsBlocks, AllowsNew, cleared-keeps, started-keeps}
use Rattle.shell.proofs.ShellPrograms.KeptTasks.{all-without, any-changed, any-inserted, any-without, work-changed, work-inserted, work-without}

-- ---- the rule, of the lists

pub tells-more : (ts us : List Task) → ((id : ℕ) → has_unreported id us ≡ has_unreported id ts) → (ps : List QueuedPacket) → AllByRecursion (Tells ts) ps → AllByRecursion (Tells us) ps
tells-more ts us same [] all = tt
tells-more ts us same (p ∷ ps) all = ((λ e. same p.sender ∙ all.0 e), tells-more ts us same ps all.1)

-- where the numbers and the faults of tasks are the same, and the reporter's packets
pub record SameFaults (l m : Lists) : Type 0 where
  pub free : m.fault_packet_free ≡ l.fault_packet_free
  pub there : has_task 2 m.tasks ≡ has_task 2 l.tasks
  pub any : list_any is_unreported m.tasks ≡ list_any is_unreported l.tasks
  pub own : (id : ℕ) → has_unreported id m.tasks ≡ has_unreported id l.tasks
  pub work : work_of 2 m.tasks ≡ work_of 2 l.tasks

pub faults-same : (l m : Lists) → SameFaults l m → AreValidFaults l → AreValidFaults m
faults-same l m x h =
    record {
      waits = λ there. x.free ∙ h.waits (sym x.there ∙ there) ∙ ap not (sym x.any);
      sender = subst (AllByRecursion (Tells m.tasks)) (sym x.work) (tells-more l.tasks m.tasks x.own (work_of 2 l.tasks) h.sender);
    }

-- ---- a program comes

no-fault : (t : Task) → t.fault ≡ 0 → is_unreported t ≡ false
no-fault t e = ap (λ n. leb 1 n && ltb n 256) e

no-own : (id : ℕ) (t : Task) → is_unreported t ≡ false → (eqb t.id id && is_guest_id id && is_unreported t) ≡ false
no-own id t e = ap (λ b. eqb t.id id && is_guest_id id && b) e ∙ and-false (eqb t.id id && is_guest_id id)

faults-new : AllowsNew AreValidFaults
faults-new l t p h =
    faults-same l _
    (record {
      free = refl;
      there = any-inserted _ t (λ u. eqb u.id 2) (other-number t.id 2 p.guest refl) l.tasks;
      any = any-inserted _ t is_unreported (no-fault t p.fault) l.tasks;
      own = λ id. any-inserted _ t (λ u. eqb u.id id && is_guest_id id && is_unreported u) (no-own id t (no-fault t p.fault)) l.tasks;
      work = work-inserted _ t 2 (other-number t.id 2 p.guest refl) l.tasks;
    }) h

faults-beside : AllowsBlocks AreValidFaults
faults-beside l bs ms h = record { waits = h.waits; sender = h.sender }

pub started-faults : (d : Disc) (name : List ℕ) (rest : Result (Unit {0}) ℕ) (pri : Priority) (k : StoreWithLists) → AreValidFaults k.lists → AreValidFaults (start_program d name rest pri k).left.lists
started-faults d name rest pri k h = started-keeps AreValidFaults faults-beside faults-new d name rest pri k h

pub begun-faults : (id : ℕ) (k : StoreWithLists) → AreValidFaults k.lists → AreValidFaults (begun id k).lists
begun-faults n k h =
    let f : Task → Task = begun_task k.lists.version k.words in
    faults-same k.lists (begun n k).lists
    (record {
      free = refl;
      there = any-changed n f (λ t. eqb t.id 2) (λ t. refl) k.lists.tasks;
      any = any-changed n f is_unreported (λ t. refl) k.lists.tasks;
      own = λ id. any-changed n f (λ u. eqb u.id id && is_guest_id id && is_unreported u) (λ t. refl) k.lists.tasks;
      work = work-changed n f (λ t. (refl, refl)) 2 k.lists.tasks;
    }) h

-- ---- a guest goes

-- the fault packet waits where it is on a queue
record FaultsQueued (l : Lists) : Type 0 where
  free : has_task 2 l.tasks ≡ true → l.fault_packet_free ≡ not (list_any (λ q. eqb fault_packet q.address) (work_of 2 l.tasks))
  wait : AreValidFaults l

-- the reporter has no packet from a guest of which none is out
pub none-from : (n : ℕ) (ts : List Task) → list_any (λ p. eqb p.sender n) (flat_map resident_packets ts) ≡ false → AllByRecursion (λ p. eqb p.sender n ≡ false) (work_of 2 ts)
none-from n [] e = tt
none-from n (t ∷ ts) e =
    let parts = or_parts (list_any (λ p. eqb p.sender n) (resident_packets t)) (list_any (λ p. eqb p.sender n) (flat_map resident_packets ts)) (sym (list_any-append (λ p. eqb p.sender n) (resident_packets t) (flat_map resident_packets ts)) ∙ e) in
    on (eqb t.id 2) refl parts.0 (none-from n ts parts.1)
  where
    on : (b : Bool) → eqb t.id 2 ≡ b → list_any (λ p. eqb p.sender n) (resident_packets t) ≡ false → AllByRecursion (λ p. eqb p.sender n ≡ false) (work_of 2 ts)
        → AllByRecursion (λ p. eqb p.sender n ≡ false) (cond b t.queue (work_of 2 ts))
    on true is none rest =
        all-fail (λ p. eqb p.sender n) t.queue (sym (ap (λ b. list_any (λ p. eqb p.sender n) (cond b [] t.queue)) (ap is_guest_id (eqb-true t.id 2 is))) ∙ none)
    on false is none rest = rest

-- a guest with a fault that was not reported is one of the tasks
pub some-own : (id : ℕ) (ts : List Task) → has_unreported id ts ≡ true → list_any is_unreported ts ≡ true
some-own id [] e = e
some-own id (t ∷ ts) e = on (eqb t.id id && is_guest_id id && is_unreported t) refl e (some-own id ts)
  where
    on : (b : Bool) → (eqb t.id id && is_guest_id id && is_unreported t) ≡ b → (b || has_unreported id ts) ≡ true → (has_unreported id ts ≡ true → list_any is_unreported ts ≡ true)
        → (is_unreported t || list_any is_unreported ts) ≡ true
    on true is e more = or_left (is_unreported t) _ (and_parts (eqb t.id id && is_guest_id id) (is_unreported t) is).1
    on false is e more = or_right (is_unreported t) _ (more e)

-- fewer tasks have no more faults
any-fewer : (f g : Task → Bool) (ts : List Task) → list_any g ts ≡ false → list_any g (without_first f ts) ≡ false
any-fewer f g ts e = none-any (without_first f ts) (all-without f (λ t. g t ≡ false) ts (all-fail g ts e))
  where
    none-any : (us : List Task) → AllByRecursion (λ t. g t ≡ false) us → list_any g us ≡ false
    none-any [] all = refl
    none-any (u ∷ us) all = λ i. all.0 i || none-any us all.1 i

module _ (l : Lists) (n : ℕ) (guest : is_guest_id n ≡ true) (out : has_packet_out l n ≡ false) (h : FaultsQueued l) where
  abbrev f : Task → Bool
  f t = eqb t.id n

  abbrev m : Lists
  m = with_tasks (without_first f l.tasks) l

  there-still : has_task 2 m.tasks ≡ has_task 2 l.tasks
  there-still = any-without f (λ t. eqb t.id 2) (other-task n 2 guest refl) l.tasks

  work-still : work_of 2 m.tasks ≡ work_of 2 l.tasks
  work-still = work-without f 2 (other-task n 2 guest refl) l.tasks

  -- who has sent a packet to the reporter stays
  own-still : (id : ℕ) → eqb id n ≡ false → has_unreported id m.tasks ≡ has_unreported id l.tasks
  own-still id other =
      any-without f (λ u. eqb u.id id && is_guest_id id && is_unreported u)
      (λ t e. ap (λ b. b && is_guest_id id && is_unreported t) (ne_eqb t.id id (λ same. absurd (false≢true (sym other ∙ sym (ap (λ i. eqb i n) same) ∙ e))))) l.tasks

  tell-still : (ps : List QueuedPacket) → AllByRecursion (Tells l.tasks) ps → AllByRecursion (λ p. eqb p.sender n ≡ false) ps → AllByRecursion (Tells m.tasks) ps
  tell-still [] tell others = tt
  tell-still (p ∷ ps) tell others = ((λ e. own-still p.sender others.0 ∙ tell.0 e), tell-still ps tell.1 others.1)

  told : AllByRecursion (Tells m.tasks) (work_of 2 l.tasks)
  told =
      tell-still (work_of 2 l.tasks) h.wait.sender
      (none-from n l.tasks
      (or_parts (list_any (λ p. eqb p.sender n) (flat_map resident_packets l.tasks)) (list_any (λ p. eqb p.sender n) (l.clock ++ (l.keyboard ++ (l.output ++ l.pending))))
      (sym (list_any-append (λ p. eqb p.sender n) (flat_map resident_packets l.tasks) (l.clock ++ (l.keyboard ++ (l.output ++ l.pending)))) ∙ out)).0)

  -- where the fault packet waits, its sender has a fault
  sender-still : (ps : List QueuedPacket) → AllByRecursion (Tells m.tasks) ps → list_any (λ q. eqb fault_packet q.address) ps ≡ true → list_any is_unreported m.tasks ≡ true
  sender-still [] tell e = cc
  sender-still (p ∷ ps) tell e = on (eqb fault_packet p.address) refl e (sender-still ps tell.1)
    where
      on : (b : Bool) → eqb fault_packet p.address ≡ b → (b || list_any (λ q. eqb fault_packet q.address) ps) ≡ true
          → (list_any (λ q. eqb fault_packet q.address) ps ≡ true → list_any is_unreported m.tasks ≡ true) → list_any is_unreported m.tasks ≡ true
      on true is e more = some-own p.sender m.tasks (tell.0 (eq-eqb p.address fault_packet (sym (eqb-true fault_packet p.address is))))
      on false is e more = more e

  faults-gone : FaultsQueued m
  faults-gone =
      record {
        free = λ there. h.free (sym there-still ∙ there) ∙ ap (λ ps. not (list_any (λ q. eqb fault_packet q.address) ps)) (sym work-still);
        wait =
            record {
              waits = λ there. on (list_any (λ q. eqb fault_packet q.address) (work_of 2 l.tasks)) refl (sym there-still ∙ there);
              sender = subst (AllByRecursion (Tells m.tasks)) (sym work-still) told;
            };
      }
    where
      none : (b : Bool) → true ≡ not b → b ≡ false
      none true e = cc
      none false e = refl

      on : (b : Bool) → list_any (λ q. eqb fault_packet q.address) (work_of 2 l.tasks) ≡ b → has_task 2 l.tasks ≡ true → l.fault_packet_free ≡ not (list_any is_unreported m.tasks)
      on true waits there = h.free there ∙ ap not (waits ∙ sym (sender-still (work_of 2 l.tasks) told waits))
      on false away there =
          let free : l.fault_packet_free ≡ true = h.free there ∙ ap not away in
          free ∙ ap not (sym (any-fewer f is_unreported l.tasks (none (list_any is_unreported l.tasks) (sym free ∙ h.wait.waits there))))

pub cleared-faults : (k : StoreWithLists) → AreValid k.lists → AreValidFaults k.lists → AreValidFaults (cleared k).lists
cleared-faults k v h =
    (cleared-keeps FaultsQueued (λ l bs ms y. record { free = y.free; wait = record { waits = y.wait.waits; sender = y.wait.sender } }) faults-gone k
    (record {
      free = λ there. free-is k.lists there (list_any (λ q. eqb fault_packet q.address) (work_of 2 k.lists.tasks)) v refl;
      wait = h;
    })).wait

-- ---- the shell's packet is sent

pub all-work : (P : QueuedPacket → Type 0) (n : ℕ) (ps : List QueuedPacket) (ts : List Task) → (n ≡ 2 → AllByRecursion P ps) → AllByRecursion P (work_of 2 ts)
    → AllByRecursion P (work_of 2 (map (change_of n (λ t. record t { queue = ps })) ts))
all-work P n ps [] new all = tt
all-work P n ps (t ∷ ts) new all = on (eqb t.id n) (eqb t.id 2) refl refl all (all-work P n ps ts new)
  where
    u : Task
    u = record t { queue = ps }

    rest : List Task
    rest = map (change_of n (λ t. record t { queue = ps })) ts

    on : (b d : Bool) → eqb t.id n ≡ b → eqb t.id 2 ≡ d → AllByRecursion P (cond d t.queue (work_of 2 ts)) → (AllByRecursion P (work_of 2 ts) → AllByRecursion P (work_of 2 rest))
        → AllByRecursion P (cond (eqb (cond b u t).id 2) (cond b u t).queue (work_of 2 rest))
    on true true e f all more = subst (λ b. AllByRecursion P (cond b ps (work_of 2 rest))) (sym f) (new (sym (eqb-true t.id n e) ∙ eqb-true t.id 2 f))
    on true false e f all more = subst (λ b. AllByRecursion P (cond b ps (work_of 2 rest))) (sym f) (more all)
    on false true e f all more = subst (λ b. AllByRecursion P (cond b t.queue (work_of 2 rest))) (sym f) all
    on false false e f all more = subst (λ b. AllByRecursion P (cond b t.queue (work_of 2 rest))) (sym f) (more all)

pub posted-faults : (to : ℕ) (k : StoreWithLists) → to ≤ 63 → AreValidFaults k.lists → AreValidFaults (posted to k).lists
posted-faults to k low h = subst AreValidFaults (sym (posted-is to k low)) x
  where
    l : Lists
    l = k.lists

    ps : List QueuedPacket
    ps = queue-with to k

    f : Task → Task
    f t = record t { queue = ps }

    after : Lists
    after = with_queue (Work to) ps l

    new : to ≡ 2 → AllByRecursion (Tells l.tasks) ps
    new e =
        all-append (Tells l.tasks) (work_of to l.tasks) (sent_packet k.words l (Work to) SHELL_PACKET 1 ∷ [])
        (subst (λ i. AllByRecursion (Tells l.tasks) (work_of i l.tasks)) (sym e) h.sender) ((λ e. absurd (false≢true e)), tt)

    x : AreValidFaults after
    x =
        record {
          waits = λ there.
              h.waits (sym (any-changed to f (λ t. eqb t.id 2) (λ t. refl) l.tasks) ∙ there)
              ∙ ap not (sym (any-changed to f is_unreported (λ t. refl) l.tasks));
          sender =
              tells-more l.tasks after.tasks (λ id. any-changed to f (λ u. eqb u.id id && is_guest_id id && is_unreported u) (λ t. refl) l.tasks) (work_of 2 after.tasks)
              (all-work (Tells l.tasks) to ps l.tasks new h.sender);
        }
