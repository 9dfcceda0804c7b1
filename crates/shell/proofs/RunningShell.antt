-- The shell still runs: after a call about a task, and after its packet was sent.
use Rattle.std.proofs.Common.{◌≡◌, ℕ, ◌≤◌, Bool, true, false, Option, Some, None, List, [], ◌∷◌, ◌++◌, cond, eqb, nat_lt, refl, sym, ap, ◌∙◌, subst}
use Rattle.std.specs.Prelude.{IfSome, find}
use Rattle.std.specs.List.{AllByRecursion}
use Rattle.kernel_lists.specs.LinkedList.Places.{without_first}
use Rattle.kernel_model.specs.KernelRecord.Changes.{with_task}
use Rattle.kernel_model.specs.KernelRecord.HoldsLists.{HoldsLists}
use Rattle.kernel_model.specs.KernelRecord.Lists.{Lists, has_task}
use Rattle.kernel_model.specs.KernelRecord.MovedTask.{with_priority}
use Rattle.kernel_model.specs.KernelRecord.Running.{RunsIf}
use Rattle.kernel_model.specs.KernelRecord.Task.{Task, is_guest_id}
use Rattle.kernel_model.specs.KernelRecord.ValidLists.{AreValid}
use Rattle.kernel_model.proofs.KernelRecord.AllThings.{all-inserted}
use Rattle.kernel_calls.specs.CallAnswers.Guests.{guest_tests}
use Rattle.kernel_calls.specs.CallAnswers.CallChange.{CallChange, by_refusal, done}
use Rattle.kernel_calls.specs.CallAnswers.Refusals.{first_refusal}
use Rattle.kernel_calls.specs.TaskCalls.ChangePri.{change_pri, moved, priority_tests, with_new_priority}
use Rattle.kernel_calls.specs.TaskCalls.HoldTask.{held, hold, hold_tests}
use Rattle.kernel_calls.specs.TaskCalls.ReleaseTask.{release, release_tests, released}
use Rattle.kernel_calls.specs.TaskCalls.SetFlags.{flagged, set_flags}
use Rattle.kernel_model.specs.KernelRecord.StoreWithLists.{StoreWithLists}
use Rattle.resident_tasks.specs.ResidentRequests.Requests.{RunsResident}
use Rattle.shell.specs.ShellPrograms.ShellPacket.{posted}
use Rattle.shell.proofs.ShellPrograms.KeptTasks.{all-changed, all-without, any-changed}
use Rattle.shell.proofs.ShellPrograms.SentRules.{posted-is}
use Rattle.kernel_model.specs.declared.kernel_record.numbers.TheConstants.{SHELL}

-- ---- one task changes, but for its number and its field

task-runs : (l : Lists) (id : ℕ) (f : Task → Task) → ((t : Task) → (f t).id ≡ t.id) → ((t : Task) → (f t).field ≡ t.field) → RunsResident l → RunsResident (with_task id f l)
task-runs l id f same still r =
    record {
      resident = r.resident;
      there = any-changed id f (λ t. eqb t.id l.running) (λ t. ap (λ i. eqb i l.running) (same t)) l.tasks ∙ r.there;
      field = all-changed id f (RunsIf l.running) (λ t number before e. still t ∙ before (sym (same t) ∙ e)) l.tasks r.field;
    }

-- ---- a task moves in the chain

found-runs : (running : ℕ) (f : Task → Bool) (ts : List Task) → AllByRecursion (RunsIf running) ts → IfSome (find f ts) (RunsIf running)
found-runs running f [] all = tt
found-runs running f (t ∷ ts) all = on (f t) (found-runs running f ts all.1)
  where
    on : (b : Bool) → IfSome (find f ts) (RunsIf running) → IfSome (cond b (Some t) (find f ts)) (RunsIf running)
    on true more = all.0
    on false more = more

moved-running : (l : Lists) (pri : ℕ) (o : Option Task) (others : List Task) → (moved pri o others l).running ≡ l.running
moved-running l pri None others = refl
moved-running l pri (Some t) others = refl

moved-residents : (l : Lists) (pri : ℕ) (o : Option Task) (others : List Task) → (moved pri o others l).residents ≡ l.residents
moved-residents l pri None others = refl
moved-residents l pri (Some t) others = refl

moved-fields : (l : Lists) (pri : ℕ) (o : Option Task) (others : List Task) → IfSome o (RunsIf l.running) → AllByRecursion (RunsIf l.running) others → AllByRecursion (RunsIf l.running) l.tasks
    → AllByRecursion (RunsIf l.running) (moved pri o others l).tasks
moved-fields l pri None others one rest all = all
moved-fields l pri (Some t) others one rest all = all-inserted (RunsIf l.running) (λ u. nat_lt pri u.priority) (with_priority pri t) others one rest

-- ---- a call about a task

-- the shell is there where the residents are
shell-there : (l m : Lists) → AreValid l → AreValid m → m.residents ≡ l.residents → l.running ≡ SHELL → RunsResident l → has_task SHELL m.tasks ≡ true
shell-there l m v w same is r = w.tasks.shell ∙ same ∙ sym v.tasks.shell ∙ ap (λ i. has_task i l.tasks) (sym is) ∙ r.there

-- what a call makes, where it is refused or not
abbrev made : Option ℕ → Lists → Lists → CallChange
made o l m = by_refusal o l (done m)

pub made-events : (o : Option ℕ) (l m : Lists) → (made o l m).events ≡ []
made-events None l m = refl
made-events (Some code) l m = refl

made-runs : (o : Option ℕ) (l m : Lists) → RunsResident l → RunsResident m → RunsResident (made o l m).lists
made-runs None l m r x = x
made-runs (Some code) l m r x = r

made-running : (o : Option ℕ) (l m : Lists) → m.running ≡ l.running → (made o l m).lists.running ≡ l.running
made-running None l m e = e
made-running (Some code) l m e = refl

-- The shell goes on running, and the call has no events.
pub record GoesOn (l : Lists) (m : CallChange) : Type 0 where
  pub runs : RunsResident m.lists
  pub running : m.lists.running ≡ l.running
  pub events : m.events ≡ []

one-goes : (l : Lists) (o : Option ℕ) (id : ℕ) (f : Task → Task) → ((t : Task) → (f t).id ≡ t.id) → ((t : Task) → (f t).field ≡ t.field) → RunsResident l → GoesOn l (made o l (with_task id f l))
one-goes l o id f same still r = record {
  runs = made-runs o l (with_task id f l) r (task-runs l id f same still r);
  running = made-running o l (with_task id f l) refl;
  events = made-events o l (with_task id f l);
}

pub hold-goes : (l : Lists) (id : ℕ) → RunsResident l → GoesOn l (hold l id)
hold-goes l id r = one-goes l (first_refusal (hold_tests l id)) id held (λ t. refl) (λ t. refl) r

pub release-goes : (l : Lists) (id : ℕ) → RunsResident l → GoesOn l (release l id)
release-goes l id r = one-goes l (first_refusal (release_tests l id)) id released (λ t. refl) (λ t. refl) r

pub flags-goes : (l : Lists) (id flags : ℕ) → RunsResident l → GoesOn l (set_flags l id flags)
flags-goes l id flags r = one-goes l (first_refusal (guest_tests l id)) id (flagged flags) (λ t. refl) (λ t. refl) r

pub pri-goes : (s t : List ℕ) (l : Lists) (id pri : ℕ) → HoldsLists s l → HoldsLists t (change_pri l id pri).lists → l.running ≡ SHELL → RunsResident l → GoesOn l (change_pri l id pri)
pri-goes s t l id pri h k is r =
    record {
      runs = record {
        resident = ap is_guest_id still ∙ r.resident;
        there = ap (λ i. has_task i (change_pri l id pri).lists.tasks) (still ∙ is) ∙ shell-there l (change_pri l id pri).lists h.valid k.valid (on_residents o) is r;
        field = subst (λ i. AllByRecursion (RunsIf i) (change_pri l id pri).lists.tasks) (sym still) (on_fields o);
      };
      running = still;
      events = made-events o l m;
    }
  where
    o : Option ℕ
    o = first_refusal (guest_tests l id ++ priority_tests l id pri)

    m : Lists
    m = with_new_priority id pri l

    still : (change_pri l id pri).lists.running ≡ l.running
    still = made-running o l m (moved-running l pri (find (λ t. eqb t.id id) l.tasks) (without_first (λ t. eqb t.id id) l.tasks))

    on_residents : (o : Option ℕ) → (made o l m).lists.residents ≡ l.residents
    on_residents None = moved-residents l pri (find (λ t. eqb t.id id) l.tasks) (without_first (λ t. eqb t.id id) l.tasks)
    on_residents (Some code) = refl

    on_fields : (o : Option ℕ) → AllByRecursion (RunsIf l.running) (made o l m).lists.tasks
    on_fields None = moved-fields l pri (find (λ t. eqb t.id id) l.tasks) (without_first (λ t. eqb t.id id) l.tasks) (found-runs l.running (λ t. eqb t.id id) l.tasks r.field) (all-without (λ t. eqb t.id id) (RunsIf l.running) l.tasks r.field) r.field
    on_fields (Some code) = r.field

-- ---- its packet is sent

pub posted-running : (to : ℕ) (k : StoreWithLists) → to ≤ 63 → (posted to k).lists.running ≡ k.lists.running
posted-running to k low = ap (λ (l : Lists). l.running) (posted-is to k low)
