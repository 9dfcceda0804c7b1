-- The rules that stay where the shell clears up, where it starts a program, and where that begins.
use Rattle.std.proofs.Common.{◌≡◌, ℕ, List, ◌++◌, eqb, true, false, Result, refl, sym, ap, ◌∙◌, subst, arith}
use Rattle.std.specs.Prelude.{nat_lt}
use Rattle.std.specs.List.{AllByRecursion}
use Rattle.std.proofs.lemmas.Bool.{eqb-true, false≢true, ne_eqb}
use Rattle.kernel_lists.specs.LinkedList.Places.{insert_after, without_first}
use Rattle.ram_disc.specs.Disc.{Disc}
use Rattle.kernel_model.specs.KernelRecord.Lists.{Lists, has_task, queued}
use Rattle.kernel_model.specs.KernelRecord.Task.{Task, is_guest_id}
use Rattle.kernel_model.specs.KernelRecord.ValidTasks.{dead, interrupted, runs}
use Rattle.kernel_model.proofs.KernelRecord.AllThings.{all-inserted}
use Rattle.kernel_boot.specs.BegunTask.{begun as begun_task}
use Rattle.kernel_model.specs.KernelRecord.StoreWithLists.{StoreWithLists}
use Rattle.resident_tasks.specs.ResidentRequests.Requests.{RunsResident}
use Rattle.shell.specs.ShellPrograms.ClearedTasks.{cleared}
use Rattle.shell.specs.ShellPrograms.KeptLists.{KeepsResidents, ResidentAlone}
use Rattle.shell.specs.ShellPrograms.StartedProgram.{begun, start_program}
use Rattle.shell.specs.declared.shell_programs.programs.Priority.{Priority}
use Rattle.shell.proofs.ShellPrograms.KeptSteps.{AllowsBlocks, AllowsGone, AllowsNew, cleared-keeps, started-keeps}
use Rattle.shell.proofs.ShellPrograms.KeptTasks.{all-changed, all-without, any-changed, any-inserted, any-without, queues-changed, queues-inserted, work-changed, work-inserted, work-without}

-- the number of a guest is no resident's
pub other-number : (n id : ℕ) → is_guest_id n ≡ true → is_guest_id id ≡ false → eqb n id ≡ false
other-number n id guest resident = ne_eqb n id (λ e. absurd (false≢true (sym resident ∙ sym (ap is_guest_id e) ∙ guest)))

-- nor that of a task with the guest's number
pub other-task : (n id : ℕ) → is_guest_id n ≡ true → is_guest_id id ≡ false → (t : Task) → eqb t.id n ≡ true → eqb t.id id ≡ false
other-task n id guest resident t e = other-number t.id id (ap is_guest_id (eqb-true t.id n e) ∙ guest) resident

-- ---- the residents stay

module _ (l : Lists) where
  resident-blocks : AllowsBlocks (KeepsResidents l)
  resident-blocks m bs ms h = record { rest = ap (λ (z : Lists). record z { blocks = bs; modules = ms }) h.rest; there = h.there; work = h.work }

  resident-gone : AllowsGone (KeepsResidents l)
  resident-gone m n guest out h =
      record {
        rest = ap (λ (z : Lists). record z { tasks = without_first (λ t. eqb t.id n) m.tasks }) h.rest;
        there = λ id resident. any-without (λ t. eqb t.id n) (λ t. eqb t.id id) (other-task n id guest resident) m.tasks ∙ h.there id resident;
        work = λ id resident. work-without (λ t. eqb t.id n) id (other-task n id guest resident) m.tasks ∙ h.work id resident;
      }

  resident-new : AllowsNew (KeepsResidents l)
  resident-new m t p h =
      record {
        rest = ap (λ (z : Lists). record z { tasks = insert_after (λ u. nat_lt t.priority u.priority) t m.tasks }) h.rest;
        there = λ id resident. any-inserted _ t (λ u. eqb u.id id) (other-number t.id id p.guest resident) m.tasks ∙ h.there id resident;
        work = λ id resident. work-inserted _ t id (other-number t.id id p.guest resident) m.tasks ∙ h.work id resident;
      }

  resident-same : KeepsResidents l l
  resident-same = record { rest = refl; there = λ id resident. refl; work = λ id resident. refl }

pub cleared-residents : (k : StoreWithLists) → KeepsResidents k.lists (cleared k).lists
cleared-residents k = cleared-keeps (KeepsResidents k.lists) (resident-blocks k.lists) (resident-gone k.lists) k (resident-same k.lists)

pub started-residents : (d : Disc) (name : List ℕ) (rest : Result (Unit {0}) ℕ) (pri : Priority) (k : StoreWithLists) → KeepsResidents k.lists (start_program d name rest pri k).left.lists
started-residents d name rest pri k = started-keeps (KeepsResidents k.lists) (resident-blocks k.lists) (resident-new k.lists) d name rest pri k (resident-same k.lists)

pub begun-residents : (id : ℕ) (k : StoreWithLists) → KeepsResidents k.lists (begun id k).lists
begun-residents n k =
    record {
      rest = refl;
      there = λ id resident. any-changed n (begun_task k.lists.version k.words) (λ t. eqb t.id id) (λ t. refl) k.lists.tasks;
      work = λ id resident. work-changed n (begun_task k.lists.version k.words) (λ t. (refl, refl)) id k.lists.tasks;
    }

-- ---- all queued packets stay

pub started-packets : (d : Disc) (name : List ℕ) (rest : Result (Unit {0}) ℕ) (pri : Priority) (k : StoreWithLists) → queued (start_program d name rest pri k).left.lists ≡ queued k.lists
started-packets d name rest pri k =
    started-keeps (λ m. queued m ≡ queued k.lists) (λ m bs ms h. h)
    (λ m t p h. ap (λ ps. ps ++ (m.clock ++ (m.keyboard ++ (m.output ++ m.pending)))) (queues-inserted _ t p.queue m.tasks) ∙ h) d name rest pri k refl

pub begun-packets : (id : ℕ) (k : StoreWithLists) → queued (begun id k).lists ≡ queued k.lists
begun-packets n k =
    ap (λ ps. ps ++ (k.lists.clock ++ (k.lists.keyboard ++ (k.lists.output ++ k.lists.pending)))) (queues-changed n (begun_task k.lists.version k.words) (λ t. refl) k.lists.tasks)

-- ---- the resident that runs

module _ (n : ℕ) (resident : is_guest_id n ≡ false) where
  -- it goes on
  abbrev Goes : Lists → Type 0
  Goes m = (m.running ≡ n) × (has_task n m.tasks ≡ true) × AllByRecursion (λ t. t.id ≡ n → t.field ≡ runs) m.tasks

  -- and no other task runs
  abbrev Alone : Lists → Type 0
  Alone m = (m.running ≡ n) × AllByRecursion (λ t. t.field ≡ runs → t.id ≡ n) m.tasks

  goes-gone : AllowsGone Goes
  goes-gone m i guest out h = (
    h.0,
    any-without (λ t. eqb t.id i) (λ t. eqb t.id n) (other-task i n guest resident) m.tasks ∙ h.1,
    all-without (λ t. eqb t.id i) (λ t. t.id ≡ n → t.field ≡ runs) m.tasks h.2,
  )

  goes-new : AllowsNew Goes
  goes-new m t p h = (
    h.0,
    any-inserted _ t (λ u. eqb u.id n) (other-number t.id n p.guest resident) m.tasks ∙ h.1,
    all-inserted (λ u. u.id ≡ n → u.field ≡ runs) _ t m.tasks (λ e. absurd (false≢true (sym resident ∙ sym (ap is_guest_id e) ∙ p.guest))) h.2,
  )

  alone-new : AllowsNew Alone
  alone-new m t p h = (h.0, all-inserted (λ u. u.field ≡ runs → u.id ≡ n) _ t m.tasks (λ e. absurd (dead_runs (sym p.dead ∙ e))) h.1)
    where
      dead_runs : dead ≡ runs → ⊥
      dead_runs e = omega (arith, e)

  goes : (m : Lists) → m.running ≡ n → RunsResident m → Goes m
  goes m is r = (is, ap (λ i. has_task i m.tasks) (sym is) ∙ r.there, subst (λ i. AllByRecursion (λ t. t.id ≡ i → t.field ≡ runs) m.tasks) is r.field)

  goes-on : (m : Lists) → Goes m → RunsResident m
  goes-on m h =
      record {
        resident = ap is_guest_id h.0 ∙ resident;
        there = ap (λ i. has_task i m.tasks) h.0 ∙ h.1;
        field = subst (λ i. AllByRecursion (λ t. t.id ≡ i → t.field ≡ runs) m.tasks) (sym h.0) h.2;
      }

  alone : (m : Lists) → m.running ≡ n → ResidentAlone m → Alone m
  alone m is r = (is, subst (λ i. AllByRecursion (λ t. t.field ≡ runs → t.id ≡ i) m.tasks) is r.field)

  alone-on : (m : Lists) → Alone m → ResidentAlone m
  alone-on m h = record { resident = ap is_guest_id h.0 ∙ resident; field = subst (λ i. AllByRecursion (λ t. t.field ≡ runs → t.id ≡ i) m.tasks) (sym h.0) h.1 }

pub cleared-runs : (k : StoreWithLists) → RunsResident k.lists → RunsResident (cleared k).lists
cleared-runs k r =
    let n : ℕ = k.lists.running in
    goes-on n r.resident (cleared k).lists (cleared-keeps (Goes n r.resident) (λ m bs ms h. h) (goes-gone n r.resident) k (goes n r.resident k.lists refl r))

pub cleared-alone : (k : StoreWithLists) → ResidentAlone k.lists → ResidentAlone (cleared k).lists
cleared-alone k r =
    let n : ℕ = k.lists.running in
    alone-on n r.resident (cleared k).lists
    (cleared-keeps (Alone n r.resident) (λ m bs ms h. h) (λ m i guest out h. (h.0, all-without (λ t. eqb t.id i) (λ t. t.field ≡ runs → t.id ≡ n) m.tasks h.1)) k (alone n r.resident k.lists refl r))

pub started-runs : (d : Disc) (name : List ℕ) (rest : Result (Unit {0}) ℕ) (pri : Priority) (k : StoreWithLists) → RunsResident k.lists → RunsResident (start_program d name rest pri k).left.lists
started-runs d name rest pri k r =
    let n : ℕ = k.lists.running in
    goes-on n r.resident (start_program d name rest pri k).left.lists
    (started-keeps (Goes n r.resident) (λ m bs ms h. h) (goes-new n r.resident) d name rest pri k (goes n r.resident k.lists refl r))

pub started-alone : (d : Disc) (name : List ℕ) (rest : Result (Unit {0}) ℕ) (pri : Priority) (k : StoreWithLists) → ResidentAlone k.lists → ResidentAlone (start_program d name rest pri k).left.lists
started-alone d name rest pri k r =
    let n : ℕ = k.lists.running in
    alone-on n r.resident (start_program d name rest pri k).left.lists
    (started-keeps (Alone n r.resident) (λ m bs ms h. h) (alone-new n r.resident) d name rest pri k (alone n r.resident k.lists refl r))

pub begun-runs : (id : ℕ) (k : StoreWithLists) → is_guest_id id ≡ true → RunsResident k.lists → RunsResident (begun id k).lists
begun-runs id k guest r =
    record {
      resident = r.resident;
      there = any-changed id (begun_task k.lists.version k.words) (λ t. eqb t.id k.lists.running) (λ t. refl) k.lists.tasks ∙ r.there;
      field =
          all-changed id (begun_task k.lists.version k.words) (λ t. t.id ≡ k.lists.running → t.field ≡ runs)
          (λ t e h same. absurd (false≢true (sym r.resident ∙ sym (ap is_guest_id same) ∙ ap is_guest_id (eqb-true t.id id e) ∙ guest))) k.lists.tasks r.field;
    }

pub begun-alone : (id : ℕ) (k : StoreWithLists) → ResidentAlone k.lists → ResidentAlone (begun id k).lists
begun-alone id k r =
    record {
      resident = r.resident;
      field = all-changed id (begun_task k.lists.version k.words) (λ t. t.field ≡ runs → t.id ≡ k.lists.running) (λ t e h same. absurd (begun_runs same)) k.lists.tasks r.field;
    }
  where
    begun_runs : interrupted ≡ runs → ⊥
    begun_runs e = omega (arith, e)
