-- The walks over the tasks: priorities that fall, numbers that differ, and the rules of each.
use Rattle.std.proofs.Common.{◌≡◌, ◌≢◌, ◌↔◌, ℕ, zero, suc, ◌+◌, ◌-◌, ◌<◌, ◌≤◌, ◌/◌, ◌%◌, Bool, true, false, List, [], ◌∷◌, cond, get_or, map, refl, sym, ap, ◌∙◌, subst, arith, inl, inr, eqb, length, Some}
use Rattle.std.specs.List.{AllByRecursion}
use Rattle.std.proofs.lemmas.Bool.{cases_eq, cases_lt, false≢true}
use Rattle.std.proofs.lemmas.List.{length-map}
use Rattle.std.proofs.lemmas.Bool.Decides.{nat_tests}
use Rattle.word_store.specs.Count.{IsApart, hit, times}
use Rattle.kernel_lists.proofs.LinkedList.Chains.{length-apart}
use Rattle.kernel_lists.proofs.LinkedList.AllMembers.{all-has}
use Rattle.word_store.proofs.Counts.{hit-other, hit-same}
use Rattle.kernel_lists.proofs.LinkedList.Members.{times-has}
use Rattle.kernel_lists.specs.TaskBlock.TaskChain.{id_in, tasks_in}
use Rattle.kernel_model.specs.KernelRecord.Lists.{Lists}
use Rattle.kernel_model.specs.KernelRecord.Recovered.{lists_in, task_in}
use Rattle.kernel_model.specs.KernelRecord.Task.{Task, is_guest_id, task_id}
use Rattle.kernel_model.specs.KernelRecord.ValidTasks.{AreValidTasks, IsField, IsGuest, IsResident, IsTask, PrioritiesFall, resident_place}
use Rattle.kernel_model.specs.KernelRecord.Versions.{highest_id_of}
use Rattle.kernel_check.specs.ListPasses.Private.TaskRules.{HasTaskNumbers, HasResidents}
use Rattle.kernel_model.proofs.KernelRecord.RootCounts.{highest-low, highest-high}

-- ---- priorities

abbrev pub pri : List ℕ → ℕ → ℕ
pri s t = get_or s (t + 2) 0

abbrev pub Below : List ℕ → ℕ → List ℕ → Type 0
Below s above ts = AllByRecursion (λ t. pri s t < above) ts

abbrev pub Falls : List ℕ → List ℕ → Type 0
Falls s [] = Unit {0}
Falls s (t ∷ ts) = Below s (pri s t) ts × Falls s ts

pub record IsFalling (s : List ℕ) (above : ℕ) (rest all : List ℕ) : Type 0 where
  pub left : Below s above rest → Falls s rest → Falls s all
  pub whole : Falls s all → Below s above rest × Falls s rest

below-less : (s : List ℕ) (a b : ℕ) (ts : List ℕ) → a ≤ b → Below s a ts → Below s b ts
below-less s a b [] le h = tt
below-less s a b (t ∷ ts) le h = (omega (arith, h.0, le), below-less s a b ts le h.1)

pub falling : (s : List ℕ) (above : ℕ) (ts all : List ℕ) → ts ≡ all → Below s above all → IsFalling s above ts all
falling s above ts all is below = record { left = λ b f. subst (Falls s) is f; whole = λ f. (subst (Below s above) (sym is) below, subst (Falls s) (sym is) f) }

module _ (s : List ℕ) (above : ℕ) (bs all : List ℕ) (t : ℕ) (rest : List ℕ) (p : ℕ) (g : IsFalling s above bs all) (is : bs ≡ t ∷ rest) (read : p ≡ pri s t) where
  pub falls-on : p < above → IsFalling s p rest all
  falls-on low = record {
    left = λ b f. (let b' : Below s (pri s t) rest = subst (λ z. Below s z rest) read b in
        g.left (subst (Below s above) (sym is) (omega (arith, low, read), below-less s (pri s t) above rest (omega (arith, low, read)) b')) (subst (Falls s) (sym is) (b', f)));
    whole = λ f. (let k : Falls s (t ∷ rest) = subst (Falls s) is (g.whole f).1 in (subst (λ z. Below s z rest) (sym read) k.0, k.1));
  }

  pub falls-not : above ≤ p → Falls s all → ⊥
  falls-not high f = (let k : Below s above (t ∷ rest) = subst (Below s above) is (g.whole f).0 in omega (arith, k.0, high, read))

pub all-fall : (s : List ℕ) (above : ℕ) (bs all : List ℕ) → IsFalling s above bs all → bs ≡ [] → Falls s all
all-fall s above bs all g is = g.left (subst (Below s above) (sym is) tt) (subst (Falls s) (sym is) tt)

of-below : (s : List ℕ) (above : ℕ) (ts : List ℕ) → Below s above ts ↔ AllByRecursion (λ u. u.priority < above) (map (task_in s) ts)
of-below s above [] = (λ h. tt, λ h. tt)
of-below s above (t ∷ ts) = (λ h. (h.0, (of-below s above ts).0 h.1), λ h. (h.0, (of-below s above ts).1 h.1))

of-falls : (s : List ℕ) (ts : List ℕ) → Falls s ts ↔ PrioritiesFall (map (task_in s) ts)
of-falls s [] = (λ h. tt, λ h. tt)
of-falls s (t ∷ ts) = (λ h. ((of-below s (pri s t) ts).0 h.0, (of-falls s ts).0 h.1), λ h. ((of-below s (pri s t) ts).1 h.0, (of-falls s ts).1 h.1))

pub falls-lists : (s : List ℕ) → Falls s (tasks_in s) ↔ PrioritiesFall (lists_in s).tasks
unfolding lists_in
falls-lists s = of-falls s (tasks_in s)

of-high : (s : List ℕ) (l : Lists) (ts : List ℕ) → AllByRecursion (IsTask l) (map (task_in s) ts) → Below s 10001 ts
of-high s l [] all = tt
of-high s l (t ∷ ts) all = (let h : pri s t ≤ 10000 = all.0.high in omega (arith, h), of-high s l ts all.1)

pub below-all : (s : List ℕ) → AllByRecursion (IsTask (lists_in s)) (lists_in s).tasks → Below s 10001 (tasks_in s)
unfolding lists_in
below-all s all = of-high s (lists_in s) (tasks_in s) all

-- ---- numbers

abbrev pub ids : List ℕ → List ℕ → List ℕ
ids s ts = map (id_in s) ts

abbrev pub Once : List ℕ → ℕ → Type 0
Once s t = times (id_in s t) (ids s (tasks_in s)) ≤ 1

once-map : (s : List ℕ) (n : List ℕ) (ts : List ℕ) → AllByRecursion (λ t. times (id_in s t) n ≤ 1) ts → AllByRecursion (λ a. times a n ≤ 1) (ids s ts)
once-map s n [] all = tt
once-map s n (t ∷ ts) all = (all.0, once-map s n ts all.1)

pub all-apart : (s : List ℕ) → AllByRecursion (Once s) (tasks_in s) → IsApart (ids s (tasks_in s))
all-apart s all a = elim (cases_lt 0 (times a (ids s (tasks_in s)))) [
  | inl some ↦ all-has (λ b. times b (ids s (tasks_in s)) ≤ 1) a (ids s (tasks_in s)) (once-map s (ids s (tasks_in s)) (tasks_in s) all) (times-has a (ids s (tasks_in s)) some)
  | inr none ↦ omega (arith, none)
]

pub apart-all : (s : List ℕ) → IsApart (ids s (tasks_in s)) → (t : ℕ) → Once s t
apart-all s apart t = apart (id_in s t)

map-ids : (s : List ℕ) (ts : List ℕ) → ids s ts ≡ map task_id (map (task_in s) ts)
map-ids s [] = refl
map-ids s (t ∷ ts) = ap (λ z. id_in s t ∷ z) (map-ids s ts)

pub ids-lists : (s : List ℕ) → ids s (tasks_in s) ≡ map task_id (lists_in s).tasks
unfolding lists_in
ids-lists s = map-ids s (tasks_in s)

-- how often the number was met
pub record IsCounting (s : List ℕ) (id : ℕ) (met : Bool) (rest all : List ℕ) : Type 0 where
  pub count : times id (ids s all) ≡ cond met 1 0 + times id (ids s rest)

pub counting : (s : List ℕ) (id : ℕ) (ts all : List ℕ) → ts ≡ all → IsCounting s id false ts all
counting s id ts all is = (let e : times id (ids s all) ≡ times id (ids s ts) = ap (λ z. times id (ids s z)) (sym is) in record { count = omega (arith, e) })

module _ (s : List ℕ) (id : ℕ) (met : Bool) (bs all : List ℕ) (t : ℕ) (rest : List ℕ) (w : ℕ) (g : IsCounting s id met bs all) (is : bs ≡ t ∷ rest) (read : w ≡ id_in s t) where
  counted-next : times id (ids s all) ≡ cond met 1 0 + (hit id (id_in s t) + times id (ids s rest))
  counted-next = g.count ∙ ap (λ z. cond met 1 0 + times id (ids s z)) is

  pub met-twice : w ≡ id → met ≡ true → times id (ids s all) ≤ 1 → ⊥
  met-twice same was h = omega (arith, h, counted-next, ap {B = ℕ} (λ b. cond b 1 0) was, hit-same id (id_in s t) (sym same ∙ read))

  pub met-once : w ≡ id → met ≡ false → IsCounting s id true rest all
  met-once same was = record { count = omega (arith, counted-next, ap {B = ℕ} (λ b. cond b 1 0) was, hit-same id (id_in s t) (sym same ∙ read)) }

  pub met-other : w ≢ id → IsCounting s id met rest all
  met-other other = record { count = omega (arith, counted-next, hit-other id (id_in s t) (λ e. other (read ∙ sym e))) }

-- ---- one task

pub guest-is : (n w : ℕ) → w ≡ n → 5 ≤ w → is_guest_id n ≡ true
guest-is n w read low = grind (arith, nat_tests)

pub guest-not : (n w : ℕ) → w ≡ n → w < 5 → is_guest_id n ≡ false
guest-not n w read low = grind (arith, nat_tests)

-- ---- numbers of tasks

abbrev pub IsNumber : Lists → ℕ → Type 0
IsNumber l id = (1 ≤ id) × (id ≤ highest_id_of l.version)

pub task-number : (l : Lists) (t : Task) → IsTask l t → IsNumber l t.id
task-number l t k = elim (cases_lt t.id 5) [
  | inl low ↦
      let r : IsResident t = k.resident (guest-not t.id t.id refl low) in
      elim (cases_eq t.id 0) [
        | inl none ↦ absurd (let e : resident_place 0 ≡ Some (t.address, t.priority) = ap resident_place (sym none) ∙ r.place in cc)
        | inr some ↦ (omega (arith, some), omega (arith, low, highest-low l.version))
      ]
  | inr high ↦ (omega (arith, high), (k.guest (guest-is t.id t.id refl (omega (arith, high)))).high)
]

ids-low : (l : Lists) (ts : List Task) → AllByRecursion (IsTask l) ts → AllByRecursion (λ i. i < 64) (map task_id ts)
ids-low l [] all = tt
ids-low l (t ∷ ts) all = (omega (arith, (task-number l t all.0).1, highest-high l.version), ids-low l ts all.1)

-- where they differ there are few tasks
few-tasks : (s : List ℕ) → AllByRecursion (IsTask (lists_in s)) (lists_in s).tasks → IsApart (map task_id (lists_in s).tasks) → length (map task_id (lists_in s).tasks) ≤ 64
few-tasks s each apart = length-apart 64 (map task_id (lists_in s).tasks) apart (ids-low (lists_in s) (lists_in s).tasks each)

count-lists : (s : List ℕ) → length (map task_id (lists_in s).tasks) ≡ length (tasks_in s)
count-lists s = ap length (sym (ids-lists s)) ∙ length-map (tasks_in s) (id_in s)

pub few-lists : (s : List ℕ) → AreValidTasks (lists_in s) → length (tasks_in s) ≤ 64
few-lists s h = omega (arith, few-tasks s h.each h.distinct, count-lists s)

-- so many were counted, and these are left
pub record IsCounted (s : List ℕ) (n : ℕ) (rest : List ℕ) : Type 0 where
  pub few : n ≤ 64
  pub all : n + length rest ≡ length (tasks_in s)

pub counted-none : (s : List ℕ) (ts : List ℕ) → ts ≡ tasks_in s → IsCounted s 0 ts
counted-none s ts is = (let e : length ts ≡ length (tasks_in s) = ap length is in record { few = omega arith; all = omega (arith, e) })

module _ (s : List ℕ) (n : ℕ) (bs : List ℕ) (t : ℕ) (rest : List ℕ) (g : IsCounted s n bs) (is : bs ≡ t ∷ rest) where
  counted : length bs ≡ suc (length rest)
  counted = ap length is

  pub counts-on : n < 64 → IsCounted s (n + 1) rest
  counts-on low = record { few = omega (arith, low); all = omega (arith, g.all, counted) }

  pub too-many : 64 ≤ n → length (tasks_in s) ≤ 64 → ⊥
  too-many full few = omega (arith, g.all, counted, full, few)

pub all-counted : (s : List ℕ) (n : ℕ) (bs : List ℕ) → IsCounted s n bs → bs ≡ [] → length (tasks_in s) ≤ 64
all-counted s n bs g is = (let e : length bs ≡ 0 = ap length is in omega (arith, g.all, g.few, e))

-- ---- all rules
