-- Faults that were not reported yet, and the fault packet.
use Rattle.std.proofs.Common.{◌≡◌, ◌≢◌, ◌↔◌, ℕ, ◌+◌, ◌||◌, Bool, true, false, not, List, [], ◌∷◌, cond, eqb, get_or, map, refl, sym, ap, ◌∙◌, subst}
use Rattle.std.specs.List.{AllByRecursion, list_any}
use Rattle.std.proofs.lemmas.Bool.{eq-eqb, eqb-true, false≢true, ne_eqb}
use Rattle.kernel_lists.specs.PacketQueue.QueueWords.{QueuedPacket}
use Rattle.kernel_lists.specs.TaskBlock.TaskChain.{id_in, tasks_in}
use Rattle.kernel_model.specs.KernelRecord.Between.{Tells, has_unreported}
use Rattle.kernel_model.specs.KernelRecord.Changes.{work_of}
use Rattle.kernel_model.specs.KernelRecord.HoldsLists.{HoldsLists}
use Rattle.kernel_model.specs.KernelRecord.KernelRanges.{CanWalkTask}
use Rattle.kernel_model.specs.KernelRecord.Recovered.{lists_in, packet_in, packets_at, task_in}
use Rattle.kernel_model.specs.KernelRecord.Task.{Task, queue_head}
use Rattle.kernel_model.proofs.KernelRecord.WalkedLists.{can-walk}
use Rattle.kernel_check.proofs.ListPasses.ClaimedWalks.{in-lists}

-- ---- whether some task is such

abbrev pub any_in : List ℕ → (Task → Bool) → List ℕ → Bool
any_in s f ts = list_any (λ t. f (task_in s t)) ts

pub any-first : (s : List ℕ) (f : Task → Bool) (ts : List ℕ) → ts ≡ tasks_in s → any_in s f ts ≡ list_any f (lists_in s).tasks
any-first s f ts is = ap (any_in s f) is ∙ in-lists s f

pub any-here : (s : List ℕ) (f : Task → Bool) (ts : List ℕ) (t : ℕ) (rest : List ℕ) (b : Bool) → ts ≡ t ∷ rest → b ≡ f (task_in s t) → b ≡ true → true ≡ any_in s f ts
any-here s f ts t rest b is answer so = sym (ap (any_in s f) is ∙ ap (λ x. x || any_in s f rest) (sym answer ∙ so))

pub any-behind : (s : List ℕ) (f : Task → Bool) (ts : List ℕ) (t : ℕ) (rest : List ℕ) (b : Bool) → ts ≡ t ∷ rest → b ≡ f (task_in s t) → b ≡ false → any_in s f rest ≡ any_in s f ts
any-behind s f ts t rest b is answer not_so = sym (ap (any_in s f) is ∙ ap (λ x. x || any_in s f rest) (sym answer ∙ not_so))

pub any-none : (s : List ℕ) (f : Task → Bool) (ts : List ℕ) → ts ≡ [] → false ≡ any_in s f ts
any-none s f ts is = sym (ap (any_in s f) is)

-- ---- the work queue of the task that reports faults

abbrev pub work_in : List ℕ → List ℕ → List QueuedPacket
work_in s ts = work_of 2 (map (task_in s) ts)

work-lists : (s : List ℕ) → work_in s (tasks_in s) ≡ work_of 2 (lists_in s).tasks
unfolding lists_in
work-lists s = refl

-- what is left has its queue
pub record IsSeeking (s : List ℕ) (rest : List ℕ) : Type 0 where
  pub same : work_in s rest ≡ work_of 2 (lists_in s).tasks
  pub walks : AllByRecursion (CanWalkTask s) rest

pub seeking : (s : List ℕ) (ts : List ℕ) → ts ≡ tasks_in s → HoldsLists s (lists_in s) → IsSeeking s ts
seeking s ts is h = record { same = ap (work_in s) is ∙ work-lists s; walks = subst (AllByRecursion (CanWalkTask s)) (sym is) (can-walk s (lists_in s) h).tasks }

module _ (s : List ℕ) (bs : List ℕ) (t : ℕ) (rest : List ℕ) (i : ℕ) (g : IsSeeking s bs) (is : bs ≡ t ∷ rest) (read : i ≡ id_in s t) where
  pub next-walk : CanWalkTask s t
  next-walk = (subst (AllByRecursion (CanWalkTask s)) is g.walks).0

  next-work : cond (eqb (id_in s t) 2) (packets_at s (queue_head t)) (work_in s rest) ≡ work_of 2 (lists_in s).tasks
  next-work = ap (work_in s) (sym is) ∙ g.same

  pub its-queue : i ≡ 2 → packets_at s (queue_head t) ≡ work_of 2 (lists_in s).tasks
  its-queue it = ap (λ b. cond b (packets_at s (queue_head t)) (work_in s rest)) (sym (eq-eqb (id_in s t) 2 (sym read ∙ it))) ∙ next-work

  pub seeks-on : i ≢ 2 → IsSeeking s rest
  seeks-on other = record {
    same = ap (λ b. cond b (packets_at s (queue_head t)) (work_in s rest)) (sym (ne_eqb (id_in s t) 2 (λ e. other (read ∙ e)))) ∙ next-work;
    walks = (subst (AllByRecursion (CanWalkTask s)) is g.walks).1;
  }

pub no-queue : (s : List ℕ) (bs : List ℕ) → IsSeeking s bs → bs ≡ [] → AllByRecursion (Tells (lists_in s).tasks) (work_of 2 (lists_in s).tasks)
no-queue s bs g none = subst (AllByRecursion (Tells (lists_in s).tasks)) (sym (ap (work_in s) none) ∙ g.same) tt

pub queue-tells : (s : List ℕ) (b : Bool) (h head : ℕ) (ps : List QueuedPacket) → h ≡ head → packets_at s head ≡ ps → ((b ≡ true) ↔ AllByRecursion (Tells (lists_in s).tasks) (packets_at s h))
    → (b ≡ true) ↔ AllByRecursion (Tells (lists_in s).tasks) ps
queue-tells s b h head ps at is answer = subst (λ qs. (b ≡ true) ↔ AllByRecursion (Tells (lists_in s).tasks) qs) is (subst (λ z. (b ≡ true) ↔ AllByRecursion (Tells (lists_in s).tasks) (packets_at s z)) at answer)

-- ---- one packet

abbrev pub PacketTells : List ℕ → ℕ → Type 0
PacketTells s p = Tells (lists_in s).tasks (packet_in s p)

pub other-tells : (s : List ℕ) (p : ℕ) → p ≢ 310 → PacketTells s p
other-tells s p other e = absurd (other (eqb-true p 310 e))

pub fault-tells : (s : List ℕ) (p w : ℕ) (b : Bool) → p ≡ 310 → w ≡ get_or s (p + 1) 0 → b ≡ has_unreported w (lists_in s).tasks → (b ≡ true) ↔ PacketTells s p
fault-tells s p w b it read answer = (
  λ t e. ap (λ z. has_unreported z (lists_in s).tasks) (sym read) ∙ sym answer ∙ t,
  λ h. answer ∙ ap (λ z. has_unreported z (lists_in s).tasks) read ∙ h (eq-eqb p 310 it),
)

-- ---- whether it waits

pub waits-free : (f x w : Bool) → f ≡ true → w ≡ x → (not w ≡ true) ↔ (f ≡ not x)
waits-free f x w free same = (λ t. free ∙ sym t ∙ ap not same, λ e. ap not same ∙ sym e ∙ free)

pub waits-queued : (f x w : Bool) → f ≡ false → w ≡ x → (w ≡ true) ↔ (f ≡ not x)
waits-queued f x w other same = (λ t. other ∙ ap not (sym t ∙ same), λ e. turn w (ap not same ∙ sym e ∙ other))
  where
    turn : (b : Bool) → not b ≡ false → b ≡ true
    turn true e = refl
    turn false e = absurd (false≢true (sym e))

pub under-task : (b h : Bool) (P : Type 0) → h ≡ true → ((b ≡ true) ↔ P) → (b ≡ true) ↔ (h ≡ true → P)
under-task b h P there answer = (λ t e. answer.0 t, λ k. answer.1 (k there))
