-- All passes together.
use Rattle.std.proofs.Common.{◌≡◌, ◌↔◌, ℕ, Bool, true, false, List, length, replicate, sym, ap, ◌∙◌, arith, inl, inr, ◌<◌, [], ◌∷◌}
use Rattle.std.specs.List.{AllByRecursion}
use Rattle.std.proofs.lemmas.Bool.{cases_lt, false≢true}
use Rattle.std.proofs.lemmas.List.{get_or-replicate, get_or_past, length-replicate}
use Rattle.kernel_model.specs.KernelRecord.HoldsLists.{HoldsLists}
use Rattle.kernel_model.specs.KernelRecord.Recovered.{lists_in, task_in}
use Rattle.kernel_lists.specs.TaskBlock.Lists.{coroutines_in}
use Rattle.kernel_lists.specs.TaskBlock.TaskChain.{tasks_in}
use Rattle.kernel_model.specs.KernelRecord.ValidTasks.{AreValidCoroutines}
use Rattle.kernel_model.proofs.KernelRecord.EachMember.{all-each}
use Rattle.store_claims.specs.WordClaims.Marks.{is_open}
use Rattle.store_claims.specs.AdoptionLaw.Passes.{HoldsTaskWords, Passes}
use Rattle.store_claims.proofs.AdoptionLaw.AllPasses.{passes}
use Rattle.store_claims.proofs.AdoptionLaw.ClaimableStore.{valid-claimable}
use Rattle.kernel_check.specs.ListPasses.ClaimedStore.{IsClaimed}
use Rattle.kernel_check.specs.ListPasses.Frames.{HasParent, OwnsCoroutines}
use Rattle.kernel_check.proofs.ListPasses.ClaimedWalks.{of-tasks}
use Rattle.kernel_check.proofs.ListPasses.FrameWords.{Frame, frames-all, parents-tell}
use Rattle.kernel_check.proofs.ClaimedQueues.{some-tasks}
use Rattle.kernel_check.specs.ListPasses.StartMarks.{IsShut}

-- a pass that does not find what it looks for
pub refuse : (s : List ℕ) (P : Type 0) (b : Bool) → ((b ≡ true) ↔ P) → b ≡ false → (Passes s → P) → (false ≡ true) ↔ HoldsLists s (lists_in s)
refuse s P b answer not_so has = (λ t. absurd (false≢true t), λ h. sym not_so ∙ answer.1 (has (passes s h)))

-- of what holds valid lists all words can be claimed
pub claimed : (s : List ℕ) → HoldsLists s (lists_in s) → IsClaimed s
claimed s h = (let p : Passes s = passes s h in record { root = p.root; tiled = p.tiled; claims = valid-claimable s h })

-- new marks
pub shut : (n a : ℕ) → is_open (replicate n false) a ≡ false
shut n a = elim (cases_lt a n) [ inl low ↦ get_or-replicate n a false false low | inr high ↦ get_or_past (replicate n false) a false (omega (arith, high, length-replicate n false)) ]

pub is-shut : (s : List ℕ) (m : List Bool) → m ≡ replicate (length s) false → IsShut s m
is-shut s m is = record {
  size = ap length is ∙ length-replicate (length s) false;
  none = λ a t. absurd (false≢true (sym (ap (λ z. is_open z a) is ∙ shut (length s) a) ∙ t));
}

-- ---- coroutines

-- the coroutines of tasks that own them are valid
pub owned-valid : (s : List ℕ) → AllByRecursion (OwnsCoroutines s) (tasks_in s) → AllByRecursion (AreValidCoroutines (lists_in s)) (lists_in s).tasks
owned-valid s all = (of-tasks s (AreValidCoroutines (lists_in s))).0 (all-each (OwnsCoroutines s) (λ t. AreValidCoroutines (lists_in s) (task_in s t)) (λ t h. h.valid) (tasks_in s) all)

-- and where the words of tasks are right, each tells whether it is active
pub all-owned : (s : List ℕ) → IsClaimed s → Passes s → AllByRecursion (OwnsCoroutines s) (tasks_in s)
all-owned s c p = each (tasks_in s) (some-tasks s c) ((of-tasks s (AreValidCoroutines (lists_in s))).1 p.coroutines) ((of-tasks s (HoldsTaskWords s (lists_in s))).1 p.heads)
  where
    each : (ts : List ℕ) → AllByRecursion (λ t. 0 < t) ts → AllByRecursion (λ t. AreValidCoroutines (lists_in s) (task_in s t)) ts → AllByRecursion (λ t. HoldsTaskWords s (lists_in s) (task_in s t)) ts
        → AllByRecursion (OwnsCoroutines s) ts
    each [] some valid-coroutines heads = tt
    each (t ∷ ts) some valid-coroutines heads = (
      record {
        valid = valid-coroutines.0;
        parents = parents-tell s t (λ e. omega (arith, e, some.0)) (coroutines_in s t) (all-each (Frame s t) (HasParent s t) (λ k f. f.1) (coroutines_in s t) (frames-all s t heads.0.coroutines));
      },
      each ts some.1 valid-coroutines.1 heads.1,
    )
