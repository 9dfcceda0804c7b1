-- What follows from an answer that a coroutine is known and has no parent.
use Rattle.std.proofs.Common.{◌≡◌, ℕ, List, Bool, true, false, Ok, refl}
use Rattle.std.specs.Prelude.{[], ◌∷◌, not}
use Rattle.kernel_lists.specs.Coroutines.Refusals.{first_refusal, has_parent, idle_answer, is_known}
use Rattle.kernel_lists.specs.declared.coroutine_lists.ends.CoEnd.TheVariants.{HasParent, Unknown}

pub record IsIdle (s : List ℕ) (t c : ℕ) : Type 0 where
  pub known : is_known s t c ≡ true
  pub alone : has_parent s t c ≡ false

pub idle : (s : List ℕ) (t c : ℕ) (u : Unit) → Ok u ≡ idle_answer s t c → IsIdle s t c
idle s t c u answer = on (is_known s t c) refl (has_parent s t c) refl answer
  where
    on : (k : Bool) → is_known s t c ≡ k → (p : Bool) → has_parent s t c ≡ p → Ok u ≡ first_refusal ((k, Unknown) ∷ (not p, HasParent) ∷ []) → IsIdle s t c
    on true known false alone answer = record { known = known; alone = alone }
    on true known true alone answer = cc
    on false known p alone answer = cc
