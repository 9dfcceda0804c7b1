-- The walk over the tasks, whose packets and coroutines are claimed.
use Rattle.std.proofs.Common.{◌≡◌, ◌↔◌, ℕ, ◌+◌, ◌≤◌, Bool, true, false, List, [], ◌∷◌, length, refl, sym, ◌∙◌, subst}
use Rattle.std.specs.List.{AllByRecursion, flat_map}
use Rattle.store_claims.specs.WordClaims.Marks.{AreClaimed}
use Rattle.store_claims.proofs.WordClaims.ClaimedWords.{nothing-claimed}
use Rattle.store_claims.specs.ListClaims.ListWords.{AreBlocks, Can, task_list_words}
use Rattle.store_claims.specs.ListClaims.ListEnds.{CoroutinesEnd, QueueEnds, TaskListsEnd}
use Rattle.store_claims.proofs.ListClaims.JoinedClaims.{can-both, can-first, can-rest, claimed-both, none-claimable}

abbrev CanAll : List ℕ → List Bool → List ℕ → Type 0
CanAll s m ts = Can (AllByRecursion (TaskListsEnd s) ts) m (flat_map (task_list_words s) ts)

-- the claims of what is left are those of all
pub record IsGoing (s : List ℕ) (m now : List Bool) (rest all : List ℕ) : Type 0 where
  pub left : CanAll s now rest → CanAll s m all
  pub whole : CanAll s m all → CanAll s now rest
  pub claimed : (v : List Bool) → AreClaimed now v (flat_map (task_list_words s) rest) → AreClaimed m v (flat_map (task_list_words s) all)
  pub blocks : AreBlocks s rest
  pub size : length now ≡ length m

pub going : (s : List ℕ) (m : List Bool) (ts all : List ℕ) → ts ≡ all → AreBlocks s all → IsGoing s m m ts all
going s m ts all is blocks = record {
  left = λ c. subst (CanAll s m) is c;
  whole = λ c. subst (CanAll s m) (sym is) c;
  claimed = λ v c. subst (λ ts. AreClaimed m v (flat_map (task_list_words s) ts)) is c;
  blocks = subst (AreBlocks s) (sym is) blocks;
  size = refl;
}

of-pair : (s : List ℕ) (m : List Bool) (t : ℕ) (ts : List ℕ) → Can ((QueueEnds s (t + 3) × CoroutinesEnd s t) × AllByRecursion (TaskListsEnd s) ts) m (flat_map (task_list_words s) (t ∷ ts)) → CanAll s m (t ∷ ts)
of-pair s m t ts c = record { ends = (record { queue = c.ends.0.0; coroutines = c.ends.0.1 }, c.ends.1); words = c.words }

to-pair : (s : List ℕ) (m : List Bool) (t : ℕ) (ts : List ℕ) → CanAll s m (t ∷ ts) → Can ((QueueEnds s (t + 3) × CoroutinesEnd s t) × AllByRecursion (TaskListsEnd s) ts) m (flat_map (task_list_words s) (t ∷ ts))
to-pair s m t ts c = record { ends = ((c.ends.0.queue, c.ends.0.coroutines), c.ends.1); words = c.words }

module _ (s : List ℕ) (m now : List Bool) (bs all : List ℕ) (t : ℕ) (rest : List ℕ) (g : IsGoing s m now bs all) (is : bs ≡ t ∷ rest) where
  first : CanAll s m all → Can (QueueEnds s (t + 3) × CoroutinesEnd s t) now (task_list_words s t)
  first c = can-first now (task_list_words s t) (flat_map (task_list_words s) rest) (to-pair s now t rest (subst (CanAll s now) is (g.whole c)))

  -- the next task lies in the store
  pub next-block : t + 23 ≤ length s
  next-block = (subst (AreBlocks s) is g.blocks).0

  -- its lists cannot be claimed
  pub stuck : (b : Bool) → ((b ≡ true) ↔ Can (QueueEnds s (t + 3) × CoroutinesEnd s t) now (task_list_words s t)) → b ≡ false → CanAll s m all → false ≡ true
  stuck b answer not_so c = sym not_so ∙ answer.1 (first c)

  -- they were
  pub goes : (v : List Bool) → Can (QueueEnds s (t + 3) × CoroutinesEnd s t) now (task_list_words s t) → AreClaimed now v (task_list_words s t) → length v ≡ length now → IsGoing s m v rest all
  goes v can claimed size = record {
    left = λ c. g.left (subst (CanAll s now) (sym is) (of-pair s now t rest (can-both now v (task_list_words s t) (flat_map (task_list_words s) rest) claimed can c)));
    whole = λ c. can-rest now v (task_list_words s t) (flat_map (task_list_words s) rest) claimed (to-pair s now t rest (subst (CanAll s now) is (g.whole c)));
    claimed = λ w c. g.claimed w (subst (λ ts. AreClaimed now w (flat_map (task_list_words s) ts)) (sym is) (claimed-both now v w (task_list_words s t) (flat_map (task_list_words s) rest) claimed c));
    blocks = (subst (AreBlocks s) is g.blocks).1;
    size = size ∙ g.size;
  }

-- no task is left
pub gone : (s : List ℕ) (m now : List Bool) (bs all : List ℕ) → IsGoing s m now bs all → bs ≡ [] → CanAll s m all × AreClaimed m now (flat_map (task_list_words s) all)
gone s m now bs all g none = (
  g.left (subst (CanAll s now) (sym none) (record { ends = tt; words = none-claimable now })),
  g.claimed now (subst (λ ts. AreClaimed now now (flat_map (task_list_words s) ts)) (sym none) (nothing-claimed now)),
)
