-- What a walk along one list answers.
use Rattle.std.proofs.Common.{◌≡◌, ◌↔◌, ℕ, ◌+◌, ◌<◌, ◌≤◌, Bool, true, false, List, [], ◌∷◌, cond, eqb, get_or, length, refl, subst, arith}
use Rattle.std.specs.Bool.{OnTrue}
use Rattle.std.proofs.lemmas.Bool.{false≢true}
use Rattle.std.specs.List.{AllByRecursion}
use Rattle.kernel_lists.specs.LinkedList.Chain.{IsChain, list_at}
use Rattle.word_store.specs.Count.{times, words_of}
use Rattle.kernel_lists.specs.LinkedList.Walk.{CanWalk}
use Rattle.word_store.proofs.Counts.{times-within, times-words_more}
use Rattle.kernel_lists.specs.TaskBlock.TaskChain.{id_in, task_link, tasks_in}
use Rattle.kernel_model.specs.KernelRecord.KernelRanges.{task_size_in}
use Rattle.kernel_model.specs.KernelRecord.Task.{is_guest_id}
use Rattle.store_claims.specs.WordClaims.ClaimableLists.{CanClaim}
use Rattle.store_claims.specs.WordClaims.Marks.{AreClaimed}
use Rattle.store_claims.proofs.WordClaims.ClaimedWords.{open-low}
use Rattle.store_claims.specs.ListClaims.ListWords.{AreBlocks, Can, chain_words}

pub list-answer : (s : List ℕ) (link link' size : ℕ → ℕ) (m : List Bool) (head head' : ℕ) (b : Bool) → link' ≡ link → head' ≡ head → ((b ≡ true) ↔ CanClaim s link' size m head')
    → (b ≡ true) ↔ Can (IsChain s link head (list_at s link head)) m (words_of size (list_at s link head))
list-answer s link link' size m head head' b same at h =
    let k : (b ≡ true) ↔ CanClaim s link size m head = subst (λ f. (b ≡ true) ↔ CanClaim s f size m head) same (subst (λ a. (b ≡ true) ↔ CanClaim s link' size m a) at h) in (
      λ t. (let c = k.0 t in record { ends = c.chain; words = record { are_open = c.are_open; apart = c.apart } }),
      λ c. k.1 (record { chain = c.ends; are_open = c.words.are_open; apart = c.words.apart }),
    )

pub list-claimed : (s : List ℕ) (link link' size : ℕ → ℕ) (m v : List Bool) (head head' : ℕ) (b : Bool) → link' ≡ link → head' ≡ head → OnTrue b (AreClaimed m v (words_of size (list_at s link' head')))
    → OnTrue b (AreClaimed m v (words_of size (list_at s link head)))
list-claimed s link link' size m v head head' b same at h = subst (λ f. OnTrue b (AreClaimed m v (words_of size (list_at s f head)))) same (subst (λ a. OnTrue b (AreClaimed m v (words_of size (list_at s link' a)))) at h)

pub on-true : (b : Bool) (P : Type 0) → (b ≡ true → P) → OnTrue b P
on-true true P h = h refl
on-true false P h = tt

pub when-true : (b : Bool) (P : Type 0) → b ≡ true → OnTrue b P → P
when-true true P t h = h
when-true false P t h = absurd (false≢true t)

-- ---- task blocks

-- a task block has 23 words at least
pub task-size : (s : List ℕ) (t : ℕ) → 23 ≤ task_size_in s t
task-size s t = on (is_guest_id (id_in s t)) (eqb (get_or s 111 0) 2)
  where
    on : (g v : Bool) → 23 ≤ cond g (cond v 30 23) 23
    on true true = omega arith
    on true false = omega arith
    on false v = omega arith

blocks-in : (s : List ℕ) (n : ℕ) (ts : List ℕ) → ((a : ℕ) → 0 < times a (words_of (task_size_in s) ts) → a < n) → AllByRecursion (λ t. t + 23 ≤ n) ts
blocks-in s n [] all = tt
blocks-in s n (t ∷ ts) all =
    let last : t + 22 < n = all (t + 22) (omega (arith, times-words_more (task_size_in s) (t + 22) t ts, times-within (t + 22) t (task_size_in s t) (omega arith) (omega (arith, task-size s t)))) in
    (omega (arith, last), blocks-in s n ts (λ a some. all a (omega (arith, some, times-words_more (task_size_in s) a t ts))))

pub are-blocks : (s : List ℕ) (m : List Bool) → length m ≤ length s → Can (IsChain s task_link 101 (tasks_in s)) m (chain_words s) → AreBlocks s (tasks_in s)
are-blocks s m room can = blocks-in s (length s) (tasks_in s) (λ a some. omega (arith, room, open-low m a (can.words.are_open a some)))

pub chain-walk : (s : List ℕ) (m : List Bool) → length m ≤ length s → Can (IsChain s task_link 101 (tasks_in s)) m (chain_words s) → CanWalk s task_link 101
chain-walk s m room can = record { chain = can.ends; inside = inside (tasks_in s) (are-blocks s m room can) }
  where
    inside : (ts : List ℕ) → AreBlocks s ts → AllByRecursion (λ t. t < length s) ts
    inside [] all = tt
    inside (t ∷ ts) all = (omega (arith, all.0), inside ts all.1)
