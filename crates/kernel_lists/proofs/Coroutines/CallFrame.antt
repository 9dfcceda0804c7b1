-- A store in which a call has changed words of the task block and of coroutines.
use Rattle.std.proofs.Common.{◌≡◌, ◌≢◌, ◌⊎◌, inl, inr, ℕ, ◌+◌, ◌<◌, ◌≤◌, List, length, get_or, true, false, Some, sym, ap, ◌∙◌, subst, arith}
use Rattle.std.specs.List.{AllByRecursion}
use Rattle.kernel_lists.specs.GetvecChain.Block.{used_block}
use Rattle.word_store.specs.Count.{IsApart}
use Rattle.kernel_lists.specs.LinkedList.Places.{has}
use Rattle.kernel_lists.specs.GetvecChain.Run.{need}
use Rattle.kernel_lists.specs.GetvecChain.Tiling.{blocks_in, holding, used_at}
use Rattle.kernel_lists.proofs.LinkedList.Frames.{list-same}
use Rattle.kernel_lists.specs.LinkedList.Linked.{IsListAt}
use Rattle.kernel_lists.proofs.GetvecChain.Writes.{SameBlocks, SameBlocks-kept}
use Rattle.kernel_lists.specs.TaskBlock.Lists.{coroutine_link, coroutines_in}
use Rattle.kernel_lists.specs.Coroutines.Active.{LeadsOut}
use Rattle.kernel_lists.specs.Coroutines.Coroutines.{HasBlock, HasCoroutines}
use Rattle.kernel_lists.specs.Coroutines.CoroutineWords.{coroutine_size, highest_in, parent_in}
use Rattle.kernel_lists.specs.Coroutines.Refusals.{is_known}
use Rattle.kernel_lists.proofs.Coroutines.CoroutineLists.{Built, built}
use Rattle.kernel_lists.proofs.LinkedList.AllMembers.{all-members}
use Rattle.kernel_lists.proofs.LinkedList.Members.{cell-cases}
use Rattle.kernel_lists.proofs.Coroutines.KnownCoroutines.{known-block, known-held, known-same, task-apart, task-held}

-- only the words 18 to 20 of the task block, and the words 0, 1 and 6 of its coroutines, have changed
pub record IsCall (s v : List ℕ) (t : ℕ) : Type 0 where
  pub same_length : length v ≡ length s
  pub others : (a : ℕ) → a ≢ t + 18 → a ≢ t + 19 → a ≢ t + 20 → ((k : ℕ) → is_known s t k ≡ true → (a ≢ k) × (a ≢ k + 1) × (a ≢ k + 6)) → get_or v a 0 ≡ get_or s a 0

-- a word of the task block that is not among them
pub task-word : (s v : List ℕ) (t i : ℕ) → HasCoroutines s t → IsCall s v t → i < 18 → get_or v (t + i) 0 ≡ get_or s (t + i) 0
task-word s v t i h c few =
    c.others (t + i) (λ e. absurd (omega (arith, e, few))) (λ e. absurd (omega (arith, e, few))) (λ e. absurd (omega (arith, e, few)))
    (λ k known. (
      (λ e. task-apart s t k i 0 h known (omega (arith, few)) (omega arith) (omega (arith, e))),
      (λ e. task-apart s t k i 1 h known (omega (arith, few)) (omega arith) e),
      (λ e. task-apart s t k i 6 h known (omega (arith, few)) (omega arith) e),
    ))

-- a word of a coroutine that is not among them
pub known-word : (s v : List ℕ) (t k i : ℕ) → HasCoroutines s t → IsCall s v t → is_known s t k ≡ true → i < 10 → i ≢ 0 → i ≢ 1 → i ≢ 6 → get_or v (k + i) 0 ≡ get_or s (k + i) 0
known-word s v t k i h c known few n0 n1 n6 =
    c.others (k + i) (λ e. task-apart s t k 18 i h known (omega arith) few (sym e)) (λ e. task-apart s t k 19 i h known (omega arith) few (sym e)) (λ e. task-apart s t k 20 i h known (omega arith) few (sym e))
    (λ m other. (
      (λ e. known-same s t k m i 0 h known other few (omega arith) n0 (omega (arith, e))),
      (λ e. known-same s t k m i 1 h known other few (omega arith) n1 e),
      (λ e. known-same s t k m i 6 h known other few (omega arith) n6 e),
    ))

-- the blocks stay
same-blocks : (s v : List ℕ) (t : ℕ) → HasCoroutines s t → IsCall s v t → SameBlocks s v
same-blocks s v t h c =
    SameBlocks-kept s v h.tiled c.same_length (λ a low high none.
    let no_task : (i : ℕ) → i < 23 → a ≢ t + i = λ i few e. task-held s t i h few (ap (λ z. holding z (blocks_in s)) (sym e) ∙ none) in
    let no_word : (k i : ℕ) → is_known s t k ≡ true → i < 10 → a ≢ k + i = λ k i known few e. known-held s t k i h known few (ap (λ z. holding z (blocks_in s)) (sym e) ∙ none) in
    c.others a (no_task 18 (omega arith)) (no_task 19 (omega arith)) (no_task 20 (omega arith))
    (λ k known. ((λ e. no_word k 0 known (omega arith) (omega (arith, e))), no_word k 1 known (omega arith), no_word k 6 known (omega arith))))

same-list : (s v : List ℕ) (t : ℕ) → HasCoroutines s t → IsCall s v t → IsListAt v coroutine_link coroutine_size (t + 17) (coroutines_in s t)
same-list s v t h c =
    list-same s v coroutine_link coroutine_size (t + 17) h.list c.same_length (λ a some. on a (cell-cases coroutine_link a (t + 17) (coroutines_in s t) some))
  where
    on : (a : ℕ) → (a ≡ t + 17) ⊎ ((k : ℕ) × (has k (coroutines_in s t) ≡ true) × (a ≡ k + 2)) → get_or v a 0 ≡ get_or s a 0
    on a (inl e) = subst (λ z. get_or v z 0 ≡ get_or s z 0) (sym e) (task-word s v t 17 h c (omega arith))
    on a (inr (k, known, e)) =
        subst (λ z. get_or v z 0 ≡ get_or s z 0) (sym e)
        (known-word s v t k 2 h c known (omega arith) (λ e. absurd (omega (arith, e))) (λ e. absurd (omega (arith, e))) (λ e. absurd (omega (arith, e))))

-- after a call the coroutines are there, with the active ones that it leaves
pub again : (s v : List ℕ) (t : ℕ) (act : List ℕ) → HasCoroutines s t → IsCall s v t → LeadsOut v t 0 (t + 18) act → AllByRecursion (λ c. has c (coroutines_in s t) ≡ true) act → IsApart act
    → ((c : ℕ) → is_known s t c ≡ true → has c act ≡ false → get_or v (c + 1) 0 ≡ 0) → Built v t (coroutines_in s t) act
again s v t act h c out members distinct idle =
    let blocks : SameBlocks s v = same-blocks s v t h c in
    let used : (a : ℕ) → used_at a (blocks_in v) ≡ used_at a (blocks_in s) = λ a. ap (used_at a) blocks.blocks in
    let of_block : (k : ℕ) → is_known s t k ≡ true → HasBlock v k = λ k known.
    let b : HasBlock s k = known-block s t k h known in
    let high : highest_in v k ≡ highest_in s k = known-word s v t k 4 h c known (omega arith) (λ e. absurd (omega (arith, e))) (λ e. absurd (omega (arith, e))) (λ e. absurd (omega (arith, e))) in
    record {
      start = b.start;
      here = b.here;
      block = used k ∙ b.block ∙ ap (λ z. Some (used_block b.start (need z))) (sym high);
      high = subst (λ z. 16 ≤ z) (sym high) b.high;
    }
    in
    built v t (coroutines_in s t) act
    (record {
      tiled = blocks.tiled;
      task = record { first = h.task.first; block = h.task.block; used = used h.task.first ∙ h.task.used; low = h.task.low; high = h.task.high };
      elsewhere = h.elsewhere;
      list = same-list s v t h c;
      apart = h.apart;
      blocks = all-members (HasBlock v) (coroutines_in s t) of_block;
      out = out;
      members = members;
      distinct = distinct;
      idle = all-members (λ c. has c act ≡ false → parent_in v c ≡ 0) (coroutines_in s t) idle;
    })
