-- A coroutine goes out of its list, and its block is given back.
use Rattle.std.proofs.Common.{◌≡◌, ◌≢◌, ◌⊎◌, inl, inr, ℕ, ◌+◌, ◌<◌, ◌≤◌, List, [], ◌∷◌, get_or, Bool, true, false, Some, None, refl, sym, ap, ◌∙◌, subst, arith, get_or-set_other, length-set}
use Rattle.std.specs.List.{AllByRecursion, range_with_len}
use Rattle.std.proofs.lemmas.Bool.{false≢true}
use Rattle.kernel_lists.specs.GetvecChain.Block.{block_end, used_block}
use Rattle.kernel_lists.specs.LinkedList.Chain.{cells, last_cell, list_at}
use Rattle.word_store.specs.Count.{times, words_of}
use Rattle.kernel_lists.specs.GetvecChain.Give.{given}
use Rattle.kernel_lists.specs.LinkedList.Places.{cell_before, has, linked_out, without}
use Rattle.kernel_lists.specs.GetvecChain.Run.{need}
use Rattle.kernel_lists.specs.GetvecChain.Tiling.{blocks_in, holding, used_at}
use Rattle.kernel_lists.proofs.GetvecChain.AfterGive.{AfterGive, after_give}
use Rattle.kernel_lists.proofs.LinkedList.Chains.{nodes-apart}
use Rattle.word_store.proofs.Counts.{hit-same, times-append, times-words_more, times-words_of}
use Rattle.kernel_lists.proofs.LinkedList.Frames.{list-same}
use Rattle.kernel_lists.proofs.LinkedList.Insertion.{times-front_cell}
use Rattle.kernel_lists.proofs.LinkedList.Lists.{list-remove, list-removed}
use Rattle.kernel_lists.specs.LinkedList.Linked.{IsListAt}
use Rattle.kernel_lists.proofs.LinkedList.Members.{has-times, without-has, without-keeps, has-not, cell-cases}
use Rattle.kernel_lists.proofs.LinkedList.Places.{NodePlace, member-place}
use Rattle.kernel_lists.proofs.GetvecChain.UsedBlocks.{UsedBlock, used_at-apart, used_at-is}
use Rattle.kernel_lists.proofs.GetvecChain.Writes.{SameBlocks, SameBlocks-kept}
use Rattle.kernel_lists.specs.TaskBlock.Lists.{coroutine_link, coroutines_in}
use Rattle.kernel_lists.specs.Coroutines.Active.{active_in}
use Rattle.kernel_lists.specs.Coroutines.Coroutines.{HasBlock, HasCoroutines}
use Rattle.kernel_lists.specs.Coroutines.CoroutineWords.{coroutine_size, highest_in, parent_in}
use Rattle.kernel_lists.specs.Coroutines.Creation.{deleted}
use Rattle.kernel_lists.specs.Coroutines.Refusals.{has_parent, is_known}
use Rattle.kernel_lists.proofs.Coroutines.CoroutineLists.{Built, built}
use Rattle.kernel_lists.proofs.LinkedList.AllMembers.{all-members}
use Rattle.kernel_lists.proofs.Coroutines.KnownCoroutines.{known-block, known-held, known-same, no_parent-word, task-apart, task-held}
use Rattle.kernel_lists.proofs.Coroutines.KeptWords.{same-block, same-out}

abbrev cell_of : List ℕ → ℕ → ℕ → ℕ
cell_of s t c = cell_before coroutine_link c (t + 17) (coroutines_in s t)

-- the store in which c is out of the list
abbrev pub unlinked : List ℕ → ℕ → ℕ → List ℕ
unlinked s t c = linked_out s coroutine_link (cell_of s t c) c

-- the word before c is the head, or the link of another coroutine
cell-is : (s : List ℕ) (t c : ℕ) → HasCoroutines s t → is_known s t c ≡ true → (cell_of s t c ≡ t + 17) ⊎ ((k : ℕ) × (is_known s t k ≡ true) × (cell_of s t c ≡ k + 2))
cell-is s t c h known =
    let r : NodePlace coroutine_link (t + 17) c (coroutines_in s t) = member-place coroutine_link (t + 17) c (coroutines_in s t) known in
    cell-cases coroutine_link (cell_of s t c) (t + 17) (coroutines_in s t)
    (subst (λ z. 0 < times z (cells coroutine_link (t + 17) (coroutines_in s t))) (sym r.cell)
    (subst (λ z. 0 < times (last_cell coroutine_link (t + 17) r.front) (cells coroutine_link (t + 17) z)) (sym r.whole) (times-front_cell coroutine_link (t + 17) r.front (c ∷ r.back))))

cell-held : (s : List ℕ) (t c : ℕ) → HasCoroutines s t → is_known s t c ≡ true → holding (cell_of s t c) (blocks_in s) ≢ None
cell-held s t c h known none = on (cell-is s t c h known)
  where
    on : (cell_of s t c ≡ t + 17) ⊎ ((k : ℕ) × (is_known s t k ≡ true) × (cell_of s t c ≡ k + 2)) → ⊥
    on (inl e) = task-held s t 17 h (omega arith) (ap (λ z. holding z (blocks_in s)) (sym e) ∙ none)
    on (inr (k, other, e)) = known-held s t k 2 h other (omega arith) (ap (λ z. holding z (blocks_in s)) (sym e) ∙ none)

-- a word of the task block is not the one before c, unless it is the head
task-no_cell : (s : List ℕ) (t c i : ℕ) → HasCoroutines s t → is_known s t c ≡ true → i < 23 → i ≢ 17 → t + i ≢ cell_of s t c
task-no_cell s t c i h known few ne k = on (cell-is s t c h known)
  where
    on : (cell_of s t c ≡ t + 17) ⊎ ((k : ℕ) × (is_known s t k ≡ true) × (cell_of s t c ≡ k + 2)) → ⊥
    on (inl e) = ne (omega (arith, k, e))
    on (inr (m, other, e)) = task-apart s t m i 2 h other few (omega arith) (k ∙ e)

-- nor is a word of a coroutine, unless it is a link
known-no_cell : (s : List ℕ) (t c m i : ℕ) → HasCoroutines s t → is_known s t c ≡ true → is_known s t m ≡ true → i < 10 → i ≢ 2 → m + i ≢ cell_of s t c
known-no_cell s t c m i h known other few ne k = on (cell-is s t c h known)
  where
    on : (cell_of s t c ≡ t + 17) ⊎ ((k : ℕ) × (is_known s t k ≡ true) × (cell_of s t c ≡ k + 2)) → ⊥
    on (inl e) = task-apart s t m 17 i h other (omega arith) few (sym (k ∙ e))
    on (inr (n, also, e)) = known-same s t m n i 2 h other also few (omega arith) ne (k ∙ e)

-- the size word of c's block is no word of the task block, and none of a coroutine
size-no_word : (s : List ℕ) (t c m i : ℕ) (h : HasCoroutines s t) (known : is_known s t c ≡ true) → is_known s t m ≡ true → i < 10 → m + i ≢ (known-block s t c h known).start
size-no_word s t c m i h known other few e =
    let b : HasBlock s c = known-block s t c h known in
    let a : HasBlock s m = known-block s t m h other in
    on a b (used_at-apart s 200 (blocks_in s) m c (used_block a.start (need (highest_in s m))) (used_block b.start (need (highest_in s c))) h.tiled a.block b.block) e
  where
    on : (a : HasBlock s m) (b : HasBlock s c) → (m ≡ c) ⊎ ((a.start + need (highest_in s m) ≤ b.start) ⊎ (b.start + need (highest_in s c) ≤ a.start)) → m + i ≡ b.start → ⊥
    on a b (inl same) e = absurd (omega (arith, same, b.here, e))
    on a b (inr (inl before)) e = absurd (omega (arith, before, a.here, a.high, few, e))
    on a b (inr (inr behind)) e = absurd (omega (arith, behind, a.here, b.high, e))

size-no_task : (s : List ℕ) (t c i : ℕ) (h : HasCoroutines s t) (known : is_known s t c ≡ true) → i < 23 → t + i ≢ (known-block s t c h known).start
size-no_task s t c i h known few e =
    let b : HasBlock s c = known-block s t c h known in
    let u : UsedBlock s 200 h.task.first h.task.block = used_at-is s 200 (blocks_in s) h.task.first h.task.block h.tiled h.task.used in
    on b u (used_at-apart s 200 (blocks_in s) h.task.first c h.task.block (used_block b.start (need (highest_in s c))) h.tiled h.task.used b.block) e
  where
    on : (b : HasBlock s c) → UsedBlock s 200 h.task.first h.task.block → (h.task.first ≡ c) ⊎ ((block_end h.task.block ≤ b.start) ⊎ (b.start + need (highest_in s c) ≤ h.task.block.start)) → t + i ≡ b.start → ⊥
    on b u (inl same) e = false≢true (sym h.elsewhere ∙ ap (λ z. has z (coroutines_in s t)) same ∙ known)
    on b u (inr (inl before)) e = absurd (omega (arith, before, h.task.high, few, e))
    on b u (inr (inr behind)) e = absurd (omega (arith, behind, u.start, h.task.low, b.high, e))

-- the blocks are the same while c is only out of the list
pub unlinked-blocks : (s : List ℕ) (t c : ℕ) → HasCoroutines s t → is_known s t c ≡ true → SameBlocks s (unlinked s t c)
unlinked-blocks s t c h known =
    SameBlocks-kept s (unlinked s t c) h.tiled (length-set s (cell_of s t c) (get_or s (c + 2) 0)) (λ a low high none.
    get_or-set_other s (cell_of s t c) a (get_or s (c + 2) 0) 0 (λ e. cell-held s t c h known (ap (λ z. holding z (blocks_in s)) (sym e) ∙ none)))

-- a used block that may be given back
pub unlinked-used : (s : List ℕ) (t c : ℕ) (h : HasCoroutines s t) (known : is_known s t c ≡ true)
    → used_at c (blocks_in (unlinked s t c)) ≡ Some (used_block (known-block s t c h known).start (need (highest_in s c)))
unlinked-used s t c h known = ap (used_at c) (unlinked-blocks s t c h known).blocks ∙ (known-block s t c h known).block

pub delete-built : (s : List ℕ) (t c : ℕ) → HasCoroutines s t → is_known s t c ≡ true → has_parent s t c ≡ false → Built (deleted s t c) t (without c (coroutines_in s t)) (active_in s t)
delete-built s t c h known idle =
    let b : HasBlock s c = known-block s t c h known in
    let x : List ℕ = unlinked s t c in
    let v : List ℕ = deleted s t c in
    let blocks : SameBlocks s x = unlinked-blocks s t c h known in
    let after : AfterGive x v c (used_block b.start (need (highest_in s c))) = after_give x v c (used_block b.start (need (highest_in s c))) blocks.tiled (unlinked-used s t c h known) refl in
    let rest : List ℕ = without c (coroutines_in s t) in
    let known_of : (k : ℕ) → has k rest ≡ true → is_known s t k ≡ true = λ k some. without-has c k (coroutines_in s t) some in
    let differ : (k : ℕ) → has k rest ≡ true → k ≢ c = λ k some e. absurd (omega (arith, has-times k rest some, ap (λ z. times z rest) e, gone)) in
    let task_word : (i : ℕ) → i < 23 → i ≢ 17 → get_or v (t + i) 0 ≡ get_or s (t + i) 0 = λ i few ne.
    after.words (t + i) (size-no_task s t c i h known few) ∙ get_or-set_other s (cell_of s t c) (t + i) (get_or s (c + 2) 0) 0 (task-no_cell s t c i h known few ne)
    in
    let word : (k i : ℕ) → is_known s t k ≡ true → i < 10 → i ≢ 2 → get_or v (k + i) 0 ≡ get_or s (k + i) 0 = λ k i other few ne.
    after.words (k + i) (size-no_word s t c k i h known other few) ∙ get_or-set_other s (cell_of s t c) (k + i) (get_or s (c + 2) 0) 0 (known-no_cell s t c k i h known other few ne)
    in
    let out : IsListAt x coroutine_link coroutine_size (t + 17) rest = list-remove s x coroutine_link coroutine_size (t + 17) c h.list known (list-removed s coroutine_link coroutine_size (t + 17) c h.list known) in
    let list : IsListAt v coroutine_link coroutine_size (t + 17) (list_at x coroutine_link (t + 17)) =
    list-same x v coroutine_link coroutine_size (t + 17) out.valid after.same_length (λ a some. after.words a (no_size a (cell-cases coroutine_link a (t + 17) (list_at x coroutine_link (t + 17)) some) out.list))
    in
    let used : (a : ℕ) → a ≢ c → used_at a (blocks_in v) ≡ used_at a (blocks_in s) = λ a ne. after.others a ne ∙ ap (used_at a) blocks.blocks in
    let no_first : h.task.first ≢ c = λ e. false≢true (sym h.elsewhere ∙ ap (λ z. has z (coroutines_in s t)) e ∙ known) in
    built v t rest (active_in s t)
    (record {
      tiled = after.tiled;
      task = record { first = h.task.first; block = h.task.block; used = used h.task.first no_first ∙ h.task.used; low = h.task.low; high = h.task.high };
      elsewhere = not_in h.task.first h.elsewhere;
      list = subst (IsListAt v coroutine_link coroutine_size (t + 17)) out.list list;
      apart = λ a. omega (arith, h.apart a, times-append a (range_with_len t 23) (words_of coroutine_size (coroutines_in s t)), times-append a (range_with_len t 23) (words_of coroutine_size rest), fewer a);
      blocks = all-members (HasBlock v) rest (λ k some. same-block s v t k h (known_of k some) (used k (differ k some)) (word k 4 (known_of k some) (omega arith) (λ e. absurd (omega (arith, e)))));
      out = same-out s v t h (task_word 18 (omega arith) (λ e. absurd (omega (arith, e)))) (λ k other active. word k 1 other (omega arith) (λ e. absurd (omega (arith, e))));
      members = still (active_in s t) h.members idle;
      distinct = h.distinct;
      idle = all-members (λ k. has k (active_in s t) ≡ false → parent_in v k ≡ 0) rest (λ k some none. word k 1 (known_of k some) (omega arith) (λ e. absurd (omega (arith, e))) ∙ no_parent-word s t k h (known_of k some) none);
    })
  where
    r : NodePlace coroutine_link (t + 17) c (coroutines_in s t)
    r = member-place coroutine_link (t + 17) c (coroutines_in s t) known

    gone : times c (without c (coroutines_in s t)) ≡ 0
    gone =
        omega (arith, nodes-apart s coroutine_link coroutine_size (t + 17) (coroutines_in s t) h.list c, ap (times c) r.whole, ap (times c) r.list, times-append c r.front (c ∷ r.back), times-append c r.front r.back, hit-same c c refl)

    fewer : (a : ℕ) → times a (words_of coroutine_size (without c (coroutines_in s t))) ≤ times a (words_of coroutine_size (coroutines_in s t))
    fewer a =
        omega (
          arith,
          ap (λ z. times a (words_of coroutine_size z)) r.whole,
          ap (λ z. times a (words_of coroutine_size z)) r.list,
          times-words_of coroutine_size a r.front (c ∷ r.back),
          times-words_of coroutine_size a r.front r.back,
          times-words_more coroutine_size a c r.back,
        )

    not_in : (k : ℕ) → has k (coroutines_in s t) ≡ false → has k (without c (coroutines_in s t)) ≡ false
    not_in k none = on (has k (without c (coroutines_in s t))) refl
      where
        on : (y : Bool) → has k (without c (coroutines_in s t)) ≡ y → y ≡ false
        on true e = absurd (false≢true (sym none ∙ without-has c k (coroutines_in s t) e))
        on false e = refl

    still : (ks : List ℕ) → AllByRecursion (λ k. has k (coroutines_in s t) ≡ true) ks → has c ks ≡ false → AllByRecursion (λ k. has k (without c (coroutines_in s t)) ≡ true) ks
    still [] members none = tt
    still (k ∷ ks) members none =
        let apart : (c ≢ k) × (has c ks ≡ false) = has-not c k ks none in
        (without-keeps c k (coroutines_in s t) (λ e. apart.0 (sym e)) members.0, still ks members.1 apart.1)

    no_size : (a : ℕ) → (a ≡ t + 17) ⊎ ((k : ℕ) × (has k (list_at (unlinked s t c) coroutine_link (t + 17)) ≡ true) × (a ≡ k + 2)) → list_at (unlinked s t c) coroutine_link (t + 17) ≡ without c (coroutines_in s t)
        → a ≢ (known-block s t c h known).start
    no_size a (inl e) is k = size-no_task s t c 17 h known (omega arith) (sym e ∙ k)
    no_size a (inr (m, some, e)) is k = size-no_word s t c m 2 h known (without-has c m (coroutines_in s t) (sym (ap (has m) is) ∙ some)) (omega arith) (sym e ∙ k)

-- the blocks are those that the giving leaves
pub delete-blocks : (s : List ℕ) (t c : ℕ) → HasCoroutines s t → is_known s t c ≡ true → blocks_in (deleted s t c) ≡ given c (blocks_in s)
delete-blocks s t c h known =
    let b : HasBlock s c = known-block s t c h known in
    let blocks : SameBlocks s (unlinked s t c) = unlinked-blocks s t c h known in
    let after : AfterGive (unlinked s t c) (deleted s t c) c (used_block b.start (need (highest_in s c))) =
    after_give (unlinked s t c) (deleted s t c) c (used_block b.start (need (highest_in s c))) blocks.tiled (unlinked-used s t c h known) refl
    in
    after.blocks ∙ ap (given c) blocks.blocks
