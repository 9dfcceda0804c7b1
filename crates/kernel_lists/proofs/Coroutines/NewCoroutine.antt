-- A coroutine is made in a block of its own, and becomes the first of its list.
use Rattle.std.proofs.Common.{◌≡◌, ◌≢◌, ◌⊎◌, inl, inr, ℕ, ◌+◌, ◌-◌, ◌<◌, ◌≤◌, List, [], ◌∷◌, ◌++◌, length, get_or, set, eqb, ◌||◌, true, false, Some, None, sym, ap, ◌∙◌, subst, arith, get_or-set_other, get_or-set_same, length-set}
use Rattle.std.specs.List.{AllByRecursion, range_with_len}
use Rattle.std.proofs.lemmas.Bool.{cases_eq, cases_lt}
use Rattle.std.proofs.lemmas.Bool.Decides.{nat_tests}
use Rattle.kernel_lists.specs.declared.getvec_chain.pieces.Block.{Block}
use Rattle.kernel_lists.specs.GetvecChain.Block.{block_end, used_block}
use Rattle.kernel_lists.specs.LinkedList.Chain.{list_at}
use Rattle.word_store.specs.Count.{hit, node_words, times, words_of}
use Rattle.kernel_lists.specs.LinkedList.Linked.{IsFresh, IsNode, IsListAt}
use Rattle.kernel_lists.specs.LinkedList.Places.{has}
use Rattle.word_store.specs.Row.{with_words}
use Rattle.kernel_lists.specs.GetvecChain.Run.{need}
use Rattle.kernel_lists.specs.GetvecChain.Take.{IsTaken, taken}
use Rattle.kernel_lists.specs.GetvecChain.Tiling.{IsTiled, blocks_in, used_at}
use Rattle.kernel_lists.proofs.GetvecChain.AfterTake.{AfterTake, after_take}
use Rattle.word_store.proofs.Counts.{hit-other, hit-same, range-apart, range-high, range-low, times-append, times-within, times-words_more}
use Rattle.kernel_lists.proofs.LinkedList.Frames.{list-same}
use Rattle.kernel_lists.proofs.LinkedList.Lists.{list-push}
use Rattle.word_store.proofs.Rows.{get_or-with_words, get_or-with_words_outside, length-with_words}
use Rattle.kernel_lists.proofs.GetvecChain.UsedBlocks.{UsedBlock, used_at-is}
use Rattle.kernel_lists.proofs.GetvecChain.Writes.{SameBlocks, SameBlocks-set_used, SameBlocks-then, SameBlocks-used}
use Rattle.kernel_lists.specs.TaskBlock.Lists.{coroutine_link, coroutines_in}
use Rattle.kernel_lists.specs.Coroutines.Active.{active_in}
use Rattle.kernel_lists.specs.Coroutines.Coroutines.{HasBlock, HasCoroutines}
use Rattle.kernel_lists.specs.Coroutines.CoroutineWords.{coroutine_size, highest_in, parent_in}
use Rattle.kernel_lists.specs.Coroutines.Creation.{highest, new_words}
use Rattle.kernel_lists.specs.Coroutines.Refusals.{is_known}
use Rattle.kernel_lists.proofs.Coroutines.CoroutineLists.{Built, built}
use Rattle.kernel_lists.proofs.LinkedList.AllMembers.{all-members}
use Rattle.kernel_lists.proofs.LinkedList.Members.{has-there, cell-cases}
use Rattle.kernel_lists.proofs.Coroutines.KnownCoroutines.{known-block, no_parent-word, task-apart, task-inside}
use Rattle.kernel_lists.proofs.Coroutines.KeptWords.{range-none, same-block, same-out, words-none}

-- the store in which the coroutine at c was made, after its block was taken
abbrev pub made : List ℕ → List ℕ → ℕ → ℕ → ℕ → ℕ → List ℕ
made s x t c entry u = set (with_words x c (new_words c (get_or s (t + 17) 0) entry u)) (t + 17) c

pub highest-low : (u : ℕ) → 16 ≤ highest u
highest-low u = omega arith

-- where the words of a used block lie, beside one that was taken
beside : (b : Block) (a c n : ℕ) → 201 ≤ c → b.start < a → a < block_end b → (block_end b ≤ c - 1) ⊎ (c - 1 + n ≤ b.start) → (a < c) ⊎ (c - 1 + n ≤ a)
beside b a c n low above below (inl before) = inl (omega arith)
beside b a c n low above below (inr behind) = inr (omega arith)

-- the words of the task block lie outside the new block
task-beside : (s x : List ℕ) (t c u i : ℕ) → HasCoroutines s t → AfterTake s x (highest u) c → i < 23 → (t + i < c) ⊎ (c - 1 + need (highest u) ≤ t + i)
task-beside s x t c u i h after few =
    let d : UsedBlock s 200 h.task.first h.task.block = used_at-is s 200 (blocks_in s) h.task.first h.task.block h.tiled h.task.used in
    beside h.task.block (t + i) c (need (highest u)) after.low (omega (arith, d.start, h.task.low)) (omega (arith, h.task.high)) (after.apart h.task.first h.task.block h.task.used)

-- and so do those of the coroutines before
known-beside : (s x : List ℕ) (t c u k i : ℕ) → HasCoroutines s t → AfterTake s x (highest u) c → is_known s t k ≡ true → i < 10 → (k + i < c) ⊎ (c - 1 + need (highest u) ≤ k + i)
known-beside s x t c u k i h after known few =
    let b : HasBlock s k = known-block s t k h known in
    beside (used_block b.start (need (highest_in s k))) (k + i) c (need (highest u)) after.low (omega (arith, b.here)) (omega (arith, b.here, b.high)) (after.apart k (used_block b.start (need (highest_in s k))) b.block)

-- so none is a word of the coroutine
outside-differs : (a c n j : ℕ) → 201 ≤ c → 18 ≤ n → j < 10 → (a < c) ⊎ (c - 1 + n ≤ a) → a ≢ c + j
outside-differs a c n j low size few (inl before) e = absurd (omega arith)
outside-differs a c n j low size few (inr behind) e = absurd (omega arith)

outside-row : (a c n : ℕ) → 201 ≤ c → 18 ≤ n → (a < c) ⊎ (c - 1 + n ≤ a) → (a < c) ⊎ (c + 10 ≤ a)
outside-row a c n low size (inl before) = inl before
outside-row a c n low size (inr behind) = inr (omega arith)

need-size : (u : ℕ) → 18 ≤ need (highest u)
need-size u = omega (arith, highest-low u)

-- a word of the coroutine
pub made-own : (s x : List ℕ) (t c entry u i : ℕ) → HasCoroutines s t → AfterTake s x (highest u) c → i < 10
    → get_or (made s x t c entry u) (c + i) 0 ≡ get_or (new_words c (get_or s (t + 17) 0) entry u) i 0
made-own s x t c entry u i h after few =
    get_or-set_other (with_words x c (new_words c (get_or s (t + 17) 0) entry u)) (t + 17) (c + i) c 0 (λ e. outside-differs (t + 17) c (need (highest u)) i after.low (need-size u) few (task-beside s x t c u 17 h after (omega arith)) (sym e))
    ∙ get_or-with_words x c (new_words c (get_or s (t + 17) 0) entry u) i few (omega (arith, after.inside, after.same_length, need-size u, after.low))

-- a word outside of it that is not the head
made-outside : (s x : List ℕ) (t c entry u a : ℕ) → AfterTake s x (highest u) c → (a < c) ⊎ (c - 1 + need (highest u) ≤ a) → a ≢ t + 17 → get_or (made s x t c entry u) a 0 ≡ get_or x a 0
made-outside s x t c entry u a after out ne =
    get_or-set_other (with_words x c (new_words c (get_or s (t + 17) 0) entry u)) (t + 17) a c 0 ne
    ∙ get_or-with_words_outside x c (new_words c (get_or s (t + 17) 0) entry u) a (outside-row a c (need (highest u)) after.low (need-size u) out)

-- a word of the task block but the head
made-task : (s x : List ℕ) (t c entry u i : ℕ) → HasCoroutines s t → AfterTake s x (highest u) c → i < 23 → i ≢ 17 → get_or (made s x t c entry u) (t + i) 0 ≡ get_or s (t + i) 0
made-task s x t c entry u i h after few ne =
    let d : UsedBlock s 200 h.task.first h.task.block = used_at-is s 200 (blocks_in s) h.task.first h.task.block h.tiled h.task.used in
    made-outside s x t c entry u (t + i) after (task-beside s x t c u i h after few) (λ e. ne (omega (arith, e)))
    ∙ after.words h.task.first h.task.block h.task.used (t + i) (omega (arith, d.start, h.task.low)) (omega (arith, h.task.high))

-- a word of a coroutine that was there
made-known : (s x : List ℕ) (t c entry u k i : ℕ) → HasCoroutines s t → AfterTake s x (highest u) c → is_known s t k ≡ true → i < 10 → get_or (made s x t c entry u) (k + i) 0 ≡ get_or s (k + i) 0
made-known s x t c entry u k i h after known few =
    let b : HasBlock s k = known-block s t k h known in
    made-outside s x t c entry u (k + i) after (known-beside s x t c u k i h after known few) (λ e. task-apart s t k 17 i h known (omega arith) few (sym e))
    ∙ after.words k (used_block b.start (need (highest_in s k))) b.block (k + i) (omega (arith, b.here)) (omega (arith, b.here, b.high))

-- the blocks are those after the take
made-blocks : (s x : List ℕ) (t c entry u : ℕ) → HasCoroutines s t → AfterTake s x (highest u) c → SameBlocks x (made s x t c entry u)
made-blocks s x t c entry u h after =
    let y : List ℕ = with_words x c (new_words c (get_or s (t + 17) 0) entry u) in
    let row : SameBlocks x y =
    SameBlocks-used x y c (used_block (c - 1) (need (highest u))) after.tiled after.is_used (length-with_words x c (new_words c (get_or s (t + 17) 0) entry u))
    (λ a out. get_or-with_words_outside x c (new_words c (get_or s (t + 17) 0) entry u) a (where_from a (cases_lt a c) out))
    in
    let used : used_at h.task.first (blocks_in y) ≡ Some h.task.block = ap (used_at h.task.first) row.blocks ∙ after.kept h.task.first h.task.block h.task.used in
    SameBlocks-then x y (made s x t c entry u) row (SameBlocks-set_used y h.task.first (t + 17) c h.task.block row.tiled used (omega (arith, h.task.low)) (omega (arith, h.task.high)))
  where
    where_from : (a : ℕ) → (a < c) ⊎ (c ≤ a) → (c ≤ a → c - 1 + need (highest u) ≤ a) → (a < c) ⊎ (c + 10 ≤ a)
    where_from a (inl before) out = inl before
    where_from a (inr behind) out = inr (omega (arith, out behind, need-size u, after.low))

pub create-built : (s x : List ℕ) (t c entry u : ℕ) → HasCoroutines s t → IsTaken s x (highest u) c → Built (made s x t c entry u) t (c ∷ coroutines_in s t) (active_in s t)
create-built s x t c entry u h taken =
    let v : List ℕ = made s x t c entry u in
    let blocks : SameBlocks x v = made-blocks s x t c entry u h after in
    let known_differs : (k : ℕ) → is_known s t k ≡ true → k ≢ c = λ k known e. absurd (is_new k known e) in
    let of_x : IsListAt x coroutine_link coroutine_size (t + 17) (coroutines_in s t) =
    list-same s x coroutine_link coroutine_size (t + 17) h.list after.same_length (λ a some. cell_stays a (cell-cases coroutine_link a (t + 17) (coroutines_in s t) some))
    in
    let own : (i : ℕ) → i < 10 → get_or v (c + i) 0 ≡ get_or (new_words c (get_or s (t + 17) 0) entry u) i 0 = λ i few. made-own s x t c entry u i h after few in
    let apart : (a : ℕ) → times a (node_words coroutine_size c) + times a (range_with_len t 23 ++ words_of coroutine_size (coroutines_in s t)) ≤ 1 = λ a. new_apart a in
    let node : IsNode x coroutine_link coroutine_size c = record { some = omega (arith, after.low); after = omega arith; before = omega arith; inside = omega (arith, after.inside, after.same_length, need-size u, after.low) } in
    let fresh : IsFresh x coroutine_link coroutine_size (t + 17) (list_at x coroutine_link (t + 17)) c =
    subst (λ z. IsFresh x coroutine_link coroutine_size (t + 17) z c) (sym of_x.list)
    (record { node = node; apart = λ a. omega (arith, apart a, times-append a (range_with_len t 23) (words_of coroutine_size (coroutines_in s t)), head_hit a) })
    in
    let pushed : IsListAt v coroutine_link coroutine_size (t + 17) (c ∷ list_at x coroutine_link (t + 17)) =
    list-push x v coroutine_link coroutine_size (t + 17) c of_x.valid fresh
    (record {
      same_length = length-set (with_words x c (new_words c (get_or s (t + 17) 0) entry u)) (t + 17) c ∙ length-with_words x c (new_words c (get_or s (t + 17) 0) entry u);
      to = own 2 (omega arith) ∙ sym (task_in_x 17 (omega arith));
      from = get_or-set_same (with_words x c (new_words c (get_or s (t + 17) 0) entry u)) (t + 17) c 0 (omega (arith, length-with_words x c (new_words c (get_or s (t + 17) 0) entry u), after.same_length, (task-inside s t h).1));
      others = λ a ne none. get_or-set_other (with_words x c (new_words c (get_or s (t + 17) 0) entry u)) (t + 17) a c 0 ne ∙ get_or-with_words_outside x c (new_words c (get_or s (t + 17) 0) entry u) a (not_within a none);
    })
    in
    let used : (a : ℕ) → a ≢ c → used_at a (blocks_in v) ≡ used_at a (blocks_in s) = λ a ne. ap (used_at a) blocks.blocks ∙ after.others a ne in
    let first_differs : h.task.first ≢ c = λ e. is_new_first e in
    built v t (c ∷ coroutines_in s t) (active_in s t)
    (record {
      tiled = blocks.tiled;
      task = record { first = h.task.first; block = h.task.block; used = used h.task.first first_differs ∙ h.task.used; low = h.task.low; high = h.task.high };
      elsewhere = (let test : eqb h.task.first c ≡ false = grind (arith, nat_tests) in ap (λ b. b || has h.task.first (coroutines_in s t)) test ∙ h.elsewhere);
      list = subst (λ z. IsListAt v coroutine_link coroutine_size (t + 17) (c ∷ z)) of_x.list pushed;
      apart = λ a. omega (arith, apart a, times-append a (range_with_len t 23) (words_of coroutine_size (coroutines_in s t)), times-append a (range_with_len t 23) (words_of coroutine_size (c ∷ coroutines_in s t)), times-words_more coroutine_size a c (coroutines_in s t));
      blocks = (
        record {
          start = c - 1;
          here = omega (arith, after.low);
          block = ap (used_at c) blocks.blocks ∙ after.is_used ∙ ap (λ z. Some (used_block (c - 1) (need z))) (sym (own 4 (omega arith)));
          high = subst (λ z. 16 ≤ z) (sym (own 4 (omega arith))) (highest-low u);
        },
        all-members (HasBlock v) (coroutines_in s t) (λ k known. same-block s v t k h known (used k (known_differs k known)) (made-known s x t c entry u k 4 h after known (omega arith))),
      );
      out = same-out s v t h (made-task s x t c entry u 18 h after (omega arith) (λ e. absurd (omega (arith, e)))) (λ k known active. made-known s x t c entry u k 1 h after known (omega arith));
      members = behind (active_in s t) h.members;
      distinct = h.distinct;
      idle = ((λ none. own 1 (omega arith)), all-members (λ k. has k (active_in s t) ≡ false → parent_in v k ≡ 0) (coroutines_in s t) (λ k known none. made-known s x t c entry u k 1 h after known (omega arith) ∙ no_parent-word s t k h known none));
    })
  where
    after : AfterTake s x (highest u) c
    after = after_take s x (highest u) c h.tiled taken

    is_new : (k : ℕ) → is_known s t k ≡ true → k ≡ c → ⊥
    is_new k known e = some-none (sym (known-block s t k h known).block ∙ ap (λ z. used_at z (blocks_in s)) e ∙ after.was_none)
      where
        some-none : {b : Block} → Some b ≡ None → ⊥
        some-none k = cc

    is_new_first : h.task.first ≡ c → ⊥
    is_new_first e = some-none (sym h.task.used ∙ ap (λ z. used_at z (blocks_in s)) e ∙ after.was_none)
      where
        some-none : {b : Block} → Some b ≡ None → ⊥
        some-none k = cc

    task_in_x : (i : ℕ) → i < 23 → get_or x (t + i) 0 ≡ get_or s (t + i) 0
    task_in_x i few =
        let d : UsedBlock s 200 h.task.first h.task.block = used_at-is s 200 (blocks_in s) h.task.first h.task.block h.tiled h.task.used in
        after.words h.task.first h.task.block h.task.used (t + i) (omega (arith, d.start, h.task.low)) (omega (arith, h.task.high))

    cell_stays : (a : ℕ) → (a ≡ t + 17) ⊎ ((k : ℕ) × (has k (coroutines_in s t) ≡ true) × (a ≡ k + 2)) → get_or x a 0 ≡ get_or s a 0
    cell_stays a (inl e) = subst (λ z. get_or x z 0 ≡ get_or s z 0) (sym e) (task_in_x 17 (omega arith))
    cell_stays a (inr (k, known, e)) =
        let b : HasBlock s k = known-block s t k h known in
        subst (λ z. get_or x z 0 ≡ get_or s z 0) (sym e) (after.words k (used_block b.start (need (highest_in s k))) b.block (k + 2) (omega (arith, b.here)) (omega (arith, b.here, b.high)))

    new_apart : (a : ℕ) → times a (node_words coroutine_size c) + times a (range_with_len t 23 ++ words_of coroutine_size (coroutines_in s t)) ≤ 1
    new_apart a = on (cases_lt 0 (times a (node_words coroutine_size c)))
      where
        on : (0 < times a (node_words coroutine_size c)) ⊎ (times a (node_words coroutine_size c) ≤ 0) → times a (node_words coroutine_size c) + times a (range_with_len t 23 ++ words_of coroutine_size (coroutines_in s t)) ≤ 1
        on (inr none) = omega (arith, none, h.apart a)
        on (inl some) =
            let low : c ≤ a = range-low a c 10 some in
            let high : a < c + 10 = range-high a c 10 some in
            let same : c + (a - c) ≡ a = omega arith in
            let no_task : times a (range_with_len t 23) ≡ 0 = range-none a t 23 (λ i few e.
            outside-differs (t + i) c (need (highest u)) (a - c) after.low (need-size u) (omega arith) (task-beside s x t c u i h after few) (sym e ∙ sym same)) in
            let no_word : times a (words_of coroutine_size (coroutines_in s t)) ≡ 0 = words-none coroutine_size a (coroutines_in s t) (λ k known. range-none a k 10 (λ i few e.
            outside-differs (k + i) c (need (highest u)) (a - c) after.low (need-size u) (omega arith) (known-beside s x t c u k i h after known few) (sym e ∙ sym same))) in
            omega (arith, range-apart c 10 a, no_task, no_word, times-append a (range_with_len t 23) (words_of coroutine_size (coroutines_in s t)))

    head_hit : (a : ℕ) → hit a (t + 17) ≤ times a (range_with_len t 23)
    head_hit a = elim (cases_eq a (t + 17)) [ inl e ↦ omega (arith, hit-same a (t + 17) e, times-within a t 23 (omega (arith, e)) (omega (arith, e))) | inr ne ↦ omega (arith, hit-other a (t + 17) ne) ]

    not_within : (a : ℕ) → times a (node_words coroutine_size c) ≡ 0 → (a < c) ⊎ (c + 10 ≤ a)
    not_within a none =
        elim (cases_lt a c) [
          | inl before ↦ inl before
          | inr low ↦ elim (cases_lt a (c + 10)) [ inl high ↦ absurd (omega (arith, none, times-within a c 10 (omega (arith, low)) high)) | inr behind ↦ inr (omega (arith, behind)) ]
        ]

    behind : (ks : List ℕ) → AllByRecursion (λ k. has k (coroutines_in s t) ≡ true) ks → AllByRecursion (λ k. has k (c ∷ coroutines_in s t) ≡ true) ks
    behind [] members = tt
    behind (k ∷ ks) members = (has-there k c (coroutines_in s t) members.0, behind ks members.1)

-- the words of the coroutine lie in the store
pub made-room : (s x : List ℕ) (t c u : ℕ) → IsTiled s → IsTaken s x (highest u) c → c + 10 ≤ length x
made-room s x t c u tiled taken =
    let after : AfterTake s x (highest u) c = after_take s x (highest u) c tiled taken in
    omega (arith, after.inside, after.same_length, after.low, need-size u)

-- the blocks are those that the take leaves
pub create-blocks : (s x : List ℕ) (t c entry u : ℕ) → HasCoroutines s t → IsTaken s x (highest u) c → blocks_in (made s x t c entry u) ≡ taken (need (highest u)) (blocks_in s)
create-blocks s x t c entry u h taken =
    let after : AfterTake s x (highest u) c = after_take s x (highest u) c h.tiled taken in
    (made-blocks s x t c entry u h after).blocks ∙ after.blocks
