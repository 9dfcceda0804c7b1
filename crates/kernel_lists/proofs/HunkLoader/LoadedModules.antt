-- The modules of a store after a load.
use Rattle.std.proofs.Common.{◌≡◌, ◌≢◌, ◌⊎◌, inl, inr, ◌∙◌, ℕ, ◌+◌, ◌-◌, ◌<◌, ◌≤◌, List, [], ◌∷◌, ◌++◌, length, get_or, set, Some, None, refl, sym, ap, subst, arith, add-zero, length-append, length-set, get_or-set_other}
use Rattle.std.specs.Prelude.{slice_range, sum}
use Rattle.std.specs.List.{AllByRecursion}
use Rattle.std.proofs.lemmas.Bool.{cases_eq, cases_lt}
use Rattle.std.proofs.lemmas.List.{length-map, set-get_or}
use Rattle.std.proofs.lemmas.List.Sums.{sum-map}
use Rattle.module_text.specs.Shapes.{words_in}
use Rattle.module_text.specs.declared.modules.Hunk.{Hunk}
use Rattle.kernel_lists.specs.declared.getvec_chain.pieces.Block.{Block}
use Rattle.kernel_lists.specs.GetvecChain.Block.{block_end, used_block}
use Rattle.kernel_lists.specs.LinkedList.Chain.{list_at}
use Rattle.kernel_lists.proofs.LinkedList.Changed.{InsertedAt}
use Rattle.word_store.specs.Count.{IsApart, node_words, times, words_of}
use Rattle.kernel_lists.specs.LinkedList.Linked.{IsFresh, IsListAt}
use Rattle.kernel_lists.specs.LinkedList.Places.{linked_in}
use Rattle.word_store.specs.Row.{with_words}
use Rattle.kernel_lists.specs.GetvecChain.Run.{need}
use Rattle.kernel_lists.specs.GetvecChain.Take.{IsTaken, taken}
use Rattle.kernel_lists.specs.GetvecChain.Tiling.{IsTiled, blocks_in, used_at}
use Rattle.kernel_lists.proofs.GetvecChain.AfterTake.{AfterTake, after_take}
use Rattle.word_store.proofs.Counts.{IsApart-cons, hit-le, hit-other}
use Rattle.kernel_lists.proofs.LinkedList.Frames.{list-same}
use Rattle.kernel_lists.proofs.LinkedList.Lists.{list-push, list-pushed}
use Rattle.kernel_lists.proofs.LinkedList.Members.{times-has}
use Rattle.kernel_lists.proofs.LinkedList.AllMembers.{all-has, all-map}
use Rattle.word_store.proofs.Rows.{IsOutside, get_or-with_words, get_or-with_words_outside, length-with_words, range-with_words, range_same, with_words-append}
use Rattle.kernel_lists.proofs.GetvecChain.UsedBlocks.{AreDisjoint}
use Rattle.kernel_lists.proofs.GetvecChain.Writes.{SameBlocks, SameBlocks-set_below, SameBlocks-used}
use Rattle.kernel_lists.specs.TaskBlock.Lists.{module_link, modules_in}
use Rattle.kernel_lists.specs.HunkLoader.ModuleRow.{hunks_image, last_word, lengths_of, module_row}
use Rattle.kernel_lists.specs.HunkLoader.Modules.{HasModules, IsModuleAt}
use Rattle.kernel_lists.specs.HunkLoader.RelocatedWords.{relocated}
use Rattle.kernel_lists.specs.HunkLoader.ModuleHunks.{hunk_count, lengths_in}
use Rattle.kernel_lists.proofs.HunkLoader.ModuleBlocks.{cell_at, in_block, linked, module-same, no_block, one_word, times-one, valid-modules}
use Rattle.kernel_lists.proofs.HunkLoader.PlacedHunks.{words_in-cons}
use Rattle.kernel_lists.proofs.HunkLoader.RelocationLists.{length-relocated}

-- ---- the row of a module

length-image : (base : ℕ) (hunks : List Hunk) → length (hunks_image base hunks) ≡ words_in hunks
length-image base [] = refl
length-image base (h ∷ hs) =
    let image = relocated base h.words h.relocations in
    length-append image (hunks_image (base + length h.words) hs)
    ∙ ap (λ (n : ℕ). n + length (hunks_image (base + length h.words) hs)) (length-relocated base h.words h.relocations)
    ∙ ap (λ (n : ℕ). length h.words + n) (length-image (base + length h.words) hs) ∙ sym (words_in-cons h hs)

pub length-lengths : (hunks : List Hunk) → length (lengths_of hunks) ≡ length hunks
length-lengths hunks = length-map hunks (λ (h : Hunk). length h.words)

pub length-row : (link m : ℕ) (hunks : List Hunk) → length (module_row link m hunks) ≡ 1 + last_word hunks
length-row link m hunks =
    let base = m + 2 + length hunks in
    omega (arith, length-append (lengths_of hunks) (hunks_image base hunks), length-lengths hunks, length-image base hunks)

-- ---- where a module of so many words was put into a block that was taken for it

pub record Placed (s t1 : List ℕ) (m : ℕ) (hunks : List Hunk) : Type 0 where
  pub blocks : used_at m (blocks_in t1) ≡ Some (used_block (m - 1) (need (last_word hunks)))
  pub tiled : IsTiled t1
  pub taken : blocks_in t1 ≡ taken (need (last_word hunks)) (blocks_in s)
  pub kept : (w : ℕ) (b : Block) → used_at w (blocks_in s) ≡ Some b → used_at w (blocks_in t1) ≡ Some b
  pub words : (w : ℕ) (b : Block) → used_at w (blocks_in s) ≡ Some b → (a : ℕ) → b.start ≤ a → a < block_end b → get_or t1 a 0 ≡ get_or s a 0
  pub below : (a : ℕ) → a < 200 → get_or t1 a 0 ≡ get_or s a 0
  pub same_length : length t1 ≡ length s
  pub above : 201 ≤ m
  pub inside : m + 1 + last_word hunks + 2 ≤ length s
  pub fresh : used_at m (blocks_in s) ≡ None
  pub link : get_or t1 m 0 ≡ get_or s 104 0
  pub count : hunk_count t1 m ≡ length hunks
  pub lengths : slice_range t1 (m + 2) (m + 2 + length hunks) ≡ lengths_of hunks

pub placed : (s t0 : List ℕ) (m : ℕ) (hunks : List Hunk) → IsTiled s → IsTaken s t0 (last_word hunks) m → Placed s (with_words t0 m (module_row (get_or s 104 0) m hunks)) m hunks
placed s t0 m hunks tiled h =
    record {
      blocks = ap (used_at m) same.blocks ∙ k.is_used;
      tiled = same.tiled;
      taken = same.blocks ∙ k.blocks;
      kept = λ w b e. ap (used_at w) same.blocks ∙ k.kept w b e;
      words = λ w b e a low high. outside a (apart b (k.apart w b e) a low high) ∙ k.words w b e a low high;
      below = λ a low. outside a (λ above. absurd (omega (arith, k.low))) ∙ k.below a low;
      same_length = size ∙ k.same_length;
      above = k.low;
      inside = inside;
      fresh = k.was_none;
      link = first;
      count = second;
      lengths = lengths;
    }
  where
    u : ℕ
    u = last_word hunks

    link : ℕ
    link = get_or s 104 0

    row : List ℕ
    row = module_row link m hunks

    t1 : List ℕ
    t1 = with_words t0 m row

    k : AfterTake s t0 u m
    k = after_take s t0 u m tiled h

    b : Block
    b = used_block (m - 1) (need u)

    many : length row ≡ 1 + u
    many = length-row link m hunks

    size : length t1 ≡ length t0
    size = length-with_words t0 m row

    end : m + length row ≤ block_end b
    end = omega (arith, many, k.low)

    fits : m + length row ≤ length t0
    fits = omega (arith, end, k.inside, k.same_length)

    inside : m + 1 + u + 2 ≤ length s
    inside = omega (arith, many, end, k.inside)

    outside : (a : ℕ) → (m ≤ a → block_end b ≤ a) → get_or t1 a 0 ≡ get_or t0 a 0
    outside a out = get_or-with_words_outside t0 m row a (by (cases_lt a m))
      where
        by : (a < m) ⊎ (m ≤ a) → IsOutside a m (length row)
        by (inl low) = inl low
        by (inr high) = inr (omega (arith, end, out high))

    same : SameBlocks t0 t1
    same = SameBlocks-used t0 t1 m b k.tiled k.is_used size outside

    apart : (c : Block) → AreDisjoint c b → (a : ℕ) → c.start ≤ a → a < block_end c → m ≤ a → block_end b ≤ a
    apart c (inl before) a low high above = absurd (omega (arith, k.low))
    apart c (inr after) a low high above = omega arith

    first : get_or t1 m 0 ≡ link
    first = ap (λ (a : ℕ). get_or t1 a 0) (sym (add-zero m)) ∙ get_or-with_words t0 m row 0 (omega (arith, many)) fits

    second : hunk_count t1 m ≡ length hunks
    second = get_or-with_words t0 m row 1 (omega (arith, many)) fits

    lengths : slice_range t1 (m + 2) (m + 2 + length hunks) ≡ lengths_of hunks
    lengths =
        let base = m + 2 + length hunks in
        let image = hunks_image base hunks in
        let two : m + 1 + 1 ≡ m + 2 = omega arith in
        let r = set (set t0 m link) (m + 1) (length hunks) in
        let n = length-lengths hunks in
        let long : length r ≡ length t0 = length-set (set t0 m link) (m + 1) (length hunks) ∙ length-set t0 m link in
        let all : t1 ≡ with_words (with_words r (m + 2) (lengths_of hunks)) base image
        = ap (λ (x : ℕ). with_words r x (lengths_of hunks ++ image)) two ∙ with_words-append r (m + 2) (lengths_of hunks) image
        ∙ ap (λ (x : ℕ). with_words (with_words r (m + 2) (lengths_of hunks)) (m + 2 + x) image) n in
        let q = with_words r (m + 2) (lengths_of hunks) in
        let long' : length q ≡ length r = length-with_words r (m + 2) (lengths_of hunks) in
        ap (λ (x : List ℕ). slice_range x (m + 2) (m + 2 + length hunks)) all
        ∙ range_same q (with_words q base image) (m + 2) (length hunks) (omega (arith, inside, k.same_length)) (omega (arith, length-with_words q base image, inside, k.same_length))
        (λ i low high. get_or-with_words_outside q base image i (inl high))
        ∙ ap (λ (x : ℕ). slice_range q (m + 2) (m + 2 + x)) (sym n)
        ∙ range-with_words r (m + 2) (lengths_of hunks) (omega (arith, n, inside, k.same_length))

-- ---- and its address put into word 104

pub record Loaded (s t : List ℕ) (u m : ℕ) : Type 0 where
  pub modules : modules_in t ≡ m ∷ modules_in s
  pub valid : HasModules t
  pub blocks : blocks_in t ≡ taken (need u) (blocks_in s)

old_module : (s t1 : List ℕ) (m : ℕ) (hunks : List Hunk) → IsTiled s → Placed s t1 m hunks → (n : ℕ) → IsModuleAt s n → get_or t1 n 0 ≡ get_or s n 0
old_module s t1 m hunks tiled p n h =
    let b = in_block s n tiled h in
    p.words n h.block h.used n (omega (arith, b.start)) (omega (arith, b.few))

-- the list that was there is still there
list_kept : (s t1 : List ℕ) (m : ℕ) (hunks : List Hunk) → HasModules s → Placed s t1 m hunks → IsListAt t1 module_link one_word 104 (modules_in s)
list_kept s t1 m hunks h p = list-same s t1 module_link one_word 104 (linked s h) p.same_length (λ a some. by a (cell_at s h a some))
  where
    by : (a : ℕ) → (a ≡ 104) ⊎ (0 < times a (modules_in s)) → get_or t1 a 0 ≡ get_or s a 0
    by a (inl head) = p.below a (omega arith)
    by a (inr some) = old_module s t1 m hunks h.tiled p a (all-has (IsModuleAt s) a (modules_in s) h.modules (times-has a (modules_in s) some))

-- the new module is none of them
is_fresh : (s t1 : List ℕ) (m : ℕ) (hunks : List Hunk) → HasModules s → Placed s t1 m hunks → IsFresh t1 module_link one_word 104 (modules_in s) m
is_fresh s t1 m hunks h p =
    record {
      node = record { some = omega (arith, p.above); after = omega arith; before = omega arith; inside = omega (arith, p.inside, p.same_length) };
      apart = λ a. by a (cases_eq a m);
    }
  where
    by : (a : ℕ) → (a ≡ m) ⊎ (a ≢ m) → times a (node_words one_word m) + times a (104 ∷ words_of one_word (modules_in s)) ≤ 1
    by a (inl same) =
        let none = no_block s (modules_in s) m h.modules p.fresh in
        let none' : times a (modules_in s) ≡ 0 = ap (λ z. times z (modules_in s)) same ∙ none in
        omega (arith, hit-le a m, times-one a (modules_in s), hit-other a 104 (λ e. absurd (omega (arith, p.above))))
    by a (inr differ) = omega (arith, hit-other a m differ, (linked s h).apart a)

pub modules_loaded : (s t1 : List ℕ) (m : ℕ) (hunks : List Hunk) → HasModules s → Placed s t1 m hunks → Loaded s (set t1 104 m) (last_word hunks) m
modules_loaded s t1 m hunks h p =
    record { modules = list; valid = valid-modules t (m ∷ modules_in s) blocks.tiled now.valid list (new, old) apart; blocks = blocks.blocks ∙ p.taken }
  where
    t : List ℕ
    t = set t1 104 m

    kept : IsListAt t1 module_link one_word 104 (modules_in s)
    kept = list_kept s t1 m hunks h p

    fresh : IsFresh t1 module_link one_word 104 (list_at t1 module_link 104) m
    fresh = subst (λ ms. IsFresh t1 module_link one_word 104 ms m) (sym kept.list) (is_fresh s t1 m hunks h p)

    words : linked_in t1 module_link 104 m ≡ t
    words =
        let same : get_or t1 104 0 ≡ get_or t1 m 0 = p.below 104 (omega arith) ∙ sym p.link in
        ap (λ (w : ℕ). set (set t1 m w) 104 m) same ∙ ap (λ (x : List ℕ). set x 104 m) (set-get_or t1 m 0)

    now : IsListAt t module_link one_word 104 (m ∷ list_at t1 module_link 104)
    now = list-push t1 t module_link one_word 104 m kept.valid fresh
        (subst (λ x. InsertedAt t1 x module_link one_word 104 m) words (list-pushed t1 module_link one_word 104 m kept.valid fresh))

    list : modules_in t ≡ m ∷ modules_in s
    list = now.list ∙ ap (λ (ms : List ℕ). m ∷ ms) kept.list

    blocks : SameBlocks t1 t
    blocks = SameBlocks-set_below t1 104 m p.tiled (omega arith)

    size : length t ≡ length s
    size = length-set t1 104 m ∙ p.same_length

    other : (a : ℕ) → 104 < a → get_or t a 0 ≡ get_or t1 a 0
    other a above = get_or-set_other t1 104 a m 0 (λ e. absurd (omega arith))

    old : AllByRecursion (IsModuleAt t) (modules_in s)
    old = all-map (IsModuleAt s) (IsModuleAt t) (modules_in s) (λ n some k.
        (let b = in_block s n h.tiled k in
        module-same s t n h.tiled k size (ap (used_at n) blocks.blocks ∙ p.kept n k.block k.used)
        (λ a low high. other a (omega (arith, b.above)) ∙ p.words n k.block k.used a (omega (arith, b.start)) high))) h.modules

    new : IsModuleAt t m
    new =
        let u = last_word hunks in
        let above = p.above in
        let count : hunk_count t m ≡ length hunks = other (m + 1) (omega arith) ∙ p.count in
        let lengths : lengths_in t m ≡ lengths_of hunks
        = ap (λ (n : ℕ). slice_range t (m + 2) (m + 2 + n)) count
        ∙ range_same t1 t (m + 2) (length hunks) (omega (arith, p.inside, p.same_length)) (omega (arith, p.inside, size)) (λ i low high. other i (omega arith))
        ∙ p.lengths in
        let all : 1 + hunk_count t m + sum (lengths_in t m) ≡ u
        = ap (λ (n : ℕ). 1 + n + sum (lengths_in t m)) count ∙ ap (λ (ns : List ℕ). 1 + length hunks + sum ns) lengths
        ∙ ap (λ (n : ℕ). 1 + length hunks + n) (sum-map (λ (x : Hunk). length x.words) hunks) in
        record { block = used_block (m - 1) (need u); used = ap (used_at m) blocks.blocks ∙ p.blocks; size = ap need (sym all) }

    apart : IsApart (m ∷ modules_in s)
    apart = IsApart-cons m (modules_in s) (no_block s (modules_in s) m h.modules p.fresh) h.apart
