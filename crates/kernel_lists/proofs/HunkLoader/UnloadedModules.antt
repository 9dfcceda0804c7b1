-- The modules of a store after one was unloaded.
use Rattle.std.proofs.Common.{◌≡◌, ◌≢◌, ◌⊎◌, inl, inr, ◌∙◌, ℕ, ◌+◌, ◌-◌, ◌<◌, ◌≤◌, List, length, get_or, set, true, Some, sym, ap, subst, arith, length-set, get_or-set_other}
use Rattle.std.specs.List.{AllByRecursion}
use Rattle.std.proofs.lemmas.Bool.{cases_eq}
use Rattle.kernel_lists.specs.GetvecChain.Block.{block_end}
use Rattle.kernel_lists.specs.LinkedList.Chain.{cells, list_at}
use Rattle.word_store.specs.Count.{times}
use Rattle.kernel_lists.specs.GetvecChain.Give.{given_store}
use Rattle.kernel_lists.specs.LinkedList.Places.{cell_before, has, linked_out, without}
use Rattle.kernel_lists.specs.GetvecChain.Tiling.{blocks_in, used_at}
use Rattle.kernel_lists.proofs.GetvecChain.AfterGive.{AfterGive, after_give}
use Rattle.kernel_lists.proofs.LinkedList.Chains.{times-cells}
use Rattle.word_store.proofs.Counts.{hit-other}
use Rattle.kernel_lists.proofs.LinkedList.Frames.{list-set}
use Rattle.kernel_lists.proofs.LinkedList.Lists.{list-remove, list-removed}
use Rattle.kernel_lists.specs.LinkedList.Linked.{IsListAt}
use Rattle.kernel_lists.proofs.LinkedList.Members.{cell_before-cases, times-without, without-times}
use Rattle.kernel_lists.proofs.LinkedList.AllMembers.{all-has, all-map, all-without}
use Rattle.kernel_lists.proofs.GetvecChain.UsedBlocks.{AreDisjoint}
use Rattle.kernel_lists.proofs.GetvecChain.Writes.{SameBlocks, SameBlocks-set_below, SameBlocks-set_used}
use Rattle.kernel_lists.specs.TaskBlock.Lists.{module_link, modules_in}
use Rattle.kernel_lists.specs.HunkLoader.Modules.{HasModules, IsModuleAt}
use Rattle.kernel_lists.proofs.HunkLoader.ModuleBlocks.{InBlock, in_block, linked, module-same, modules-apart, no_module, one_word, times-one, valid-modules}

-- ---- a module is linked out, and its block given back

pub record LinkedOut (s : List ℕ) (m : ℕ) : Type 0 where
  pub here : IsModuleAt s m
  pub blocks : SameBlocks s (linked_out s module_link (cell_before module_link m 104 (modules_in s)) m)
  pub used : used_at m (blocks_in (linked_out s module_link (cell_before module_link m 104 (modules_in s)) m)) ≡ Some here.block

pub record Unloaded (s t : List ℕ) (m : ℕ) : Type 0 where
  pub modules : modules_in t ≡ without m (modules_in s)
  pub valid : HasModules t

-- the word before it is word 104, or a module's first word
cell-where : (s : List ℕ) (m : ℕ) → (cell_before module_link m 104 (modules_in s) ≡ 104) ⊎ (has (cell_before module_link m 104 (modules_in s)) (modules_in s) ≡ true)
cell-where s m = on (cell_before-cases module_link m 104 (modules_in s))
  where
    cell : ℕ
    cell = cell_before module_link m 104 (modules_in s)

    on : (cell ≡ 104) ⊎ ((k : ℕ) × (has k (modules_in s) ≡ true) × (cell ≡ k)) → (cell ≡ 104) ⊎ (has cell (modules_in s) ≡ true)
    on (inl e) = inl e
    on (inr (k, some, e)) = inr (subst (λ z. has z (modules_in s) ≡ true) (sym e) some)

pub out_linked : (s : List ℕ) (m : ℕ) → HasModules s → has m (modules_in s) ≡ true → LinkedOut s m
out_linked s m h e =
    record { here = k; blocks = same; used = ap (used_at m) same.blocks ∙ k.used }
  where
    k : IsModuleAt s m
    k = all-has (IsModuleAt s) m (modules_in s) h.modules e

    cell : ℕ
    cell = cell_before module_link m 104 (modules_in s)

    by : (cell ≡ 104) ⊎ (has cell (modules_in s) ≡ true) → SameBlocks s (linked_out s module_link cell m)
    by (inl head) = SameBlocks-set_below s cell (get_or s m 0) h.tiled (omega arith)
    by (inr some) =
        let c = all-has (IsModuleAt s) cell (modules_in s) h.modules some in
        let b = in_block s cell h.tiled c in
        SameBlocks-set_used s cell cell (get_or s m 0) c.block h.tiled c.used (omega arith) (omega (arith, b.few))

    same : SameBlocks s (linked_out s module_link cell m)
    same = by (cell-where s m)

pub modules_unloaded : (s t : List ℕ) (m : ℕ) → HasModules s → has m (modules_in s) ≡ true → t ≡ given_store (linked_out s module_link (cell_before module_link m 104 (modules_in s)) m) m → Unloaded s t m
modules_unloaded s t m h e words =
    record { modules = list; valid = valid-modules t rest g.tiled now.valid list all (λ a. omega (arith, times-without a m (modules_in s), h.apart a)) }
  where
    rest : List ℕ
    rest = without m (modules_in s)

    cell : ℕ
    cell = cell_before module_link m 104 (modules_in s)

    r : List ℕ
    r = linked_out s module_link cell m

    l : LinkedOut s m
    l = out_linked s m h e

    k : IsModuleAt s m
    k = l.here

    g : AfterGive r t m k.block
    g = after_give r t m k.block l.blocks.tiled l.used words

    long : length r ≡ length s
    long = length-set s cell (get_or s m 0)

    first : IsListAt r module_link one_word 104 rest
    first = list-remove s r module_link one_word 104 m (linked s h) e (list-removed s module_link one_word 104 m (linked s h) e)

    b : InBlock s m k.block
    b = in_block s m h.tiled k

    start : m - 1 ≡ k.block.start
    start = omega (arith, b.start)

    size_word : times k.block.start (modules_in s) ≡ 0
    size_word = no_module s (modules_in s) m k.block h.tiled h.modules k.used

    above : 201 ≤ m
    above = b.above

    no_link : times (m - 1) (cells module_link 104 (list_at r module_link 104)) ≡ 0
    no_link =
        let at = m - 1 in
        let none : times at (modules_in s) ≡ 0 = ap (λ (x : ℕ). times x (modules_in s)) start ∙ size_word in
        let same : times at (list_at r module_link 104) ≡ times at rest = ap (λ (ms : List ℕ). times at ms) first.list in
        omega (
          arith,
          times-cells r module_link one_word 104 (list_at r module_link 104) first.valid.nodes at,
          times-one at (list_at r module_link 104),
          times-without at m (modules_in s),
          hit-other at 104 (λ e. absurd (omega (arith, above))),
        )

    now : IsListAt t module_link one_word 104 rest
    now =
        let w = get_or r (m - 1) 0 + 1 in
        let given : IsListAt (set r (m - 1) w) module_link one_word 104 (list_at r module_link 104) = list-set r module_link one_word 104 (m - 1) w first.valid no_link in
        subst (λ x. IsListAt x module_link one_word 104 rest) (sym words) (subst (λ ms. IsListAt (set r (m - 1) w) module_link one_word 104 ms) first.list given)

    list : modules_in t ≡ rest
    list = now.list

    long' : length t ≡ length s
    long' = g.same_length ∙ long

    -- a word of another module, after its link, is neither the word before this one nor its size word
    no_cell_word : (n a : ℕ) (kn : IsModuleAt s n) → n < a → a < block_end kn.block → a ≢ cell
    no_cell_word n a kn low high = by (cell-where s m)
      where
        bn : InBlock s n kn.block
        bn = in_block s n h.tiled kn

        by : (cell ≡ 104) ⊎ (has cell (modules_in s) ≡ true) → a ≢ cell
        by (inl head) = λ e. absurd (omega (arith, bn.above))
        by (inr some) = among (cases_eq n cell)
          where
            kc : IsModuleAt s cell
            kc = all-has (IsModuleAt s) cell (modules_in s) h.modules some

            bc : InBlock s cell kc.block
            bc = in_block s cell h.tiled kc

            apart_by : AreDisjoint kn.block kc.block → a ≢ cell
            apart_by (inl before) = λ e. absurd (omega (arith, bn.start, bc.start))
            apart_by (inr after) = λ e. absurd (omega (arith, bn.start, bc.start, bc.few))

            among : (n ≡ cell) ⊎ (n ≢ cell) → a ≢ cell
            among (inl same) = λ e. absurd (omega arith)
            among (inr differ) = apart_by (modules-apart s n cell h.tiled kn kc differ)

    no_size_word : (n a : ℕ) (kn : IsModuleAt s n) → n ≢ m → n < a → a < block_end kn.block → a ≢ k.block.start
    no_size_word n a kn differ low high = apart_by (modules-apart s n m h.tiled kn k differ)
      where
        bn : InBlock s n kn.block
        bn = in_block s n h.tiled kn

        apart_by : AreDisjoint kn.block k.block → a ≢ k.block.start
        apart_by (inl before) = λ e. absurd (omega arith)
        apart_by (inr after) = λ e. absurd (omega (arith, bn.start, b.start, b.few))

    other : (n : ℕ) → 0 < times n rest → IsModuleAt s n → IsModuleAt t n
    other n some kn =
        let differ : n ≢ m = λ e. absurd (omega (arith, some, ap (λ (x : ℕ). times x rest) e, without-times m (modules_in s) h.apart)) in
        module-same s t n h.tiled kn long' (g.others n differ ∙ ap (used_at n) l.blocks.blocks ∙ kn.used) (λ a low high.
        g.words a (no_size_word n a kn differ low high) ∙ get_or-set_other s cell a (get_or s m 0) 0 (no_cell_word n a kn low high))

    all : AllByRecursion (IsModuleAt t) rest
    all = all-map (IsModuleAt s) (IsModuleAt t) rest other (all-without (IsModuleAt s) m (modules_in s) h.modules)
