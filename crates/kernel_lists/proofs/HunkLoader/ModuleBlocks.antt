-- The modules of a store, as used blocks and as a linked list.
use Rattle.std.proofs.Common.{◌≡◌, ◌≢◌, ◌⊎◌, inl, inr, ◌∙◌, ℕ, ◌+◌, ◌<◌, ◌≤◌, List, [], ◌∷◌, length, get_or, Some, None, refl, sym, ap, subst, arith}
use Rattle.std.specs.Prelude.{slice_range, sum}
use Rattle.std.specs.List.{AllByRecursion}
use Rattle.std.proofs.lemmas.Bool.{cases_eq}
use Rattle.kernel_lists.specs.declared.getvec_chain.pieces.Block.{Block}
use Rattle.kernel_lists.specs.GetvecChain.Block.{block_end}
use Rattle.kernel_lists.specs.LinkedList.Chain.{cells}
use Rattle.word_store.specs.Count.{IsApart, times, words_of}
use Rattle.kernel_lists.specs.LinkedList.Linked.{HasList, IsNode}
use Rattle.kernel_lists.specs.GetvecChain.Run.{need}
use Rattle.kernel_lists.specs.GetvecChain.Tiling.{IsTiled, blocks_in, used_at}
use Rattle.kernel_lists.proofs.LinkedList.Chains.{times-cells}
use Rattle.kernel_lists.proofs.GetvecChain.Tilings.{IsTiled-inside}
use Rattle.word_store.proofs.Counts.{IsApart-cons, hit-other, times-words_more}
use Rattle.word_store.proofs.Rows.{range_same}
use Rattle.kernel_lists.proofs.GetvecChain.UsedBlocks.{AreDisjoint, used_at-apart, used_at-is}
use Rattle.kernel_lists.specs.TaskBlock.Lists.{module_link, modules_in}
use Rattle.kernel_lists.specs.HunkLoader.Modules.{HasModules, IsModuleAt}
use Rattle.kernel_lists.specs.HunkLoader.ModuleHunks.{hunk_count, lengths_in, module_end}

-- as nodes of the list, modules count by their link words alone
abbrev pub one_word : ℕ → ℕ
one_word m = 1

-- ---- a module in its block

-- the module's words are data of its block
pub record InBlock (s : List ℕ) (m : ℕ) (b : Block) : Type 0 where
  pub start : b.start + 1 ≡ m
  pub above : 201 ≤ m
  pub words : module_end s m ≤ block_end b
  pub few : m + 2 + hunk_count s m ≤ block_end b
  pub inside : block_end b + 2 ≤ length s

pub in_block : (s : List ℕ) (m : ℕ) → IsTiled s → (h : IsModuleAt s m) → InBlock s m h.block
in_block s m t h =
    let u = used_at-is s 200 (blocks_in s) m h.block t h.used in
    let size = h.size in
    record { start = u.start; above = omega (arith, u.start, u.low); words = omega (arith, u.start, size); few = omega (arith, u.start, size); inside = u.inside }

-- a module is where its block and its words are; its link may be another
pub module-same : (s t : List ℕ) (m : ℕ) → IsTiled s → (h : IsModuleAt s m) → length t ≡ length s → used_at m (blocks_in t) ≡ Some h.block
    → ((a : ℕ) → m < a → a < block_end h.block → get_or t a 0 ≡ get_or s a 0) → IsModuleAt t m
module-same s t m tiled h size used same =
    let b = in_block s m tiled h in
    let few = b.few in
    let inside = b.inside in
    let count : hunk_count t m ≡ hunk_count s m = same (m + 1) (omega arith) (omega arith) in
    let lengths : slice_range t (m + 2) (m + 2 + hunk_count s m) ≡ lengths_in s m
    = range_same s t (m + 2) (hunk_count s m) (omega arith) (omega arith) (λ i low high. same i (omega arith) (omega arith)) in
    let all : lengths_in t m ≡ lengths_in s m = ap (λ (n : ℕ). slice_range t (m + 2) (m + 2 + n)) count ∙ lengths in
    record {
      block = h.block;
      used = used;
      size = h.size ∙ ap (λ (n : ℕ). need (1 + n + sum (lengths_in s m))) (sym count) ∙ ap (λ (ns : List ℕ). need (1 + hunk_count t m + sum ns)) (sym all);
    }

-- words of two modules are apart
pub modules-apart : (s : List ℕ) (m n : ℕ) → IsTiled s → (h : IsModuleAt s m) (k : IsModuleAt s n) → m ≢ n → AreDisjoint h.block k.block
modules-apart s m n t h k differ = on (used_at-apart s 200 (blocks_in s) m n h.block k.block t h.used k.used)
  where
    on : (m ≡ n) ⊎ AreDisjoint h.block k.block → AreDisjoint h.block k.block
    on (inl e) = absurd (differ e)
    on (inr apart) = apart

-- ---- all modules

-- no module is below the first block's data
times-low : (s : List ℕ) (ms : List ℕ) (a : ℕ) → IsTiled s → AllByRecursion (IsModuleAt s) ms → a < 201 → times a ms ≡ 0
times-low s [] a t h low = refl
times-low s (m ∷ ms) a t h low =
    let b = in_block s m t h.0 in
    omega (arith, times-low s ms a t h.1 low, hit-other a m (λ e. absurd (omega (arith, b.above))))

pub times-one : (a : ℕ) (ms : List ℕ) → times a (words_of one_word ms) ≡ times a ms
times-one a [] = refl
times-one a (m ∷ ms) = omega (arith, times-words_more one_word a m ms, times-one a ms)

nodes : (s : List ℕ) (ms : List ℕ) → IsTiled s → AllByRecursion (IsModuleAt s) ms → AllByRecursion (IsNode s module_link one_word) ms
nodes s [] t h = tt
nodes s (m ∷ ms) t h =
    let b = in_block s m t h.0 in
    (record { some = omega (arith, b.above); after = omega arith; before = omega arith; inside = omega (arith, b.few, b.inside) }, nodes s ms t h.1)

-- the modules are a linked list
pub linked : (s : List ℕ) → HasModules s → HasList s module_link one_word 104
linked s h =
    let b = h.tiled in
    record {
      chain = h.chain;
      nodes = nodes s (modules_in s) h.tiled h.modules;
      head_inside = inside;
      apart = apart;
    }
  where
    inside : 104 < length s
    inside = omega (arith, IsTiled-inside s h.tiled)

    apart : IsApart (104 ∷ words_of one_word (modules_in s))
    apart = IsApart-cons 104 (words_of one_word (modules_in s)) (times-one 104 (modules_in s) ∙ times-low s (modules_in s) 104 h.tiled h.modules (omega arith))
        (λ a. omega (arith, times-one a (modules_in s), h.apart a))

-- a word that is no link: it is neither word 104 nor a module's first word
pub no_cell : (s : List ℕ) (h : HasModules s) (a : ℕ) → a ≢ 104 → times a (modules_in s) ≡ 0 → times a (cells module_link 104 (modules_in s)) ≡ 0
no_cell s h a ne none =
    omega (arith, times-cells s module_link one_word 104 (modules_in s) (linked s h).nodes a, hit-other a 104 ne, times-one a (modules_in s))

-- no module is where no used block has its data
pub no_block : (s : List ℕ) (ms : List ℕ) (v : ℕ) → AllByRecursion (IsModuleAt s) ms → used_at v (blocks_in s) ≡ None → times v ms ≡ 0
no_block s [] v h e = refl
no_block s (m ∷ ms) v h e = omega (arith, no_block s ms v h.1 e, hit-other v m differ)
  where
    differ : v ≢ m
    differ same = (let here : used_at v (blocks_in s) ≡ Some h.0.block = ap (λ z. used_at z (blocks_in s)) same ∙ h.0.used in cc)

-- a link is in word 104 or in a module's first word
pub cell_at : (s : List ℕ) (h : HasModules s) (a : ℕ) → 0 < times a (cells module_link 104 (modules_in s)) → (a ≡ 104) ⊎ (0 < times a (modules_in s))
cell_at s h a some = on (cases_eq a 104)
  where
    on : (a ≡ 104) ⊎ (a ≢ 104) → (a ≡ 104) ⊎ (0 < times a (modules_in s))
    on (inl same) = inl same
    on (inr differ) = inr (omega (arith, times-cells s module_link one_word 104 (modules_in s) (linked s h).nodes a, hit-other a 104 differ, times-one a (modules_in s)))

-- no module begins at a size word of a used block
pub no_module : (s : List ℕ) (ms : List ℕ) (v : ℕ) (b : Block) → IsTiled s → AllByRecursion (IsModuleAt s) ms → used_at v (blocks_in s) ≡ Some b → times b.start ms ≡ 0
no_module s [] v b t h e = refl
no_module s (m ∷ ms) v b t h e =
    let k = in_block s m t h.0 in
    let u = used_at-is s 200 (blocks_in s) v b t e in
    let differ : b.start ≢ m = on k.start k.few u.start u.some (used_at-apart s 200 (blocks_in s) m v h.0.block b t h.0.used e) in
    omega (arith, no_module s ms v b t h.1 e, hit-other b.start m differ)
  where
    on : h.0.block.start + 1 ≡ m → m + 2 + hunk_count s m ≤ block_end h.0.block → b.start + 1 ≡ v → 2 ≤ b.size → (m ≡ v) ⊎ AreDisjoint h.0.block b → b.start ≢ m
    on start few s1 some (inl e) = λ same. absurd (omega arith)
    on start few s1 some (inr (inl before)) = λ same. absurd (omega arith)
    on start few s1 some (inr (inr after)) = λ same. absurd (omega arith)

-- there are the modules, where there is the list
pub valid-modules : (t : List ℕ) (ms : List ℕ) → IsTiled t → HasList t module_link one_word 104 → modules_in t ≡ ms → AllByRecursion (IsModuleAt t) ms → IsApart ms → HasModules t
valid-modules t ms tiled l e all apart =
    let P : List ℕ → Type 0 = λ xs. AllByRecursion (IsModuleAt t) xs in
    record { tiled = tiled; chain = l.chain; modules = subst P (sym e) all; apart = subst IsApart (sym e) apart }
