-- A load, from its calls.
use Rattle.std.proofs.Common.{◌≡◌, ◌∙◌, ℕ, ◌+◌, ◌∷◌, List, get_or, set, Ok, sym, ap, subst, arith}
use Rattle.module_text.specs.Shapes.{check_of}
use Rattle.module_text.specs.declared.check.Shape.{Shape}
use Rattle.word_store.specs.Row.{with_words}
use Rattle.kernel_lists.specs.GetvecChain.Take.{IsTaken}
use Rattle.kernel_lists.specs.GetvecChain.Tiling.{IsTiled}
use Rattle.kernel_lists.proofs.GetvecChain.AfterTake.{after_take}
use Rattle.kernel_lists.specs.TaskBlock.Lists.{modules_in}
use Rattle.kernel_lists.specs.HunkLoader.Private.Follow.{FitsAt}
use Rattle.kernel_lists.specs.HunkLoader.LoadOutcome.{IsLoaded}
use Rattle.kernel_lists.specs.HunkLoader.ModuleRow.{last_word, module_row}
use Rattle.kernel_lists.specs.HunkLoader.Modules.{HasModules}
use Rattle.kernel_lists.proofs.HunkLoader.LoadedModules.{Loaded, modules_loaded, placed}
use Rattle.kernel_lists.proofs.HunkLoader.TextModules.{ModuleFound, module_found}

-- a block was taken for the module whose shape was found
pub record TakenFor (s t0 text : List ℕ) (shape : Shape) (m : ℕ) : Type 0 where
  pub found : ModuleFound text shape
  pub block : IsTaken s t0 (last_word found.hunks.hunks) m
  pub fits : FitsAt text t0 m shape.hunks found.hunks

pub taken_for : (s t0 text : List ℕ) (shape : Shape) (size m : ℕ) → IsTiled s → Ok shape ≡ check_of text → size ≡ 1 + shape.hunks + shape.words → IsTaken s t0 size m → TakenFor s t0 text shape m
taken_for s t0 text shape size m tiled e n h =
    let f = module_found text shape (sym e) in
    let block = subst (λ u. IsTaken s t0 u m) (n ∙ f.words) h in
    let k = after_take s t0 (last_word f.hunks.hunks) m tiled block in
    let low = k.low in
    let inside = k.inside in
    let size = k.same_length in
    let count = f.count in
    record { found = f; block = block; fits = record { is = f.is; all = sym count; inside = omega arith } }

-- and its words were put there
pub record Done (s t text : List ℕ) (m : ℕ) : Type 0 where
  pub loaded : IsLoaded s t text m
  pub modules : modules_in t ≡ m ∷ modules_in s
  pub valid : HasModules t

pub done : (s t0 t1 t text : List ℕ) (shape : Shape) (m link : ℕ) → HasModules s → (k : TakenFor s t0 text shape m) → link ≡ get_or t0 104 0
    → t1 ≡ with_words t0 m (module_row link m k.found.hunks.hunks) → t ≡ set t1 104 m → Done s t text m
done s t0 t1 t text shape m link h k e put last =
    let hunks = k.found.hunks.hunks in
    let u = last_word hunks in
    let a = after_take s t0 u m h.tiled k.block in
    let row : List ℕ = module_row (get_or s 104 0) m hunks in
    let words : t ≡ set (with_words t0 m row) 104 m
    = last ∙ ap (λ (x : List ℕ). set x 104 m) put ∙ ap (λ (x : ℕ). set (with_words t0 m (module_row x m hunks)) 104 m) (e ∙ a.below 104 (omega arith)) in
    let l = subst (λ x. Loaded s x u m) (sym words) (modules_loaded s (with_words t0 m row) m hunks h (placed s t0 m hunks h.tiled k.block)) in
    record {
      loaded = record { hunks = k.found.hunks; is = k.found.is; with_block = t0; block = k.block; blocks = l.blocks; words = words };
      modules = l.modules;
      valid = l.valid;
    }
