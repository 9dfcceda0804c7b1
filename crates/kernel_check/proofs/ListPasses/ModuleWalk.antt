-- The walk over the modules.
use Rattle.std.proofs.Common.{◌≡◌, ◌↔◌, ℕ, List, [], ◌∷◌, map, sym, subst}
use Rattle.std.specs.List.{AllByRecursion}
use Rattle.kernel_lists.specs.GetvecChain.Tiling.{blocks_in}
use Rattle.kernel_lists.specs.TaskBlock.Lists.{modules_in}
use Rattle.kernel_model.specs.KernelRecord.KernelRanges.{IsModuleIn}
use Rattle.kernel_model.specs.KernelRecord.Recovered.{lists_in, module_in}
use Rattle.kernel_model.specs.KernelRecord.ValidBlocks.{AreValidModules, HasBlock, last_module_word}

abbrev pub IsInBlock : List ℕ → ℕ → Type 0
IsInBlock s m = HasBlock (blocks_in s) m (last_module_word (module_in s m))

pub record IsGoing (s : List ℕ) (rest all : List ℕ) : Type 0 where
  pub left : AllByRecursion (IsInBlock s) rest → AllByRecursion (IsInBlock s) all
  pub whole : AllByRecursion (IsInBlock s) all → AllByRecursion (IsInBlock s) rest
  pub inside : AllByRecursion (IsModuleIn s) rest

pub going : (s : List ℕ) (ms all : List ℕ) → ms ≡ all → AllByRecursion (IsModuleIn s) all → IsGoing s ms all
going s ms all is inside = record { left = subst (AllByRecursion (IsInBlock s)) is; whole = subst (AllByRecursion (IsInBlock s)) (sym is); inside = subst (AllByRecursion (IsModuleIn s)) (sym is) inside }

module _ (s : List ℕ) (bs all : List ℕ) (m : ℕ) (rest : List ℕ) (g : IsGoing s bs all) (is : bs ≡ m ∷ rest) where
  pub first : AllByRecursion (IsInBlock s) all → IsInBlock s m
  first h = (subst (AllByRecursion (IsInBlock s)) is (g.whole h)).0

  pub next-inside : IsModuleIn s m
  next-inside = (subst (AllByRecursion (IsModuleIn s)) is g.inside).0

  pub goes : IsInBlock s m → IsGoing s rest all
  goes h = record {
    left = λ k. g.left (subst (AllByRecursion (IsInBlock s)) (sym is) (h, k));
    whole = λ k. (subst (AllByRecursion (IsInBlock s)) is (g.whole k)).1;
    inside = (subst (AllByRecursion (IsModuleIn s)) is g.inside).1;
  }

pub gone : (s : List ℕ) (bs all : List ℕ) → IsGoing s bs all → bs ≡ [] → AllByRecursion (IsInBlock s) all
gone s bs all g none = g.left (subst (AllByRecursion (IsInBlock s)) (sym none) tt)

-- what is at the addresses is what was read off
to-lists : (s : List ℕ) (ms : List ℕ) → AllByRecursion (IsInBlock s) ms → AllByRecursion (λ x. HasBlock (blocks_in s) x.address (last_module_word x)) (map (module_in s) ms)
to-lists s [] all = tt
to-lists s (m ∷ ms) all = (all.0, to-lists s ms all.1)

from-lists : (s : List ℕ) (ms : List ℕ) → AllByRecursion (λ x. HasBlock (blocks_in s) x.address (last_module_word x)) (map (module_in s) ms) → AllByRecursion (IsInBlock s) ms
from-lists s [] all = tt
from-lists s (m ∷ ms) all = (all.0, from-lists s ms all.1)

pub modules-in-blocks : (s : List ℕ) → AllByRecursion (IsInBlock s) (modules_in s) ↔ AreValidModules (lists_in s)
unfolding lists_in
modules-in-blocks s = (to-lists s (modules_in s), from-lists s (modules_in s))
