-- Modules whose words a store holds are its modules.
use Rattle.std.proofs.Common.{◌≡◌, ℕ, suc, ◌+◌, ◌<◌, List, [], ◌∷◌, length, map, sym, ap, ◌∙◌, subst, arith}
use Rattle.std.specs.Prelude.{slice_range, sum}
use Rattle.std.specs.List.{AllByRecursion}
use Rattle.kernel_lists.specs.GetvecChain.Run.{need}
use Rattle.kernel_lists.specs.LinkedList.Linked.{IsListAt}
use Rattle.kernel_lists.proofs.LinkedList.Chains.{nodes-apart}
use Rattle.word_store.proofs.Counts.{times-within}
use Rattle.kernel_lists.specs.OwnedWords.LinkedWords.{AreNodes, first_of, linked_words}
use Rattle.kernel_lists.specs.OwnedWords.Owned.{AreInside, Holds, owners, row_from}
use Rattle.kernel_lists.proofs.OwnedWords.Exchanges.{links-first}
use Rattle.kernel_lists.proofs.OwnedWords.HeldLists.{held-list}
use Rattle.kernel_lists.proofs.OwnedWords.OwnedWords.{Holds-left, Holds-right, owners-append}
use Rattle.kernel_lists.proofs.OwnedWords.RowWords.{Holds-range, owners-row}
use Rattle.kernel_lists.specs.TaskBlock.Lists.{module_link, modules_in}
use Rattle.kernel_lists.specs.HunkLoader.HeldModules.{HasModuleBlock, HeldModules, LoadedModule, module_address, module_words}
use Rattle.kernel_lists.specs.HunkLoader.ModuleHunks.{hunk_count, lengths_in}
use Rattle.kernel_lists.specs.HunkLoader.Modules.{HasModules, IsModuleAt}

-- a module has its link and its number of hunks at least
abbrev pub module_size : ℕ → ℕ
module_size m = 2

pub are_modules : AreNodes module_address module_words module_link module_size
are_modules =
    record {
      links = links-first module_address (λ m. row_from m.address 1 (length m.lengths ∷ m.lengths));
      low = λ m. omega arith;
      high = λ m. omega arith;
      count = λ a m n. omega (arith, owners-row a m.address 1 (length m.lengths ∷ m.lengths));
    }

held-modules_at : (s : List ℕ) (ms : List LoadedModule) (end : ℕ) → Holds s (linked_words module_address module_words ms end) → AreInside s (linked_words module_address module_words ms end)
    → AllByRecursion (HasModuleBlock s) ms → AllByRecursion (IsModuleAt s) (map module_address ms)
held-modules_at s [] end h inside blocks = tt
held-modules_at s (m ∷ ms) end h inside blocks =
    let next : ℕ = first_of module_address ms end in
    let own : Holds s (module_words m next) = Holds-left s (module_words m next) (linked_words module_address module_words ms end) h in
    let join : (a : ℕ) → owners a (linked_words module_address module_words (m ∷ ms) end) ≡ owners a (module_words m next) + owners a (linked_words module_address module_words ms end) = λ a.
    owners-append a (module_words m next) (linked_words module_address module_words ms end)
    in
    let last : ℕ = m.address + 1 + length m.lengths in
    let fits : last < length s =
    inside last (omega (
      arith,
      join last,
      owners-row last m.address 1 (length m.lengths ∷ m.lengths),
      times-within last (m.address + 1) (suc (length m.lengths)) (omega arith) (omega arith),
    ))
    in
    let count : hunk_count s m.address ≡ length m.lengths = own.1.0 in
    let lengths : lengths_in s m.address ≡ m.lengths =
    ap (λ z. slice_range s (m.address + 2) (m.address + 2 + z)) count ∙ Holds-range s m.address 2 m.lengths own.1.1 (omega (arith, fits))
    in (
      record {
        block = blocks.0.block;
        used = blocks.0.used;
        size = blocks.0.size ∙ sym (ap (λ z. need (1 + z + sum (lengths_in s m.address))) count ∙ ap (λ z. need (1 + length m.lengths + sum z)) lengths);
      },
      held-modules_at s ms end (Holds-right s (module_words m next) (linked_words module_address module_words ms end) h) (λ a some. inside a (omega (arith, some, join a))) blocks.1,
    )

pub record HasTheseModules (s : List ℕ) (ms : List LoadedModule) : Type 0 where
  pub modules : HasModules s
  pub list : modules_in s ≡ map module_address ms

pub held-modules : (s : List ℕ) (ms : List LoadedModule) → HeldModules s ms → HasTheseModules s ms
held-modules s ms h =
    let list : IsListAt s module_link module_size 104 (map module_address ms) = held-list module_address module_words module_link module_size are_modules s 104 ms h.held in
    record {
      modules =
          record {
            tiled = h.tiled;
            chain = list.valid.chain;
            modules = subst (AllByRecursion (IsModuleAt s)) (sym list.list) (held-modules_at s ms 0 h.held.holds.1 (λ a some. h.held.inside a (omega (arith, some))) h.blocks);
            apart = nodes-apart s module_link module_size 104 (modules_in s) list.valid;
          };
      list = list.list;
    }
