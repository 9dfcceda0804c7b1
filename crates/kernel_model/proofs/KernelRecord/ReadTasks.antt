-- The blocks, the tasks and the modules of valid lists are in a store that holds their words.
use Rattle.std.proofs.Common.{◌≡◌, ℕ, ◌+◌, ◌-◌, ◌<◌, ◌≤◌, List, length, get_or, refl, ap, ◌∙◌, arith}
use Rattle.std.specs.List.{AllByRecursion}
use Rattle.kernel_lists.specs.OwnedWords.Owned.{Holds}
use Rattle.kernel_lists.specs.GetvecChain.Tiling.{IsTiled, blocks_in, used_at}
use Rattle.kernel_lists.proofs.GetvecChain.BlockExchanges.{held-IsTiled, held-blocks_in}
use Rattle.kernel_lists.proofs.GetvecChain.SizeWords.{Follow-order}
use Rattle.kernel_lists.specs.HunkLoader.HeldModules.{HasModuleBlock, HeldModules, LoadedModule}
use Rattle.kernel_lists.specs.TaskBlock.HeldTasks.{HeldTasks, address_with}
use Rattle.kernel_model.specs.KernelRecord.Lists.{Lists, address_of_task}
use Rattle.kernel_model.specs.KernelRecord.Owned.{owned}
use Rattle.kernel_model.specs.KernelRecord.Task.{task_address, task_id, task_words}
use Rattle.kernel_model.specs.KernelRecord.ValidBlocks.{HasBlock, last_module_word}
use Rattle.kernel_model.specs.KernelRecord.ValidLists.{AreValid}
use Rattle.kernel_model.specs.KernelRecord.Versions.{highest_id_of}
use Rattle.kernel_model.proofs.KernelRecord.EachMember.{all-each}
use Rattle.kernel_model.proofs.KernelRecord.OwnedParts.{HoldsParts, holds-parts, owners-parts}
use Rattle.kernel_model.proofs.KernelRecord.RootCounts.{Holds-entry, RootWords, highest-high, owners-nodes, root-held}
use Rattle.kernel_model.proofs.KernelRecord.TaskPlaces.{TaskPlace, task-places, task-some}

-- the blocks are there
pub record ReadsBlocks (s : List ℕ) (l : Lists) : Type 0 where
  pub tiled : IsTiled s
  pub blocks : blocks_in s ≡ l.blocks
  pub room : 202 ≤ l.size

pub read-blocks : (s : List ℕ) (l : Lists) → AreValid l → length s ≡ l.size → Holds s (owned l) → ReadsBlocks s l
read-blocks s l v size h =
    let parts : HoldsParts s l = holds-parts s l h in
    let root : RootWords s l = root-held s l (address_of_task l l.running) parts.root in
    let order : 200 ≤ l.size - 2 = Follow-order 200 l.blocks (l.size - 2) v.blocks in
    let end : l.size - 2 + 2 ≡ length s = omega (arith, order, size) in
    record {
      tiled = held-IsTiled s l.blocks (l.size - 2) v.blocks end root.end parts.blocks;
      blocks = held-blocks_in s l.blocks (l.size - 2) v.blocks end root.end parts.blocks;
      room = omega (arith, order);
    }

pub read-tasks : (s : List ℕ) (l : Lists) → AreValid l → length s ≡ l.size → Holds s (owned l) → HeldTasks task_address task_id (task_words l.version) s l.tasks
read-tasks s l v size h =
    let parts : HoldsParts s l = holds-parts s l h in
    let root : RootWords s l = root-held s l (address_of_task l l.running) parts.root in
    let blocks : ReadsBlocks s l = read-blocks s l v size h in
    let places : AllByRecursion (TaskPlace l) l.tasks = task-places l v in
    record {
      root = omega (arith, size, blocks.room);
      holds = parts.chain;
      apart = λ a. omega (arith, owners-nodes a l, v.owns.apart a);
      inside = λ a some. omega (arith, size, v.owns.inside a (omega (arith, some, owners-nodes a l)));
      some = all-each (TaskPlace l) (λ t. 0 < t.address) (task-some l) l.tasks places;
      highest = omega (arith, root.highest, highest-high l.version);
      numbers = all-each (TaskPlace l) (λ t. (1 ≤ t.id) × (t.id ≤ get_or s 120 0)) (λ t p. (p.low_id, omega (arith, root.highest, p.high_id))) l.tasks places;
      distinct = v.tasks.distinct;
      table = λ i low high. Holds-entry s (address_with task_address task_id l.tasks) 1 (highest_id_of l.version) i parts.table low (omega (arith, high, root.highest));
    }

pub read-modules : (s : List ℕ) (l : Lists) → AreValid l → length s ≡ l.size → Holds s (owned l) → HeldModules s l.modules
read-modules s l v size h =
    let parts : HoldsParts s l = holds-parts s l h in
    let blocks : ReadsBlocks s l = read-blocks s l v size h in
    record {
      tiled = blocks.tiled;
      held =
          record {
            holds = parts.modules;
            apart = λ a. omega (arith, owners-parts a l, v.owns.apart a);
            inside = λ a some. omega (arith, size, v.owns.inside a (omega (arith, some, owners-parts a l)));
            some = all-each (λ m. HasBlock l.blocks m.address (last_module_word m)) (λ m. 0 < m.address) (λ m b. omega (arith, b.here)) l.modules v.modules;
          };
      blocks = all-each (λ m. HasBlock l.blocks m.address (last_module_word m)) (HasModuleBlock s) (λ m b. block blocks.blocks m b) l.modules v.modules;
    }
  where
    block : blocks_in s ≡ l.blocks → (m : LoadedModule) → HasBlock l.blocks m.address (last_module_word m) → HasModuleBlock s m
    block same m b = record { block = _; used = ap (used_at m.address) same ∙ b.block; size = refl }
