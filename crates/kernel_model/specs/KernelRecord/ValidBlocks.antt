-- The rules of blocks, of the machine's numbers, and of modules.
use Rattle.std.specs.Prelude.{◌≡◌, ℕ, ◌+◌, ◌-◌, ◌≤◌, true, false, IsTrue, if◌then◌else◌, Some, List, length, sum}
use Rattle.std.specs.List.{AllByRecursion}
use Rattle.kernel_lists.specs.declared.getvec_chain.pieces.Block.{Block}
use Rattle.kernel_lists.specs.GetvecChain.Block.{block_end, used_block}
use Rattle.kernel_lists.specs.GetvecChain.Run.{need}
use Rattle.kernel_lists.specs.GetvecChain.Tiling.{Follow, holding, used_at}
use Rattle.kernel_lists.specs.HunkLoader.HeldModules.{LoadedModule}
use Rattle.kernel_model.specs.KernelRecord.Ranges.{IsVersion, is_period, is_store_size}
use Rattle.kernel_model.specs.KernelRecord.Lists.{Lists, has_task}

-- Invariant 1: the blocks follow one another from 200 up to the end word, with even sizes of 2 or more.
abbrev pub BlocksTile : Lists → Type 0
BlocksTile l = Follow 200 l.blocks (l.size - 2)

-- at v begin the data of a used block with room for the words 0 to u
pub record HasBlock (bs : List Block) (v u : ℕ) : Type 0 where
  -- the address of the block's size word
  pub start : ℕ
  -- the data begin after it
  pub here : v ≡ start + 1
  -- it is used, and has the size for a highest index of u
  pub block : used_at v bs ≡ Some (used_block start (need u))

-- so many words from p on are data of one used block
pub record AreData (bs : List Block) (p n : ℕ) : Type 0 where
  -- the block that has word p among its data
  pub block : Block
  -- it is one of these
  pub holds : holding p bs ≡ Some block
  -- it is not free
  pub used : block.free ≡ false
  -- it ends after the last of the words
  pub whole : p + n ≤ block_end block

-- the index of the last data word of the resident block, which is larger where faults are reported
abbrev pub last_resident_word : Lists → ℕ
last_resident_word l = if has_task 2 l.tasks then 114 else 86

-- Invariants 2 and 3: the version, the size of the store and the period are those that a session may name, and the residents have
-- the first block.
pub record AreValidNumbers (l : Lists) : Type 0 where
  -- the version is 1 or 2
  pub version : IsVersion l.version
  -- the words of the store
  pub size : IsTrue (is_store_size l.version l.size)
  -- the steps from one tick to the next
  pub period : IsTrue (is_period l.period)
  -- the block at 200, whose last data word has this index
  pub residents : l.residents ≡ true → HasBlock l.blocks 201 (last_resident_word l)

-- the number of a module's last word
abbrev pub last_module_word : LoadedModule → ℕ
last_module_word m = 1 + length m.lengths + sum m.lengths

-- Invariant 4: each module has a block of its size.
abbrev pub AreValidModules : Lists → Type 0
AreValidModules l = AllByRecursion (λ m. HasBlock l.blocks m.address (last_module_word m)) l.modules
