-- Data of blocks are words of the store.
use Rattle.std.proofs.Common.{◌≡◌, ℕ, ◌+◌, ◌-◌, ◌<◌, ◌≤◌, refl, arith}
use Rattle.kernel_lists.specs.GetvecChain.Block.{has_data, is_used_at, used_block}
use Rattle.kernel_lists.specs.GetvecChain.Run.{need}
use Rattle.kernel_model.specs.KernelRecord.Lists.{Lists}
use Rattle.kernel_model.specs.KernelRecord.ValidBlocks.{AreData, BlocksTile, HasBlock}
use Rattle.kernel_model.proofs.KernelRecord.FollowedBlocks.{found-holding, found-within}

-- data of a block are words of the store
pub AreData-inside : (l : Lists) (p n a : ℕ) → BlocksTile l → AreData l.blocks p n → a < p + n → a < l.size
AreData-inside l p n a tile d below =
    let r = found-within (λ b. has_data b p) 200 l.blocks (l.size - 2) d.block tile d.holds in
    inside d.block.start d.block.size (l.size) r.low r.high r.some d.whole
  where
    inside : (start size top : ℕ) → 200 ≤ start → start + size ≤ top - 2 → 2 ≤ size → p + n ≤ start + size → a < top
    inside start size top low high some whole = omega (arith, below, low, high, some, whole)

-- and so are those of a used block
pub HasBlock-inside : (l : Lists) (v u a : ℕ) → BlocksTile l → HasBlock l.blocks v u → a ≤ v + u → a < l.size
HasBlock-inside l v u a tile h below =
    let r = found-within (is_used_at v) 200 l.blocks (l.size - 2) (used_block h.start (need u)) tile h.block in
    inside h.start (need u) l.size h.here (large u) r.low r.high
  where
    large : (u : ℕ) → u + 2 ≤ need u
    large u = omega arith

    inside : (start size top : ℕ) → v ≡ start + 1 → u + 2 ≤ size → 200 ≤ start → start + size ≤ top - 2 → a < top
    inside start size top here some low high = omega (arith, below, here, some, low, high)

-- words of a used block are data of it
pub HasBlock-data : (l : Lists) (v u p n : ℕ) → BlocksTile l → HasBlock l.blocks v u → v ≤ p → p + n ≤ v + u + 1 → 0 < n → AreData l.blocks p n
HasBlock-data l v u p n tile h low high some =
    record {
      block = used_block h.start (need u);
      holds = found-holding (is_used_at v) 200 l.blocks (l.size - 2) (used_block h.start (need u)) p tile h.block (omega (arith, h.here, low)) (omega (arith, h.here, high, large u, some));
      used = refl;
      whole = omega (arith, h.here, high, large u);
    }
  where
    large : (u : ℕ) → u + 2 ≤ need u
    large u = omega arith
