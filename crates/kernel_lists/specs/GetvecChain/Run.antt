-- Runs of adjacent free blocks.
use Rattle.std.specs.Prelude.{◌≡◌, ◌≤◌, ℕ, ◌+◌, ◌-◌, ◌*◌, ◌/◌, Bool, true, false, ◌&&◌, nat_le, Option, Some, None, List, [], ◌∷◌, ◌++◌, if◌then◌else◌}
use Rattle.kernel_lists.specs.declared.getvec_chain.pieces.Block.{Block}
use Rattle.kernel_lists.specs.declared.getvec_chain.pieces.Run.{Run}
use Rattle.kernel_lists.specs.GetvecChain.Tiling.{Follow}

-- the words that a block with the data words 0 to u needs: u + 2, rounded up to an even number
abbrev pub need : ℕ → ℕ
need u = (u + 3) / 2 * 2

-- the sizes of the free blocks at the front of the list, added up
abbrev pub run_size : List Block → ℕ
run_size [] = 0
run_size (b ∷ bs) = if b.free then b.size + run_size bs else 0

-- the blocks after those
abbrev pub after_run : List Block → List Block
after_run [] = []
after_run (b ∷ bs) = if b.free then after_run bs else b ∷ bs

-- the list begins with a run of n words or more
abbrev pub begins_run : ℕ → List Block → Bool
begins_run n [] = false
begins_run n (b ∷ bs) = b.free && nat_le n (run_size (b ∷ bs))

-- the first run of n words or more
abbrev pub first_run : ℕ → List Block → Option Run
first_run n [] = None
first_run n (b ∷ bs) =
    if begins_run n (b ∷ bs)
    then Some (record { start = b.start; end = b.start + run_size (b ∷ bs) })
    else first_run n bs

-- all of the blocks are free
abbrev pub AreFree : List Block → Type 0
AreFree [] = Unit {0}
AreFree (b ∷ bs) = (b.free ≡ true) × AreFree bs

-- there is no last block, or it is used
abbrev pub EndsUsed : List Block → Type 0
EndsUsed [] = Unit {0}
EndsUsed (b ∷ []) = b.free ≡ false
EndsUsed (b ∷ c ∷ bs) = EndsUsed (c ∷ bs)

-- there is no first block, or it is used
abbrev pub BeginsUsed : List Block → Type 0
BeginsUsed [] = Unit {0}
BeginsUsed (b ∷ bs) = b.free ≡ false

-- free blocks that fill the words from start to end, with no free block directly before them or after them
pub record IsMaximalRun (bs : List Block) (run : Run) : Type 0 where
  -- the blocks before it
  pub before : List Block
  -- the free blocks in it
  pub free : List Block
  -- the blocks after it
  pub after : List Block
  -- these are all blocks
  pub is : bs ≡ before ++ (free ++ after)
  -- those in the run are free
  pub are_free : AreFree free
  -- they fill it
  pub fills : Follow run.start free run.end
  -- no free block is just before it
  pub used_before : EndsUsed before
  -- and none just after it
  pub used_after : BeginsUsed after

-- the first of all maximal runs that have n words or more
pub record IsFirstRun (n : ℕ) (bs : List Block) (run : Run) : Type 0 where
  -- it is a maximal run
  pub maximal : IsMaximalRun bs run
  -- it has so many words or more
  pub enough : n ≤ run.end - run.start
  -- no other one with so many begins before it
  pub first : (other : Run) → IsMaximalRun bs other → n ≤ other.end - other.start → run.start ≤ other.start
