-- A block is taken from the first run that is large enough.
use Rattle.std.specs.Prelude.{◌≡◌, ℕ, zero, suc, ◌+◌, ◌-◌, Some, List, [], ◌∷◌, ◌++◌, slice_set, if◌then◌else◌}
use Rattle.kernel_lists.specs.declared.getvec_chain.pieces.Block.{Block}
use Rattle.kernel_lists.specs.declared.getvec_chain.pieces.Run.{Run}
use Rattle.kernel_lists.specs.GetvecChain.Block.{free_block, size_word, used_block}
use Rattle.kernel_lists.specs.GetvecChain.Tiling.{blocks_in}
use Rattle.kernel_lists.specs.GetvecChain.Run.{after_run, begins_run, first_run, need, run_size}

-- a free block of that many words at an address, where there are any
abbrev pub left_over : ℕ → ℕ → List Block
left_over at zero = []
left_over at (suc n) = free_block at (suc n) ∷ []

-- what becomes of a run from start to end where n words are taken: a used block at its front, and one free block of the rest
abbrev pub split_run : ℕ → ℕ → ℕ → List Block
split_run start end n = used_block start n ∷ left_over (start + n) (end - (start + n))

-- the blocks, once n words were taken from the first run that has as many
abbrev pub taken : ℕ → List Block → List Block
taken n [] = []
taken n (b ∷ bs) =
    if begins_run n (b ∷ bs)
    then split_run b.start (b.start + run_size (b ∷ bs)) n ++ after_run (b ∷ bs)
    else b ∷ taken n bs

-- the store with the size words of these blocks
abbrev pub with_size_words : List ℕ → List Block → List ℕ
with_size_words s [] = s
with_size_words s (b ∷ bs) = with_size_words (slice_set s b.start (size_word b)) bs

-- the store, once n words of the run were taken: the block has its size word, and so has the rest, where there is any
abbrev pub taken_store : List ℕ → Run → ℕ → List ℕ
taken_store s run n = with_size_words s (split_run run.start run.end n)

-- the store t is s, where a block with the data words 0 to u at v was taken from the front of the first run that is large enough
pub record IsTaken (s t : List ℕ) (u v : ℕ) : Type 0 where
  -- the run that the block is cut from
  pub run : Run
  -- it is the first that is large enough
  pub first : first_run (need u) (blocks_in s) ≡ Some run
  -- the address of the block's data, in words
  pub front : v ≡ run.start + 1
  -- all words of the store
  pub words : t ≡ taken_store s run (need u)
