-- Blocks counted one after another.
use Rattle.std.specs.Prelude.{◌+◌, ◌<◌, ◌^◌, if◌then◌else◌, List, [], ◌∷◌, max}
use Rattle.kernel_lists.specs.declared.getvec_chain.pieces.Block.{Block}
use Rattle.shell.specs.declared.shell_listings.blocks.BlockCounts.{BlockCounts}

-- before any block
abbrev pub no_counts : BlockCounts
no_counts = record { used = 0; used_words = 0; free = 0; free_words = 0; run = 0; largest = 0 }

-- the counts with one more used block, which ends the run before it
abbrev pub with_used : BlockCounts → Block → BlockCounts
with_used c b = record c { used = c.used + 1; used_words = c.used_words + b.size; run = 0 }

-- the counts with one more free block, which is added to its run
abbrev pub with_free : BlockCounts → Block → BlockCounts
with_free c b =
    record c { free = c.free + 1; free_words = c.free_words + b.size; run = c.run + b.size; largest = max c.largest (c.run + b.size) }

-- the counts with one more block
abbrev pub counted : BlockCounts → Block → BlockCounts
counted c b = if b.free then with_free c b else with_used c b

-- the counts with all of these blocks
abbrev pub counts_from : BlockCounts → List Block → BlockCounts
counts_from c [] = c
counts_from c (b ∷ bs) = counts_from (counted c b) bs

-- the counts of all blocks of a store
abbrev pub counts_of : List Block → BlockCounts
counts_of bs = counts_from no_counts bs

-- the counts stay below 2 ^ 32
pub record MayCount (c : BlockCounts) (b : Block) : Type 0 where
  -- one used block more can be counted
  pub used : c.used + 1 < 2 ^ 32
  -- so can its words
  pub used_words : c.used_words + b.size < 2 ^ 32
  -- one free block more can be counted
  pub free : c.free + 1 < 2 ^ 32
  -- so can its words
  pub free_words : c.free_words + b.size < 2 ^ 32
  -- and the words of the run that it ends
  pub run : c.run + b.size < 2 ^ 32
