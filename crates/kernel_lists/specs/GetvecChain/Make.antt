-- A store is made one free block.
use Rattle.std.specs.Prelude.{ℕ, ◌-◌, List, length, slice_set}
use Rattle.kernel_lists.specs.declared.getvec_chain.pieces.Block.{Block}
use Rattle.kernel_lists.specs.GetvecChain.Block.{free_block, size_word}

-- the free block of all words from 200 up to the end word, which is the store's last word but one
abbrev pub whole_block : List ℕ → Block
whole_block s = free_block 200 (length s - 202)

-- the store with that block's size word, and with its end word
abbrev pub made_store : List ℕ → List ℕ
made_store s = slice_set (slice_set s 200 (size_word (whole_block s))) (length s - 2) 0
