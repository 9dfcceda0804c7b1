-- The blocks of a store, counted in one line.
use Rattle.std.specs.Prelude.{ℕ, not, List, [], ◌∷◌, codes, decimal, filter, length, max, sum_by}
use Rattle.byte_streams.specs.Pieces.{joined}
use Rattle.kernel_lists.specs.declared.getvec_chain.pieces.Block.{Block}
use Rattle.kernel_lists.specs.GetvecChain.Run.{run_size}

-- the blocks that are handed out, in the order of their addresses
abbrev pub used_blocks : List Block → List Block
used_blocks bs = filter (λ b. not b.free) bs

-- the blocks that are not, in the order of their addresses
abbrev pub free_blocks : List Block → List Block
free_blocks bs = filter (λ b. b.free) bs

-- the sizes of blocks, added up
abbrev pub words_of_blocks : List Block → ℕ
words_of_blocks bs = sum_by (λ b. b.size) bs

-- the most words of neighbouring free blocks, 0 where none is free
abbrev pub largest_run : List Block → ℕ
largest_run [] = 0
largest_run (b ∷ bs) = max (run_size (b ∷ bs)) (largest_run bs)

-- how many blocks of a kind there are, and how many words they have
abbrev pub count_text : List ℕ → ℕ → ℕ → List ℕ
count_text kind count words = joined (kind ∷ decimal count ∷ codes " blocks " ∷ decimal words ∷ codes " words, " ∷ [])

-- the used blocks, the free ones, and the words of the largest run
abbrev pub line_of_counts : ℕ → ℕ → ℕ → ℕ → ℕ → List ℕ
line_of_counts used used_words free free_words largest =
    joined (count_text (codes "used ") used used_words ∷ count_text (codes "free ") free free_words ∷ codes "largest run " ∷ decimal largest ∷ codes "\n" ∷ [])

-- the line of the blocks of a store
unfoldable pub block_line : List Block → List ℕ
block_line bs =
    line_of_counts (length (used_blocks bs)) (words_of_blocks (used_blocks bs)) (length (free_blocks bs)) (words_of_blocks (free_blocks bs)) (largest_run bs)

-- the line has at most so many bytes
abbrev pub most_in_block_line : ℕ
most_in_block_line = 105
