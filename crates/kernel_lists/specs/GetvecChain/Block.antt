-- A block of a store: a size word, and the words after it, its data.
use Rattle.std.specs.Prelude.{ℕ, ◌+◌, ◌-◌, ◌%◌, Bool, true, false, not, ◌&&◌, ◌==◌, nat_lt, if◌then◌else◌}
use Rattle.kernel_lists.specs.declared.getvec_chain.pieces.Block.{Block}

-- the size word: the size, with 1 added where the block is free
abbrev pub size_word : Block → ℕ
size_word b = if b.free then b.size + 1 else b.size

-- the block that a size word makes at an address
abbrev pub block_of_word : ℕ → ℕ → Block
block_of_word at w = record { start = at; size = w - w % 2; free = w % 2 == 1 }

-- the block of n words at an address, its size word among them, that is handed out
abbrev pub used_block : ℕ → ℕ → Block
used_block at n = record { start = at; size = n; free = false }

-- the block of n words at an address, its size word among them, that is free
abbrev pub free_block : ℕ → ℕ → Block
free_block at n = record { start = at; size = n; free = true }

-- the address after the block's last word
abbrev pub block_end : Block → ℕ
block_end b = b.start + b.size

-- the word at the address is one of the block's data
abbrev pub has_data : Block → ℕ → Bool
has_data b a = nat_lt b.start a && nat_lt a (block_end b)

-- the block is used, and its data begin at the address
abbrev pub is_used_at : ℕ → Block → Bool
is_used_at v b = not b.free && (b.start + 1 == v)
