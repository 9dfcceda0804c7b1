-- The bytes of slots: what is in the sectors of their chains.
use Rattle.std.specs.Prelude.{ℕ, ◌≡◌, ◌+◌, ◌*◌, ◌/◌, ◌%◌, ◌<◌, ◌≢◌, List, [], ◌++◌, drop, length, map, slice_index, slice_index_or, slice_set, take}
use Rattle.std.specs.List.{range_with_len}
use Rattle.ram_disc.specs.Chain.{AreApart, Chains}
use Rattle.ram_disc.specs.Disc.{most_files, most_sectors, sectors_of}

-- where byte p of a chain is among the bytes of all sectors
abbrev pub place_in : List ℕ → ℕ → ℕ
place_in chain p = 512 * slice_index chain (p / 512) + p % 512

-- the first n bytes of a chain
unfoldable pub bytes_in : List ℕ → List ℕ → ℕ → List ℕ
bytes_in stored chain n = map (λ p. slice_index stored (place_in chain p)) (range_with_len 0 n)

-- the bytes of each slot: so many of its chain
unfoldable pub all_bytes : List ℕ → List (List ℕ) → List ℕ → List (List ℕ)
all_bytes stored chains sizes = map (λ i. bytes_in stored (slice_index_or chains i []) (slice_index sizes i)) (range_with_len 0 (length sizes))

-- the list, with these bytes over its own from a place on
abbrev pub with_piece : List ℕ → ℕ → List ℕ → List ℕ
with_piece list at bytes = take at list ++ (bytes ++ drop (at + length bytes) list)

-- for each slot its sectors and its bytes; and how many sectors are left
pub record Area : Type 0 where
  -- the sectors of each slot, in the order of its bytes
  pub chains : List (List ℕ)
  -- the bytes of each slot
  pub bytes : List (List ℕ)
  -- how many sectors no slot has
  pub left : ℕ

-- each slot has as many sectors as its bytes take
pub record IsArea (stored : List ℕ) (c : Chains) (sizes : List ℕ) : Type 0 where
  -- no sector is in two slots
  pub apart : AreApart c
  -- 512 bytes are stored for each sector
  pub size : length stored ≡ 512 * most_sectors
  -- each slot has a size
  pub slots : length sizes ≡ most_files
  -- a slot has the sectors that so many bytes take
  pub lengths : (i : ℕ) → i < length sizes → length (slice_index_or c.chains i []) ≡ sectors_of (slice_index sizes i)

-- the bytes of a slot
abbrev pub bytes_at : Area → ℕ → List ℕ
bytes_at a slot = slice_index_or a.bytes slot []

-- the sectors of a slot
abbrev pub chain_at : Area → ℕ → List ℕ
chain_at a slot = slice_index_or a.chains slot []

-- Bytes come after those of a slot. The other slots stay as they are.
pub record Adds (old new : Area) (slot : ℕ) (more : List ℕ) : Type 0 where
  -- these bytes come after those of the slot
  pub bytes : new.bytes ≡ slice_set old.bytes slot (bytes_at old slot ++ more)
  -- the other slots have the same sectors
  pub others : (j : ℕ) → j ≢ slot → chain_at new j ≡ chain_at old j
  -- what the slot takes more is left less
  pub left : new.left + sectors_of (length (bytes_at old slot) + length more) ≡ old.left + sectors_of (length (bytes_at old slot))

-- A slot is emptied. The other slots stay as they are.
pub record Empties (old new : Area) (slot : ℕ) : Type 0 where
  -- the slot has no bytes
  pub bytes : new.bytes ≡ slice_set old.bytes slot []
  -- the other slots have the same sectors
  pub others : (j : ℕ) → j ≢ slot → chain_at new j ≡ chain_at old j
  -- the slot's sectors are left again
  pub left : new.left ≡ old.left + sectors_of (length (bytes_at old slot))

-- The slot's chain has a sector for the byte after the first n, and it is this one. The other slots stay as they are.
pub record Reserves (old new : Chains) (slot n sector : ℕ) : Type 0 where
  -- the other slots have the same sectors
  pub others : (j : ℕ) → j ≢ slot → slice_index_or new.chains j [] ≡ slice_index_or old.chains j []
  -- the slot has its sectors as before
  pub before : (k : ℕ) → k < length (slice_index_or old.chains slot [])
      → slice_index (slice_index_or new.chains slot []) k ≡ slice_index (slice_index_or old.chains slot []) k
  -- the slot has the sectors that a byte more takes
  pub size : length (slice_index_or new.chains slot []) ≡ sectors_of (n + 1)
  -- it is the sector of that byte
  pub last : sector ≡ slice_index (slice_index_or new.chains slot []) (n / 512)
  -- a sector that is new to the slot is left no more
  pub left : new.left + sectors_of (n + 1) ≡ old.left + sectors_of n
  -- no sector is in two slots
  pub apart : AreApart new
