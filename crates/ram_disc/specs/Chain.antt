-- Chains of sectors. Each sector's link names the next one of its chain.
use Rattle.std.specs.Prelude.{ℕ, zero, suc, ◌≡◌, ◌+◌, ◌-◌, ◌<◌, ◌≤◌, ◌==◌, if◌then◌else◌, List, [], ◌∷◌, length, map, slice_index, sum_by}
use Rattle.std.specs.List.{All}
use Rattle.word_store.specs.Count.{times}
use Rattle.ram_disc.specs.Disc.{most_files, most_sectors}
use Rattle.ram_disc.specs.declared.sectors.Chain.{Chain}

-- so many sectors along the links, from the first one on
unfoldable pub chain_from : List ℕ → ℕ → ℕ → List ℕ
chain_from links first zero = []
chain_from links first (suc n) = first ∷ chain_from links (slice_index links first) n

-- the sectors of a chain, in their order
abbrev pub chain_of : List ℕ → Chain → List ℕ
chain_of links c = chain_from links c.first c.length

-- a chain of no sector
abbrev pub no_sector : Chain
no_sector = record { first = 0; last = 0; length = 0 }

-- the chain, with a sector after its last one
abbrev pub with_last : Chain → ℕ → Chain
with_last c sector = record { first = if c.length == 0 then sector else c.first; last = sector; length = c.length + 1 }

-- the sector whose link leads to the next one of the chain: its last one, or that next one itself where it has none
abbrev pub sector_before : Chain → ℕ → ℕ
sector_before c sector = if c.length == 0 then sector else c.last

-- the chains that these are
abbrev pub chains_of : List ℕ → List Chain → List (List ℕ)
chains_of links cs = map (chain_of links) cs

-- how often the sector is in the chains
abbrev pub times_in : ℕ → List (List ℕ) → ℕ
times_in s chains = sum_by (times s) chains

-- chains of sectors, and the number of sectors that are in none
pub record Chains : Type 0 where
  -- the sectors of each slot, in the order of its bytes
  pub chains : List (List ℕ)
  -- how many sectors are in no chain
  pub left : ℕ

-- no sector is twice in the chains, each is one of the disc's, and with those that are left they are all
pub record AreApart (c : Chains) : Type 0 where
  -- no sector is there twice
  pub once : (s : ℕ) → times_in s c.chains ≤ 1
  -- a sector that is in a chain is one of the disc's
  pub below : (s : ℕ) → 0 < times_in s c.chains → s < most_sectors
  -- the sectors in chains and those that are left are all
  pub all : sum_by length c.chains + c.left ≡ most_sectors
  -- each slot has a chain
  pub slots : length c.chains ≡ most_files

-- the last sector of a chain that has any
abbrev pub EndsAtLast : List ℕ → Chain → Type 0
EndsAtLast links c = 0 < c.length → slice_index (chain_of links c) (c.length - 1) ≡ c.last

-- Each sector is in one chain, or in the free chain, and there once.
pub record AreChained (links : List ℕ) (cs : List Chain) (free left : ℕ) : Type 0 where
  -- there is a link for each sector
  pub size : length links ≡ most_sectors
  -- a sector is in one chain at most, the free one among them, and there once
  pub once : (s : ℕ) → times_in s (chains_of links cs) + times s (chain_from links free left) ≤ 1
  -- what is in a chain is a sector of the disc
  pub below : (s : ℕ) → 0 < times_in s (chains_of links cs) + times s (chain_from links free left) → s < most_sectors
  -- the last sector of each chain is the one that is told
  pub ends : All (EndsAtLast links) cs
  -- the chains and those that are left have all sectors
  pub all : sum_by length (chains_of links cs) + left ≡ most_sectors
  -- each slot has a chain
  pub slots : length cs ≡ most_files
