-- Marks at the starts of used blocks, at modules, and at a task's coroutines: each answers in one look whether something is there.
use Rattle.std.specs.Prelude.{◌≡◌, ℕ, ◌<◌, ◌==◌, ◌&&◌, Bool, true, not, List, length}
use Rattle.std.specs.List.{list_any}
use Rattle.kernel_lists.specs.LinkedList.Places.{has}
use Rattle.kernel_lists.specs.declared.getvec_chain.pieces.Block.{Block}
use Rattle.kernel_lists.specs.GetvecChain.Tiling.{blocks_in}
use Rattle.store_claims.specs.WordClaims.Marks.{is_open}

-- a used block starts there
abbrev pub starts_at : ℕ → List Block → Bool
starts_at a bs = list_any (λ b. not b.free && (b.start == a)) bs

-- The open words are the starts of used blocks.
pub record OpensStarts (s : List ℕ) (marks : List Bool) : Type 0 where
  -- there is a mark for each word of the store
  pub size : length marks ≡ length s
  -- and this is what it says
  pub are_open : (a : ℕ) → a < length s → is_open marks a ≡ starts_at a (blocks_in s)

-- The open words are the members of a list of addresses.
pub record OpensMembers (s : List ℕ) (members : List ℕ) (marks : List Bool) : Type 0 where
  -- there is a mark for each word of the store
  pub size : length marks ≡ length s
  -- and this is what it says
  pub are_open : (a : ℕ) → a < length s → is_open marks a ≡ has a members

-- No word is open.
pub record IsShut (s : List ℕ) (marks : List Bool) : Type 0 where
  -- there is a mark for each word of the store
  pub size : length marks ≡ length s
  -- which says that it is shut
  pub none : (a : ℕ) → is_open marks a ≡ true → ⊥
