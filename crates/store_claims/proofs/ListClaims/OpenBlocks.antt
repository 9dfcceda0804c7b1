-- The data of used blocks are opened, block by block.
use Rattle.std.proofs.Common.{◌≡◌, ℕ, ◌+◌, ◌-◌, ◌<◌, ◌≤◌, ◌&&◌, ◌||◌, Bool, true, false, not, cond, leb, ltb, List, [], ◌∷◌, length, refl, sym, ap, ◌∙◌, subst, arith}
use Rattle.std.proofs.lemmas.Bool.Decides.{nat_tests}
use Rattle.kernel_lists.specs.declared.getvec_chain.pieces.Block.{Block}
use Rattle.kernel_lists.specs.GetvecChain.Block.{block_end, has_data}
use Rattle.kernel_lists.specs.GetvecChain.Tiling.{Tiles}
use Rattle.kernel_lists.proofs.GetvecChain.Tilings.{Tiles-inside}
use Rattle.store_claims.specs.WordClaims.Marks.{IsSet, is_open}
use Rattle.store_claims.specs.ListClaims.BlockData.{is_used_data}

-- these blocks are left of all; what is open, or is data of those, is data of all
pub record IsOpening (s : List ℕ) (marks : List Bool) (rest all : List Block) : Type 0 where
  pub at : ℕ
  pub tiles : Tiles s at rest
  pub size : length marks ≡ length s
  pub shown : (a : ℕ) → a < length s → (is_open marks a || is_used_data a rest) ≡ is_used_data a all

pub opening : (s : List ℕ) (marks : List Bool) (bs : List Block) → Tiles s 200 bs → length marks ≡ length s → ((a : ℕ) → is_open marks a ≡ false) → IsOpening s marks bs bs
opening s marks bs tiles size shut = record { at = 200; tiles = tiles; size = size; shown = λ a low. ap (λ b. b || is_used_data a bs) (shut a) }

-- the next block lies in the store
pub record NextLies (s : List ℕ) (b : Block) : Type 0 where
  pub some : 2 ≤ b.size
  pub inside : block_end b + 2 ≤ length s
