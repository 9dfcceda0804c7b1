-- What the walks of a check claim.
use Rattle.std.specs.Prelude.{◌≡◌, ℕ, ◌<◌, ◌≤◌, Bool, List, length}
use Rattle.kernel_lists.specs.GetvecChain.Tiling.{blocks_in}
use Rattle.kernel_model.specs.KernelRecord.Recovered.{lists_in}
use Rattle.store_claims.specs.ListClaims.BlockData.{is_used_data}
use Rattle.store_claims.specs.WordClaims.Marks.{is_open}
use Rattle.store_claims.specs.AdoptionLaw.Passes.{ListsEnd}
use Rattle.store_claims.specs.AdoptionLaw.ClaimCounts.{AreUsed, claim_count}

-- The open words are the data of the used blocks.
pub record OpensData (s : List ℕ) (marks : List Bool) : Type 0 where
  -- there is a mark for each word of the store
  pub size : length marks ≡ length s
  -- and this is what it says
  pub are_open : (a : ℕ) → a < length s → is_open marks a ≡ is_used_data a (blocks_in s)

-- The walks along all lists claim their words. So the lists can be walked.
pub record AreClaimable (s : List ℕ) : Type 0 where
  -- all lists end
  pub ends : ListsEnd s
  -- no word is met twice
  pub once : (a : ℕ) → claim_count a (lists_in s) ≤ 1
  -- and each is one of a used block's data
  pub used : AreUsed s
