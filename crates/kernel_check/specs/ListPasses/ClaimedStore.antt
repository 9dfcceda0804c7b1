-- What a pass over the lists may rest on.
use Rattle.std.specs.Prelude.{ℕ, List}
use Rattle.kernel_lists.specs.GetvecChain.Tiling.{IsTiled}
use Rattle.store_claims.specs.AdoptionLaw.Passes.{IsValidRoot}
use Rattle.store_claims.specs.AdoptionLaw.ClaimableStore.{AreClaimable}

-- The rules of the root hold, the blocks tile the store, and the walks have claimed all words.
pub record IsClaimed (s : List ℕ) : Type 0 where
  -- the root
  pub root : IsValidRoot s
  -- the blocks
  pub tiled : IsTiled s
  -- the lists
  pub claims : AreClaimable s
