-- The listing of a store, a line at a time.
use Rattle.std.proofs.Common.{◌≡◌, ◌∙◌, ℕ, zero, suc, ◌<◌, ◌≤◌, ◌+◌, false, Option, List, [], ◌++◌, nat_lt, refl, sym, ap, arith, append-nil}
use Rattle.std.proofs.lemmas.Bool.Decides.{nat_tests}
use Rattle.assembly.specs.ModuleListing.Listing.{listed}
use Rattle.assembly.specs.ModuleListing.HunkListing.{lines_from}
use Rattle.assembly.proofs.ModuleListing.HunkLines.{lines_some}

-- a line more
pub lines_more : (code : ℕ → Option ℕ) (end most few a : ℕ) → a < end → most ≡ few + 1 → lines_from code end most a ≡ (listed code a).text ++ lines_from code end few (a + (listed code a).length)
lines_more code end most few a lt one = (let next : most ≡ suc few = omega (arith, one) in ap (λ n. lines_from code end n a) next ∙ lines_some code end few a lt)

-- no more lines behind the end
pub lines_none : (code : ℕ → Option ℕ) (end most a : ℕ) → end ≤ a → lines_from code end most a ≡ []
lines_none code end zero a ge = refl
lines_none code end (suc most) a ge = let past : nat_lt a end ≡ false = grind (arith, nat_tests) in rw past refl

-- the lines so far are all
pub lines_end : (front rest all : List ℕ) → front ++ rest ≡ all → rest ≡ [] → front ≡ all
lines_end front rest all whole none = sym (append-nil front) ∙ ap (λ r. front ++ r) (sym none) ∙ whole
