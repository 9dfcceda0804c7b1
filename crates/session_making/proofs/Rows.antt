-- Code in rows.
use Rattle.std.proofs.Common.{◌≡◌, ℕ, zero, suc, ◌==◌, true, false, List, [], ◌∷◌, length, take, drop, refl, arith}
use Rattle.std.proofs.lemmas.Bool.Decides.{nat_tests}
use Rattle.session_making.specs.Sessions.{rows_by}

-- no code has no rows
pub no_code : (most : ℕ) (code : List ℕ) → (length code == 0) ≡ true → rows_by most code ≡ []
no_code zero code end = refl
no_code (suc most) [] end = refl
no_code (suc most) (c ∷ cs) end = grind (arith, nat_tests)

-- the first row, and those after it
pub one_row : (most next : ℕ) (code : List ℕ) → most ≡ suc next → (length code == 0) ≡ false → rows_by most code ≡ take 32 code ∷ rows_by next (drop 32 code)
one_row most next [] m some = grind (arith, nat_tests)
one_row most next (c ∷ cs) m some = rw m refl
