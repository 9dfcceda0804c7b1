-- Signed words in 64 bits.
use Rattle.std.proofs.Common.{◌≡◌, ◌≢◌, ℕ, ◌≤◌, ◌^◌, ℤ, pos, negsuc, ◌*ℤ◌, FitsSigned, to_z, of_z, refl, arith, w32, w64}
use Rattle.std.specs.Prelude.{int_div, int_rem, unsigned_abs}
use Rattle.std.proofs.lemmas.Bool.Decides.{nat_tests}
use Rattle.std.proofs.lemmas.Int.{to_z-of_z, fits_signed_mul}
use Rattle.word_store.specs.Arithmetic.{mul_div, signed, word_of}

-- a number, through 64 bits
abbrev pub through : ℤ → ℤ
through z = to_z w64 (of_z w64 z)

abs_below : (z : ℤ) → FitsSigned w32 z → unsigned_abs z ≤ 2 ^ 31
abs_below (pos n) f = omega (arith, f.sfits)
abs_below (negsuc n) f = omega (arith, f.sfits)

through-word : (z : ℤ) → FitsSigned w32 z → through z ≡ z
through-word z f = to_z-of_z w64 z (record { sfits = omega (arith, f.sfits) })

through-product : (x y : ℤ) → FitsSigned w32 x → FitsSigned w32 y → through (x *ℤ y) ≡ x *ℤ y
through-product x y f g = to_z-of_z w64 (x *ℤ y) (fits_signed_mul w64 x y (2 ^ 31) (2 ^ 31) (abs_below x f) (abs_below y g) (omega arith))

pub mul_div-wide : (a b c : ℕ) (x y z : ℤ) → x ≡ signed a → y ≡ signed b → z ≡ signed c → FitsSigned w32 x → FitsSigned w32 y → FitsSigned w32 z → c ≢ 0
    → (word_of (int_div (through (through x *ℤ through y)) (through z)), word_of (int_rem (through (through x *ℤ through y)) (through z))) ≡ mul_div a b c
mul_div-wide a b c x y z ex ey ez fx fy fz nonzero =
    let product : through (through x *ℤ through y) ≡ signed a *ℤ signed b
    = rw (through-word x fx, through-word y fy, through-product x y fx fy, ex, ey) refl in
    let divisor : through z ≡ signed c = rw (through-word z fz, ez) refl in
    rw (product, divisor) (grind (arith, nat_tests))
