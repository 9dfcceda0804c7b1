-- What printf makes of a line of the plan.
use Rattle.std.proofs.Common.{◌≡◌, ◌∙◌, ℕ, suc, ◌+◌, ◌*◌, ◌/◌, ◌%◌, ◌^◌, ◌<◌, Bool, true, false, List, [], ◌∷◌, ◌++◌, codes, decimal, refl, ap, append_assoc, arith}
use Rattle.std.specs.Prelude.{◌==◌}
use Rattle.std.specs.List.{All, flat_map}
use Rattle.std.proofs.lemmas.Bool.Decides.{nat_tests}
use Rattle.std.proofs.lemmas.Fmt.{decimal_digit}
use Rattle.lab_marks.specs.Plans.{AsIs, is_plain, printed, shown}

-- three octal digits
octal-printed : (a b c : ℕ) (rest : List ℕ) → a < 8 → b < 8 → c < 8 → printed AsIs (codes "\\0" ++ decimal a ++ decimal b ++ decimal c ++ rest) ≡ ((a * 8 + b) * 8 + c) ∷ printed AsIs rest
octal-printed a b c rest ha hb hc =
    let x : a < 10 = omega arith in
    let y : b < 10 = omega arith in
    let z : c < 10 = omega arith in
    rw (decimal_digit a x, decimal_digit b y, decimal_digit c z)
    (ap (λ (n : ℕ). n ∷ printed AsIs rest) (omega arith))

regroup : (x y z rest : List ℕ) → (codes "\\0" ++ x ++ y ++ z) ++ rest ≡ codes "\\0" ++ x ++ y ++ z ++ rest
regroup x y z rest = simp append_assoc

-- a byte by its tests
by_tests : (byte : ℕ) (rest : List ℕ) (line slash plain : Bool) → byte < 2 ^ 8 → (byte == 10) ≡ line → (byte == 92) ≡ slash → is_plain byte ≡ plain
    → printed AsIs (shown byte ++ rest) ≡ byte ∷ printed AsIs rest
by_tests byte rest true slash plain small l s p = let same : byte ≡ 10 = grind (arith, nat_tests) in rw same refl
by_tests byte rest false true plain small l s p = let same : byte ≡ 92 = grind (arith, nat_tests) in rw same refl
by_tests byte rest false false true small l s p = rw (l, s, p, s) refl
by_tests byte rest false false false small l s p =
    rw (l, s, p)
    (ap (λ (text : List ℕ). printed AsIs text) (regroup (decimal (byte / 64)) (decimal (byte / 8 % 8)) (decimal (byte % 8)) rest)
    ∙ octal-printed (byte / 64) (byte / 8 % 8) (byte % 8) rest (omega arith) (omega arith) (omega arith)
    ∙ ap (λ (n : ℕ). n ∷ printed AsIs rest) (omega arith))

-- printf makes the bytes again
pub bytes-printed : (bytes : List ℕ) → All (λ byte. byte < 2 ^ 8) bytes → printed AsIs (flat_map shown bytes) ≡ bytes
bytes-printed [] all = refl
bytes-printed (byte ∷ bytes) all =
    by_tests byte (flat_map shown bytes) (byte == 10) (byte == 92) (is_plain byte) (all 0 byte (omega arith)) refl refl refl
    ∙ ap (λ (rest : List ℕ). byte ∷ rest) (bytes-printed bytes (λ k d h. all (suc k) d (omega arith)))
