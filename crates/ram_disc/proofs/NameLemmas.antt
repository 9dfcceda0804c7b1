-- Names, by the test of their bytes.
use Rattle.std.proofs.Common.{◌≡◌, ℕ, ◌&&◌, Bool, true, false, cond, Option, Some, None, List, length, nat_le, refl, ap, arith}
use Rattle.std.specs.List.{list_all}
use Rattle.std.specs.Option.{SomeIff}
use Rattle.std.proofs.lemmas.Bool.{and_from, and_parts}
use Rattle.std.proofs.lemmas.Bool.Decides.{nat_tests}
use Rattle.std.proofs.lemmas.List.Sums.{AllPass-from_list_all, list_all-from_AllPass}
use Rattle.ram_disc.specs.Name.{IsName, is_name, is_name_byte}

pub IsName-from_test : (bytes : List ℕ) → is_name bytes ≡ true → IsName bytes
IsName-from_test bytes e =
    let p = and_parts (nat_le 1 (length bytes) && nat_le (length bytes) 12) (list_all is_name_byte bytes) e in
    let q = and_parts (nat_le 1 (length bytes)) (nat_le (length bytes) 12) p.0 in
    let low : nat_le 1 (length bytes) ≡ true = q.0 in
    let high : nat_le (length bytes) 12 ≡ true = q.1 in
    (grind (arith, nat_tests), grind (arith, nat_tests), AllPass-from_list_all is_name_byte bytes p.1)

pub is_name-from : (bytes : List ℕ) → IsName bytes → is_name bytes ≡ true
is_name-from bytes h =
    let low : nat_le 1 (length bytes) ≡ true = let a = h.0 in grind (arith, nat_tests) in
    let high : nat_le (length bytes) 12 ≡ true = let a = h.1 in grind (arith, nat_tests) in
    and_from _ _ (and_from _ _ low high) (list_all-from_AllPass is_name_byte bytes h.2)

name_by : (bytes : List ℕ) (b : Bool) (o : Option (List ℕ)) → is_name bytes ≡ b → SomeIff o (IsName bytes) bytes → o ≡ cond b (Some bytes) None
name_by bytes true (Some x) e h = ap (λ (y : List ℕ). Some y) h.1
name_by bytes true None e h = absurd (h (IsName-from_test bytes e))
name_by bytes false (Some x) e h = let yes = is_name-from bytes h.0 in cc
name_by bytes false None e h = refl

-- a name is read exactly where the test passes
pub name_read : (bytes : List ℕ) (o : Option (List ℕ)) → SomeIff o (IsName bytes) bytes → o ≡ cond (is_name bytes) (Some bytes) None
name_read bytes o h = name_by bytes (is_name bytes) o refl h
