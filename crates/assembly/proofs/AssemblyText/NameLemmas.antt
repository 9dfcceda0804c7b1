-- A name is text.
use Rattle.std.proofs.Common.{◌≡◌, ℕ, ◌<◌, true, ◌||◌, ◌==◌, List, [], ◌∷◌, zero, suc, rules, get_or, Result, Ok, Err, arith}
use Rattle.std.specs.Char.{is_ascii_alphabetic, is_ascii_alphanumeric}
use Rattle.std.specs.List.{AllByRecursion, list_all}
use Rattle.std.specs.Result.{IsOk, MatchResult}
use Rattle.std.specs.Str.{IsUtf8}
use Rattle.std.proofs.lemmas.Bool.{and_parts}
use Rattle.std.proofs.lemmas.Bool.Decides.{nat_tests}
use Rattle.std.proofs.lemmas.Str.{IsUtf8-from_ascii}
use Rattle.assembly.specs.AssemblyText.Names.{has_name_form}

letters_low : (cs : List ℕ) → list_all (λ d. is_ascii_alphanumeric d || (d == 36)) cs ≡ true → AllByRecursion (λ c. c < 128) cs
letters_low [] h = tt
letters_low (c ∷ cs) h =
    let p = and_parts (is_ascii_alphanumeric c || (c == 36)) (list_all (λ d. is_ascii_alphanumeric d || (d == 36)) cs) h in
    let t = p.0 in
    (grind (arith, nat_tests), letters_low cs p.1)

low_at : (cs : List ℕ) → AllByRecursion (λ c. c < 128) cs → (i : ℕ) → get_or cs i 0 < 128
low_at [] h i = omega arith
low_at (c ∷ cs) h zero = h.0
low_at (c ∷ cs) h (suc i) = low_at cs h.1 i

pub name_is_text : (name : List ℕ) → has_name_form name ≡ true → IsUtf8 name
name_is_text [] h = cc h
name_is_text (c ∷ cs) h =
    let p = and_parts (is_ascii_alphabetic c) (list_all (λ d. is_ascii_alphanumeric d || (d == 36)) cs) h in
    let t = p.0 in
    IsUtf8-from_ascii (c ∷ cs) (low_at (c ∷ cs) (grind (arith, nat_tests), letters_low cs p.1))

-- what is no error is there
pub ok_from_cases : {A B : Type 0} (r : Result A B) (P : A → Type 0) (Q : B → Type 0) → MatchResult r P Q → ((e : B) → Q e → ⊥) → IsOk r
ok_from_cases (Ok x) P Q cases refuted = search rules
ok_from_cases (Err e) P Q cases refuted = absurd (refuted e cases)
