-- The parts of a line, one after another.
use Rattle.std.proofs.Common.{◌≡◌, ◌≢◌, ◌∙◌, ℕ, suc, ◌<◌, ◌≤◌, inl, inr, Bool, false, not, ◌==◌, Some, None, List, [], ◌∷◌, ◌++◌, length, get_or, take, drop, refl, sym, ap, arith, add-one, add-zero, append-nil, length-take, length-drop, nat_lt}
use Rattle.std.specs.Prelude.{filter, unwrap_or}
use Rattle.std.specs.List.{after_first, position, position_or_len, slice_split}
use Rattle.std.proofs.Math.Seq.{drop-cons}
use Rattle.std.proofs.lemmas.Bool.{cases_lt}
use Rattle.std.proofs.lemmas.Bool.Decides.{nat_tests}
use Rattle.std.proofs.lemmas.List.{drop_all, get_or-drop, get_or-take, take-append-drop, take_all}
use Rattle.std.proofs.lemmas.List.Elements.{All-from_get_or}
use Rattle.std.proofs.lemmas.List.Quantifiers.{position-Some}
use Rattle.std.proofs.lemmas.List.Splits.{slice_split_first, slice_split_none}
use Rattle.std.proofs.lemmas.List.Sums.{fails_before_first, passes_at_first, prefix_len-le-length}
use Rattle.assembly.specs.AssemblyText.Parts.{parts_of}

abbrev is_space : ℕ → Bool
is_space c = c == 32

-- the place of the first space, or the line's length
abbrev end_at : List ℕ → ℕ
end_at line = position_or_len is_space line

pub first_or_end : (xs : List ℕ) → unwrap_or (position (λ c. c == 32) xs) (length xs) ≡ position_or_len (λ c. c == 32) xs
first_or_end xs = let le = prefix_len-le-length (λ c. not (c == 32)) xs in grind (arith, nat_tests)

-- spaces at the front go with it
parts_of-spaces : (front rest : List ℕ) → ((k : ℕ) → k < length front → get_or front k 0 ≡ 32) → parts_of (front ++ rest) ≡ parts_of rest
unfolding parts_of
parts_of-spaces [] rest h = refl
parts_of-spaces (c ∷ cs) rest h =
    let here : c ≡ 32 = h 0 (omega arith) in
    let after = parts_of-spaces cs rest (λ k lt. h (suc k) (omega arith)) in
    rw here after

-- the first part begins with the first byte that is no space
pub parts_of-skip : (line : List ℕ) (i : ℕ) → Some i ≡ position (λ c. not (c == 32)) line → (parts_of line ≡ parts_of (drop i line)) × (i < length line) × (get_or line i 0 ≢ 32)
parts_of-skip line i e =
    let p = position-Some (λ c. not (c == 32)) line i 0 (sym e) in
    let lt : i < length line = p.0 in
    let spaces : (k : ℕ) → k < length (take i line) → get_or (take i line) k 0 ≡ 32 = λ k h.
    let below : k < i = omega (arith, length-take i line) in
    let t = p.2 k below in
    rw (get_or-take i line k 0 below) (grind (arith, nat_tests)) in
    (ap parts_of (sym (take-append-drop i line)) ∙ parts_of-spaces (take i line) (drop i line) spaces, lt, λ is. let t = p.1 in grind (arith, nat_tests))

-- a line of spaces has no part
pub parts_of-none : (line : List ℕ) → None ≡ position (λ c. not (c == 32)) line → parts_of line ≡ []
unfolding parts_of
parts_of-none line e =
    let spaces : (k : ℕ) → k < length line → get_or line k 0 ≡ 32 = λ k lt.
    let all : length line ≤ position_or_len (λ b. not (b == 32)) line = grind (arith, nat_tests) in
    let t = fails_before_first (λ b. not (b == 32)) line k 0 (omega arith) in
    grind (arith, nat_tests) in
    ap parts_of (sym (append-nil line)) ∙ parts_of-spaces line [] spaces

pub kept_first : (part : List ℕ) (parts : List (List ℕ)) → 0 < length part → filter (λ p. nat_lt 0 (length p)) (part ∷ parts) ≡ part ∷ filter (λ p. nat_lt 0 (length p)) parts
kept_first part parts some = grind (arith, nat_tests)

part_before_space : (line : List ℕ) → 0 < end_at line → end_at line < length line → parts_of line ≡ take (end_at line) line ∷ parts_of (drop (end_at line) line)
unfolding parts_of
part_before_space line some lt =
    let at : get_or line (end_at line) 0 ≡ 32 = let t = passes_at_first is_space line 0 lt in grind (arith, nat_tests) in
    let rest : drop (end_at line) line ≡ 32 ∷ after_first is_space line = rw (add-one (end_at line)) (drop-cons line (end_at line) 0 lt ∙ ap (λ (c : ℕ). c ∷ drop (suc (end_at line)) line) at) in
    let front : 0 < length (take (end_at line) line) = omega (arith, length-take (end_at line) line) in
    rw (slice_split_first is_space line 0 lt, kept_first (take (end_at line) line) (slice_split is_space (after_first is_space line)) front, rest) refl

part_to_end : (line : List ℕ) → 0 < length line → length line ≤ end_at line → parts_of line ≡ take (end_at line) line ∷ parts_of (drop (end_at line) line)
unfolding parts_of
part_to_end line some ge =
    let none = slice_split_none is_space line (All-from_get_or (λ c. is_space c ≡ false) line 0 (λ k lt. fails_before_first is_space line k 0 (omega arith))) in
    rw (none, take_all (end_at line) line ge, drop_all (end_at line) line ge, kept_first line [] some) refl

-- a part that begins at the front ends before the first space
pub parts_of-first : (line : List ℕ) → 0 < length line → get_or line 0 0 ≢ 32 → parts_of line ≡ take (end_at line) line ∷ parts_of (drop (end_at line) line)
parts_of-first [] some ne = absurd (omega arith)
parts_of-first (c ∷ cs) some ne =
    let begins : 0 < end_at (c ∷ cs) = grind (arith, nat_tests) in
    elim (cases_lt (end_at (c ∷ cs)) (length (c ∷ cs))) [
      | inl lt ↦ part_before_space (c ∷ cs) begins lt
      | inr ge ↦ part_to_end (c ∷ cs) some ge
    ]

-- the first part, and what follows it, after i spaces
pub parts_of-after : (line : List ℕ) (i : ℕ) → Some i ≡ position (λ c. not (c == 32)) line → parts_of line ≡ take (end_at (drop i line)) (drop i line) ∷ parts_of (drop (end_at (drop i line)) (drop i line))
parts_of-after line i e =
    let p = parts_of-skip line i e in
    let some : 0 < length (drop i line) = omega (arith, length-drop i line, p.1) in
    let ne : get_or (drop i line) 0 0 ≢ 32 = rw (get_or-drop i line 0 0, add-zero) p.2 in
    p.0 ∙ parts_of-first (drop i line) some ne
