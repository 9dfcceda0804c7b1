-- Where the lines of a text end.
use Rattle.std.proofs.Common.{◌≡◌, ◌≢◌, ◌∙◌, ℕ, suc, ◌<◌, ◌≤◌, ◌+◌, Bool, true, false, cond, ◌==◌, eqb, Some, None, List, [], ◌∷◌, ◌++◌, length, get_or, take, drop, refl, sym, ap, arith, add-one, length-take}
use Rattle.std.specs.List.{AllByRecursion, onto_first, position, position_or_len}
use Rattle.std.specs.Str.Lines.{strip_carriage_return}
use Rattle.std.proofs.Math.Seq.{split_at}
use Rattle.std.proofs.lemmas.Bool.Decides.{nat_tests}
use Rattle.std.proofs.lemmas.List.{get_or-take}
use Rattle.std.proofs.lemmas.List.Elements.{All-from_get_or, recursion_from_All}
use Rattle.std.proofs.lemmas.List.Quantifiers.{position-Some}
use Rattle.std.proofs.lemmas.List.Sums.{fails_before_first}
use Rattle.module_text.specs.TextReader.Lines.{lines_of}
use native.Mathlib.Numerals.{unary_clauses}

-- no byte of a line is LF
abbrev pub HasNoLf : List ℕ → Type 0
HasNoLf line = AllByRecursion (λ c. c ≢ 10) line

cons_cond : (b : Bool) (c : ℕ) (xs ys : List ℕ) → cond b (c ∷ xs) (c ∷ ys) ≡ c ∷ cond b xs ys
cons_cond true c xs ys = refl
cons_cond false c xs ys = refl

-- the last byte of a line is seen behind one more byte too
pub strip_behind : (c d : ℕ) (more : List ℕ) → strip_carriage_return (c ∷ d ∷ more) ≡ c ∷ strip_carriage_return (d ∷ more)
strip_behind c d more =
    simp unary_clauses (cons_cond (eqb (get_or (d ∷ more) (length more) 0) 13) c (take (length more) (d ∷ more)) (d ∷ more))

-- a line up to its LF
pub lines_at_lf : (line rest : List ℕ) → HasNoLf line → lines_of (line ++ 10 ∷ rest) ≡ strip_carriage_return line ∷ lines_of rest
lines_at_lf [] rest h = refl
lines_at_lf (c ∷ []) rest h = let ne : c ≢ 10 = h.0 in grind arith
lines_at_lf (c ∷ d ∷ more) rest h =
    let c_ne : c ≢ 10 = h.0 in
    let d_ne : d ≢ 10 = h.1.0 in
    let one : lines_of (c ∷ d ∷ (more ++ 10 ∷ rest)) ≡ onto_first c (lines_of (d ∷ (more ++ 10 ∷ rest))) = grind arith in
    one ∙ ap (onto_first c) (lines_at_lf (d ∷ more) rest h.1) ∙ ap (λ l. l ∷ lines_of rest) (sym (strip_behind c d more))

-- a last line with no LF
pub lines_last : (c : ℕ) (cs : List ℕ) → HasNoLf (c ∷ cs) → lines_of (c ∷ cs) ≡ (c ∷ cs) ∷ []
lines_last c [] h = let ne : c ≢ 10 = h.0 in grind arith
lines_last c (d ∷ ds) h =
    let c_ne : c ≢ 10 = h.0 in
    let d_ne : d ≢ 10 = h.1.0 in
    let one : lines_of (c ∷ d ∷ ds) ≡ onto_first c (lines_of (d ∷ ds)) = grind arith in
    one ∙ ap (onto_first c) (lines_last d ds h.1)

-- a line whose bytes are no LF, one by one
has_no_lf : (line : List ℕ) → ((k : ℕ) → k < length line → eqb (get_or line k 0) 10 ≡ false) → HasNoLf line
has_no_lf line h =
    recursion_from_All (λ c. c ≢ 10) line (All-from_get_or (λ c. c ≢ 10) line 0 (λ k lt. let e = h k lt in grind (arith, nat_tests)))

-- the first line of a text that has a LF
pub first_line_at : (text : List ℕ) (i : ℕ) → Some i ≡ position (λ c. c == 10) text → lines_of text ≡ strip_carriage_return (take i text) ∷ lines_of (drop (i + 1) text)
first_line_at text i e =
    let p = position-Some (λ c. c == 10) text i 0 (sym e) in
    let lt : i < length text = p.0 in
    let at : get_or text i 0 ≡ 10 = let t = p.1 in grind (arith, nat_tests) in
    let parts : text ≡ take i text ++ 10 ∷ drop (suc i) text = split_at text i 0 lt ∙ ap (λ (c : ℕ). take i text ++ c ∷ drop (suc i) text) at in
    let front : HasNoLf (take i text) = has_no_lf (take i text) (λ k h.
    let below : k < i = omega (arith, length-take i text) in
    rw (get_or-take i text k 0 below) (p.2 k below)) in
    ap lines_of parts ∙ lines_at_lf (take i text) (drop (suc i) text) front ∙ rw (add-one i) refl

-- the only line of a text that has none
pub first_line_all : (text : List ℕ) → None ≡ position (λ c. c == 10) text → 0 < length text → lines_of text ≡ text ∷ []
first_line_all [] e h = absurd (omega arith)
first_line_all (c ∷ cs) e h =
    lines_last c cs (has_no_lf (c ∷ cs) (λ k lt.
    let all : length (c ∷ cs) ≤ position_or_len (λ b. b == 10) (c ∷ cs) = grind (arith, nat_tests) in
    fails_before_first (λ b. b == 10) (c ∷ cs) k 0 (omega arith)))
