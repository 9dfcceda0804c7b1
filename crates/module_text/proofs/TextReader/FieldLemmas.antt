-- The fields of a line, from the test and back.
use Rattle.std.proofs.Common.{◌≡◌, ◌∙◌, ℕ, ◌⊎◌, inl, inr, Bool, true, false, cond, Option, Some, None, Result, Ok, Err, List, ◌++◌, length, drop, refl, sym, ap, subst, nat_eq}
use Rattle.std.specs.Prelude.{option_and_then}
use Rattle.std.specs.Option.{ok_or}
use Rattle.std.specs.List.{starts_with}
use Rattle.std.proofs.Math.Seq.{drop-append_seam}
use Rattle.std.proofs.lemmas.Bool.Decides.{Decides-eqb}
use Rattle.std.proofs.lemmas.Option.{cond_some}
use Rattle.std.proofs.lemmas.Slice.Eq.{starts_is}
use Rattle.module_text.specs.TextReader.Fields.{IsNumberLine, after_word, number_after, number_line}
use Rattle.module_text.specs.TextReader.Numbers.{number_of}
use Rattle.module_text.specs.TextReader.Refusal.{Refusal, refusal}
use Rattle.module_text.proofs.TextReader.NumberLemmas.{number_in-again, number_in-ok}
use Rattle.module_text.proofs.TextReader.StepLemmas.{bind-err, bind-ok, guard-err, guard-ok, ok_or-err, ok_or-ok}

-- ---- words

-- what follows a word is behind it
pub after_word-ok : (word line rest : List ℕ) → after_word word line ≡ Some rest → line ≡ word ++ rest
after_word-ok word line rest e =
    let p = cond_some (starts_with nat_eq line word) (drop (length word) line) rest e in
    (starts_is Decides-eqb line word (starts_with nat_eq line word) refl).0 p.0 ∙ ap (λ (r : List ℕ). word ++ r) p.1

-- and a word is found at the front
pub after_word-again : (word rest : List ℕ) → after_word word (word ++ rest) ≡ Some rest
after_word-again word rest =
    let t = (starts_is Decides-eqb (word ++ rest) word (starts_with nat_eq (word ++ rest) word) refl).1 rest refl in
    rw (t, drop-append_seam word rest) refl

-- ---- a word and a number

number_behind : (word line : List ℕ) (v : ℕ) (o : Option (List ℕ)) → after_word word line ≡ o → option_and_then number_of o ≡ Some v → IsNumberLine word v line
number_behind word line v None e f = cc f
number_behind word line v (Some digits) e f = (digits, after_word-ok word line digits e, number_in-ok 10 10 digits v f)

-- what gave a number is a word and the number
pub number_after-ok : (word : List ℕ) (n : ℕ) (line : List ℕ) (v : ℕ) → number_after word n line ≡ Ok v → IsNumberLine word v line
number_after-ok word n line v e = number_behind word line v (after_word word line) refl (ok_or-ok _ _ v e)

-- and a word and a number give the number
pub number_after-again : (word : List ℕ) (n v : ℕ) (line : List ℕ) → IsNumberLine word v line → number_after word n line ≡ Ok v
number_after-again word n v line h =
    ap (number_after word n) h.1
    ∙ ap (λ (o : Option (List ℕ)). ok_or (option_and_then number_of o) (refusal n 1)) (after_word-again word h.0)
    ∙ ap (λ (o : Option ℕ). ok_or o (refusal n 1)) (number_in-again 10 10 h.0 v h.2)

abbrev no_number : Refusal → Result ℕ Refusal
no_number d = Err d

-- what gave none is no word and number, and has code 1
pub number_after-err : (word : List ℕ) (n : ℕ) (line : List ℕ) (d : Refusal) → number_after word n line ≡ Err d → (refusal n 1 ≡ d) × ((v : ℕ) → ¬ IsNumberLine word v line)
number_after-err word n line d e =
    let p = ok_or-err (option_and_then number_of (after_word word line)) (refusal n 1) d e in
    (p.1, λ v h. let again : no_number d ≡ Ok v = sym e ∙ number_after-again word n v line h in cc again)

-- a word and a number in its range
pub number_line-ok : (word : List ℕ) (is_in_range : ℕ → Bool) (n : ℕ) (line : List ℕ) (v : ℕ) → number_line word is_in_range n line ≡ Ok v → IsNumberLine word v line × (is_in_range v ≡ true)
number_line-ok word is_in_range n line v e =
    let b = bind-ok (number_after word n line) (λ x. cond (is_in_range x) (Ok x) (Err (refusal n 2))) v e in
    let g = guard-ok (is_in_range b.0) b.0 v (refusal n 2) b.2 in
    (subst (λ (x : ℕ). IsNumberLine word x line) g.1 (number_after-ok word n line b.0 b.1), subst (λ (x : ℕ). is_in_range x ≡ true) g.1 g.0)

pub number_line-again : (word : List ℕ) (is_in_range : ℕ → Bool) (n v : ℕ) (line : List ℕ) → IsNumberLine word v line → is_in_range v ≡ true → number_line word is_in_range n line ≡ Ok v
number_line-again word is_in_range n v line h t = rw (number_after-again word n v line h, t) refl

-- no word and number, or one out of its range
pub record IsOutOfRange (word : List ℕ) (is_in_range : ℕ → Bool) (line : List ℕ) : Type 0 where
  pub number : ℕ
  pub line_is : IsNumberLine word number line
  pub outside : is_in_range number ≡ false

pub number_line-err : (word : List ℕ) (is_in_range : ℕ → Bool) (n : ℕ) (line : List ℕ) (d : Refusal) → number_line word is_in_range n line ≡ Err d
    → ((refusal n 1 ≡ d) × ((v : ℕ) → ¬ IsNumberLine word v line)) ⊎ ((refusal n 2 ≡ d) × IsOutOfRange word is_in_range line)
number_line-err word is_in_range n line d e =
    elim (bind-err (number_after word n line) (λ v. cond (is_in_range v) (Ok v) (Err (refusal n 2))) d e) [
      | inl p ↦ inl (number_after-err word n line d p)
      | inr p ↦
          let g = guard-err (is_in_range p.0) p.0 (refusal n 2) d p.2 in
          inr (g.1, record { number = p.0; line_is = number_after-ok word n line p.0 p.1; outside = g.0 })
    ]
