-- A text is cut at its first byte of a kind, and its parts are between spaces.
use Rattle.std.proofs.Common.{◌≡◌, ◌≢◌, ◌∙◌, ℕ, zero, suc, ◌+◌, ◌≤◌, eqb, cond, not, ◌==◌, Bool, true, false, List, [], ◌∷◌, ◌++◌, length, take, drop, refl, sym, ap, subst, arith, one-add, length-drop}
use Rattle.std.specs.List.{position_or_len}
use Rattle.std.proofs.lemmas.Bool.{eq-eqb, ne_eqb}
use Rattle.std.proofs.lemmas.Bool.Decides.{nat_tests}
use Rattle.std.proofs.lemmas.List.{drop_at, take-append-drop, take_at}
use Rattle.assembly.specs.AssemblyText.LineForm.{AreParts, EndsAt, IsCommented, IsFreeOf}
use Rattle.assembly.specs.AssemblyText.LineForm.AreParts.{at_end, part, space}
use Rattle.assembly.specs.AssemblyText.Parts.{parts_of, without_comment}
use Rattle.assembly.proofs.AssemblyText.PartLemmas.{parts_of-first}

-- ---- up to the first such byte

module _ (byte : ℕ) where
  abbrev front : List ℕ → ℕ
  front cs = position_or_len (λ c. c == byte) cs

  free-front : (cs : List ℕ) → IsFreeOf byte (take (front cs) cs)
  free-front [] = tt
  free-front (c ∷ cs) = on (eqb c byte) refl (free-front cs)
    where
      on : (b : Bool) → eqb c byte ≡ b → IsFreeOf byte (take (front cs) cs) → IsFreeOf byte (take (cond (not b) (1 + front cs) 0) (c ∷ cs))
      on true e free = tt
      on false e free = let other : c ≢ byte = grind (arith, nat_tests) in rw one-add (other, free)

  ends-front : (cs : List ℕ) → EndsAt byte (drop (front cs) cs)
  ends-front [] = tt
  ends-front (c ∷ cs) = on (eqb c byte) refl (ends-front cs)
    where
      on : (b : Bool) → eqb c byte ≡ b → EndsAt byte (drop (front cs) cs) → EndsAt byte (drop (cond (not b) (1 + front cs) 0) (c ∷ cs))
      on true e ends = grind (arith, nat_tests)
      on false e ends = rw one-add ends

  front-suc : (c : ℕ) (cs : List ℕ) → eqb c byte ≡ false → front (c ∷ cs) ≡ suc (front cs)
  front-suc c cs e = rw (e, one-add) refl

  front-length : (text rest : List ℕ) → IsFreeOf byte text → EndsAt byte rest → front (text ++ rest) ≡ length text
  front-length [] [] free ends = refl
  front-length [] (c ∷ rest) free ends = rw (eq-eqb c byte ends) refl
  front-length (c ∷ text) rest free ends = front-suc c (text ++ rest) (ne_eqb c byte free.0) ∙ ap (λ n. suc n) (front-length text rest free.1 ends)

-- ---- the comment

pub commented : (text : List ℕ) → IsCommented text (without_comment text)
commented text = record {
  comment = drop (front 59 text) text;
  all = sym (take-append-drop (front 59 text) text);
  free = free-front 59 text;
  ends = ends-front 59 text;
}

pub commented-is : (text code : List ℕ) → IsCommented text code → without_comment text ≡ code
commented-is text code is =
    ap without_comment is.all
    ∙ (ap (λ n. take n (code ++ is.comment)) (front-length 59 code is.comment is.free is.ends) ∙ take_at code is.comment (length code) refl)

-- ---- the parts

no-parts : parts_of [] ≡ []
unfolding parts_of
no-parts = refl

space-parts : (text : List ℕ) → parts_of (32 ∷ text) ≡ parts_of text
unfolding parts_of
space-parts text = refl

first-part : (first : ℕ) (text rest : List ℕ) → first ≢ 32 → front 32 (first ∷ (text ++ rest)) ≡ suc (length text) → parts_of (first ∷ (text ++ rest)) ≡ (first ∷ text) ∷ parts_of rest
first-part first text rest no_space n =
    parts_of-first (first ∷ (text ++ rest)) (omega arith) no_space
    ∙ (ap (λ m. take m (first ∷ (text ++ rest)) ∷ parts_of (drop m (first ∷ (text ++ rest)))) n
    ∙ (λ i. take_at (first ∷ text) rest (suc (length text)) refl i ∷ parts_of (drop_at (first ∷ text) rest (suc (length text)) refl i)))

module _ (c : ℕ) (cs : List ℕ) where
  begins-space : c ≡ 32 → AreParts cs (parts_of cs) → AreParts (c ∷ cs) (parts_of (c ∷ cs))
  begins-space is more = subst (λ z. AreParts (z ∷ cs) (parts_of (z ∷ cs))) (sym is) (subst (AreParts (32 ∷ cs)) (sym (space-parts cs)) (space more))

  -- the part that begins here, and what follows it
  abbrev word : List ℕ
  word = take (front 32 cs) cs

  abbrev rest : List ℕ
  rest = drop (front 32 cs) cs

  begins-part : c ≢ 32 → eqb c 32 ≡ false → AreParts rest (parts_of rest) → AreParts (c ∷ cs) (parts_of (c ∷ cs))
  begins-part no_space e more =
      let n : front 32 (c ∷ (word ++ rest)) ≡ suc (length word) = front-suc 32 c (word ++ rest) e ∙ ap (λ m. suc m) (front-length 32 word rest (free-front 32 cs) (ends-front 32 cs)) in
      let here : AreParts (c ∷ (word ++ rest)) (parts_of (c ∷ (word ++ rest))) =
      subst (AreParts (c ∷ (word ++ rest))) (sym (first-part c word rest no_space n)) (part no_space (free-front 32 cs) (ends-front 32 cs) more)
      in
      subst (λ z. AreParts (c ∷ z) (parts_of (c ∷ z))) (take-append-drop (front 32 cs) cs) here

  begins : (b : Bool) → eqb c 32 ≡ b → AreParts cs (parts_of cs) → AreParts rest (parts_of rest) → AreParts (c ∷ cs) (parts_of (c ∷ cs))
  begins true e next behind = let is : c ≡ 32 = grind (arith, nat_tests) in begins-space is next
  begins false e next behind = let no_space : c ≢ 32 = grind (arith, nat_tests) in begins-part no_space e behind

-- those of a text of at most so many bytes
parted : (most : ℕ) (text : List ℕ) → length text ≤ most → AreParts text (parts_of text)
parted most [] few = subst (AreParts []) (sym no-parts) at_end
parted zero (c ∷ cs) few = absurd (omega (arith, few))
parted (suc most) (c ∷ cs) few =
    begins c cs (eqb c 32) refl (parted most cs (omega (arith, few))) (parted most (drop (front 32 cs) cs) (omega (arith, few, length-drop (front 32 cs) cs)))

pub are-parts : (text : List ℕ) → AreParts text (parts_of text)
are-parts text = parted (length text) text (omega arith)

pub parts-are : {text : List ℕ} {parts : List (List ℕ)} → AreParts text parts → parts_of text ≡ parts
parts-are at_end = no-parts
parts-are (space {text} more) = space-parts text ∙ parts-are more
parts-are (part {first} {text} {rest} no_space free ends more) =
    first-part first text rest no_space (front-suc 32 first (text ++ rest) (ne_eqb first 32 no_space) ∙ ap (λ m. suc m) (front-length 32 text rest free ends))
    ∙ ap (λ z. (first ∷ text) ∷ z) (parts-are more)
