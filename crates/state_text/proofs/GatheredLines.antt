-- The lines of a list, gathered one after another.
use Rattle.std.proofs.Common.{◌≡◌, ◌∙◌, Bool, true, false, Option, Result, List, [], ◌∷◌, ◌++◌, ℕ, cond, filter, refl, sym, ap, subst, append_assoc, append-nil}
use Rattle.std.specs.List.{flat_map}
use Rattle.byte_streams.specs.Pending.{Gathers, IsCut, IsGathered}
use Rattle.byte_streams.proofs.GatheredTexts.{Gathers-then, IsCut-more, IsCut-then, IsGathered-nothing, IsGathered-then}

-- the last of several texts
pub gathers-last : {T E : Type 0} {h m : Option (List ℕ)} {p q a : List ℕ} → IsGathered h m p q a → (k : Option (List ℕ)) (r b : List ℕ) (result : Result T E) → Gathers m k q r b result
    → Gathers h k p r (a ++ (b ++ [])) result
gathers-last {h = h} {p = p} {a = a} first k r b result last = subst (λ (v : List ℕ). Gathers h k p r (a ++ v) result) (sym (append-nil b)) (Gathers-then first k r b result last)

-- the lines of the members before these were gathered, and with the others they are the text
pub record IsSoFar {X : Type 0} (line : X → List ℕ) (rest : List X) (text : List ℕ) (h k : Option (List ℕ)) (p q : List ℕ) : Type 0 where
  pub front : List ℕ
  pub all : front ++ flat_map line rest ≡ text
  pub gathered : IsGathered h k p q front

module _ {X : Type 0} (line : X → List ℕ) where
  pub lines-first : (xs : List X) (text : List ℕ) (h : Option (List ℕ)) (p : List ℕ) → flat_map line xs ≡ text → IsSoFar line xs text h h p p
  lines-first xs text h p is = record { front = []; all = is; gathered = IsGathered-nothing h p }

  module _ (x : X) (xs rest : List X) (text : List ℕ) (is : rest ≡ x ∷ xs) {h k : Option (List ℕ)} {p q : List ℕ} (d : IsSoFar line rest text h k p q) where
    lines-at : text ≡ d.front ++ (line x ++ flat_map line xs)
    lines-at = sym d.all ∙ ap (λ ys. d.front ++ flat_map line ys) is

    -- the line of a member
    pub lines-next : {m : Option (List ℕ)} {r : List ℕ} → IsGathered k m q r (line x) → IsSoFar line xs text h m p r
    lines-next {m} {r} more = record {
      front = d.front ++ line x;
      all = append_assoc d.front (line x) (flat_map line xs) ∙ sym lines-at;
      gathered = IsGathered-then d.gathered more;
    }

    -- the sink failed at it
    pub lines-cut : {m : Option (List ℕ)} → IsCut k m q (line x) → IsCut h m p text
    lines-cut {m} cut = subst (IsCut h m p) (sym lines-at) (IsCut-then d.gathered (IsCut-more (flat_map line xs) cut))

  -- the lines of those members that pass a test
  pub lines-filter : (test : X → Bool) (xs : List X) → flat_map (λ x. cond (test x) (line x) []) xs ≡ flat_map line (filter test xs)
  lines-filter test [] = refl
  lines-filter test (x ∷ xs) = on (test x) (lines-filter test xs)
    where
      on : (b : Bool) → flat_map (λ y. cond (test y) (line y) []) xs ≡ flat_map line (filter test xs)
          → cond b (line x) [] ++ flat_map (λ y. cond (test y) (line y) []) xs ≡ flat_map line (cond b (x ∷ filter test xs) (filter test xs))
      on true more = ap (λ ys. line x ++ ys) more
      on false more = more
