-- Appending one text after another.
use Rattle.std.proofs.Common.{◌≡◌, ◌∙◌, ℕ, List, [], ◌++◌, Option, None, Some, Result, Ok, Err, refl, sym, ap, append_assoc, append-nil, ◌<◌, suc, length, get_or, take, drop, drop-cons, ◌+◌, ◌∷◌, add-one}
use Rattle.std.specs.List.{flat_map}
use Rattle.std.proofs.Math.Seq.{take-suc}
use Rattle.std.proofs.lemmas.List.{take-append-drop}
use Rattle.std.proofs.lemmas.Grind.{flat_map-append}
use Rattle.std.specs.Io.KnownBytes.{Appends}
use Rattle.byte_streams.specs.Write.{AppendsPrefix, Prints}

pub Appends-nothing : (h : Option (List ℕ)) → Appends h h []
Appends-nothing None = tt
Appends-nothing (Some xs) = sym (append-nil xs)

pub Appends-then : (h m k : Option (List ℕ)) (a b : List ℕ) → Appends h m a → Appends m k b → Appends h k (a ++ b)
Appends-then None m k a b p q = tt
Appends-then (Some xs) None k a b p q = absurd p
Appends-then (Some xs) (Some ys) None a b p q = absurd q
Appends-then (Some xs) (Some ys) (Some zs) a b p q = q ∙ ap (λ v. v ++ b) p ∙ append_assoc xs a b

pub AppendsPrefix-then : (h m k : Option (List ℕ)) (a b : List ℕ) → Appends h m a → AppendsPrefix m k b → AppendsPrefix h k (a ++ b)
AppendsPrefix-then h m k a b p q =
    (a ++ q.0, q.1, ap (λ v. a ++ v) q.2 ∙ sym (append_assoc a q.0 q.1), Appends-then h m k a q.0 p q.3)

pub AppendsPrefix-more : (h k : Option (List ℕ)) (a b : List ℕ) → AppendsPrefix h k a → AppendsPrefix h k (a ++ b)
AppendsPrefix-more h k a b q = (q.0, q.1 ++ b, ap (λ v. v ++ b) q.2 ∙ append_assoc q.0 q.1 b, q.3)

-- a whole text is a prefix of more
pub AppendsPrefix-whole : (h k : Option (List ℕ)) (a b : List ℕ) → Appends h k a → AppendsPrefix h k (a ++ b)
AppendsPrefix-whole h k a b p = (a, b, refl, p)

-- a text that was written, and then one that was printed
pub Prints-then : {T E : Type 0} (h m k : Option (List ℕ)) (a b : List ℕ) (r : Result T E) → Appends h m a → Prints m k b r → Prints h k (a ++ b) r
Prints-then h m k a b (Ok x) p q = Appends-then h m k a b p q
Prints-then h m k a b (Err e) p q = AppendsPrefix-then h m k a b p q

-- a flat_map, cut at an index
pub flat_map-at : {X A : Type 0} (f : X → List A) (xs : List X) (i : ℕ) (d : X) → i < length xs → flat_map f xs ≡ flat_map f (take i xs) ++ (f (get_or xs i d) ++ flat_map f (drop (suc i) xs))
flat_map-at f xs i d h =
    ap (flat_map f) (sym (take-append-drop i xs)) ∙ flat_map-append f (take i xs) (drop i xs) ∙ ap (λ v. flat_map f (take i xs) ++ flat_map f v) (drop-cons xs i d h)

-- the flat_map of one more
pub flat_map-more : {X A : Type 0} (f : X → List A) (xs : List X) (i : ℕ) (d : X) → i < length xs → flat_map f (take (i + 1) xs) ≡ flat_map f (take i xs) ++ f (get_or xs i d)
flat_map-more f xs i d h =
    let more : take (i + 1) xs ≡ take i xs ++ get_or xs i d ∷ [] = rw add-one (take-suc xs i d h) in
    ap (flat_map f) more ∙ flat_map-append f (take i xs) (get_or xs i d ∷ []) ∙ ap (λ v. flat_map f (take i xs) ++ v) (append-nil (f (get_or xs i d)))
