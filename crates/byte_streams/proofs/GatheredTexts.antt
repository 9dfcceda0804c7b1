-- Texts gathered one after another.
use Rattle.std.proofs.Common.{◌≡◌, ◌∙◌, ℕ, List, [], ◌++◌, Option, Result, Ok, Err, sym, ap, subst, append_assoc, append-nil}
use Rattle.std.specs.Io.KnownBytes.{Appends}
use Rattle.byte_streams.specs.Pending.{IsCut, IsGathered, Gathers}
use Rattle.byte_streams.specs.Write.{AppendsPrefix, Prints}
use Rattle.byte_streams.proofs.AppendedTexts.{Appends-nothing, Appends-then, AppendsPrefix-then, AppendsPrefix-more, Prints-then}

-- nothing is gathered yet
pub IsGathered-nothing : (h : Option (List ℕ)) (p : List ℕ) → IsGathered h h p p []
IsGathered-nothing h p = record { front = []; whole = append-nil p; sent = Appends-nothing h }

-- the sink failed at the text a, which another follows
pub IsCut-more : {h k : Option (List ℕ)} {p a : List ℕ} (b : List ℕ) → IsCut h k p a → IsCut h k p (a ++ b)
IsCut-more {h} {k} {p} {a} b cut = record { prefix = subst (AppendsPrefix h k) (append_assoc p a b) (AppendsPrefix-more h k (p ++ a) b cut.prefix) }

-- the text a is gathered: the sink h with p pending became m with q
module _ {h m : Option (List ℕ)} {p q a : List ℕ} (first : IsGathered h m p q a) where
  regrouped : (b : List ℕ) → p ++ (a ++ b) ≡ first.front ++ (q ++ b)
  regrouped b = sym (append_assoc p a b) ∙ ap (λ v. v ++ b) first.whole ∙ append_assoc first.front q b

  -- and then another
  pub IsGathered-then : {k : Option (List ℕ)} {r b : List ℕ} → IsGathered m k q r b → IsGathered h k p r (a ++ b)
  IsGathered-then {k} {r} {b} second = record {
    front = first.front ++ second.front;
    whole = regrouped b ∙ ap (λ v. first.front ++ v) second.whole ∙ sym (append_assoc first.front second.front r);
    sent = Appends-then h m k first.front second.front first.sent second.sent;
  }

  -- and then the sink failed at another
  pub IsCut-then : {k : Option (List ℕ)} {b : List ℕ} → IsCut m k q b → IsCut h k p (a ++ b)
  IsCut-then {k} {b} cut = record { prefix = subst (AppendsPrefix h k) (sym (regrouped b)) (AppendsPrefix-then h m k first.front (q ++ b) first.sent cut.prefix) }

  -- and then another, unless the sink failed at it
  pub Gathers-then : {T E : Type 0} (k : Option (List ℕ)) (r b : List ℕ) (result : Result T E) → Gathers m k q r b result → Gathers h k p r (a ++ b) result
  Gathers-then k r b (Ok x) second = IsGathered-then second
  Gathers-then k r b (Err e) cut = IsCut-then cut

  -- and then what is pending is passed on
  pub Prints-passed : {T E : Type 0} (k : Option (List ℕ)) (result : Result T E) → Prints m k q result → Prints h k (p ++ a) result
  Prints-passed k result last = rw first.whole (Prints-then h m k first.front q result first.sent last)

  -- and then what is pending is printed, and another text after it
  pub Prints-after : {T E : Type 0} (k : Option (List ℕ)) (b : List ℕ) (result : Result T E) → Prints m k (q ++ b) result → Prints h k (p ++ (a ++ b)) result
  Prints-after k b result last = rw (regrouped b) (Prints-then h m k first.front (q ++ b) result first.sent last)

-- the text a is gathered where nothing was pending, and what is pending is passed on
pub Prints-gathered : {T E : Type 0} {h m : Option (List ℕ)} {p q a : List ℕ} (k : Option (List ℕ)) (result : Result T E) → p ≡ [] → IsGathered h m p q a → Prints m k q result → Prints h k a result
Prints-gathered {h = h} {p = p} {a = a} k result none g last = subst (λ (v : List ℕ). Prints h k (v ++ a) result) none (Prints-passed g k result last)

-- what was pending is passed on, and then the text a goes to the sink without being pending
pub Gathers-past : {T E : Type 0} (h m k : Option (List ℕ)) (p q a : List ℕ) (result : Result T E) → q ≡ [] → Appends h m p → Prints m k a result → Gathers h k p q a result
Gathers-past h m k p q a (Ok x) none first last = record {
  front = p ++ a;
  whole = sym (append-nil (p ++ a)) ∙ ap (λ v. (p ++ a) ++ v) (sym none);
  sent = Appends-then h m k p a first last;
}
Gathers-past h m k p q a (Err e) none first last = record { prefix = AppendsPrefix-then h m k p a first last }

-- the sink failed at the text a, where nothing was pending
pub IsCut-first : {h k : Option (List ℕ)} {p a : List ℕ} → p ≡ [] → IsCut h k p a → AppendsPrefix h k a
IsCut-first {h} {k} {p} {a} none cut = subst (λ (v : List ℕ). AppendsPrefix h k (v ++ a)) none cut.prefix
