-- A text that is printed part by part.
use Rattle.std.proofs.Common.{◌≡◌, ◌∙◌, ℕ, List, [], ◌++◌, Option, refl, sym, ap, subst, append_assoc, append-nil}
use Rattle.byte_streams.specs.Pending.{IsCut, IsGathered}
use Rattle.byte_streams.proofs.GatheredTexts.{IsCut-more, IsCut-then, IsGathered-nothing, IsGathered-then}

-- Some of a text is gathered, and the rest follows: the sink h with p pending has become k with q.
pub record HasPrinted (h k : Option (List ℕ)) (p q whole rest : List ℕ) : Type 0 where
  -- the bytes so far
  pub bytes : List ℕ
  -- they and the rest are the whole
  pub same : whole ≡ bytes ++ rest
  -- they are gathered
  pub gathered : IsGathered h k p q bytes

module _ {h k : Option (List ℕ)} {p q whole rest : List ℕ} (d : HasPrinted h k p q whole rest) where
  -- the next part, and what follows it
  module _ (part more : List ℕ) (e : rest ≡ part ++ more) where
    joined : whole ≡ d.bytes ++ (part ++ more)
    joined = d.same ∙ ap (λ v. d.bytes ++ v) e

    pub printed-next : {m : Option (List ℕ)} {r : List ℕ} → IsGathered k m q r part → HasPrinted h m p r whole more
    printed-next g = record {
      bytes = d.bytes ++ part;
      same = joined ∙ sym (append_assoc d.bytes part more);
      gathered = IsGathered-then d.gathered g;
    }

    -- the sink failed at it
    pub printed-cut : {m : Option (List ℕ)} → IsCut k m q part → IsCut h m p whole
    printed-cut {m} cut = subst (IsCut h m p) (sym joined) (IsCut-then d.gathered (IsCut-more more cut))

  -- all is printed
  pub printed-all : rest ≡ [] → IsGathered h k p q whole
  printed-all e = subst (IsGathered h k p q) (sym (d.same ∙ ap (λ v. d.bytes ++ v) e ∙ append-nil d.bytes)) d.gathered
