-- An exchange in a part is one of the whole.
use Rattle.std.proofs.Common.{◌≡◌, ℕ, List, [], ◌∷◌, ◌++◌, refl, sym, subst, arith}
use Rattle.std.specs.List.{flat_map}
use Rattle.kernel_lists.specs.OwnedWords.Owned.{Pairs}
use Rattle.kernel_lists.specs.OwnedWords.Exchange.{Exchange, Splits}
use Rattle.kernel_lists.specs.OwnedWords.LinkedWords.{first_of, linked_words}
use Rattle.kernel_lists.proofs.OwnedWords.OwnedWords.{Holds-append, Holds-left, Holds-right, owners-append}

-- the part of a part
pub splits-within : (L rest part rest' part' : Pairs) → Splits L rest part → Splits part rest' part' → Splits L (rest ++ rest') part'
splits-within L rest part rest' part' x y =
    record {
      count = λ a. omega (arith, x.count a, y.count a, owners-append a rest rest');
      opens = λ s h.
          let l = x.opens s h in
          let r = y.opens s l.1 in
          (Holds-append s rest rest' l.0 r.0, r.1);
      closes = λ s h k. x.closes s (Holds-left s rest rest' h) (y.closes s (Holds-right s rest rest' h) k);
    }

-- an exchange in a part, where the rest is the same
pub exchange-within : (L M R A B old new : Pairs) → Splits L R A → Splits M R B → Exchange A B old new → Exchange L M old new
exchange-within L M R A B old new x y e =
    record { rest = R ++ e.rest; first = splits-within L R A e.rest old x e.first; then' = splits-within M R B e.rest new y e.then' }

-- the first of joined pairs
splits-first : (A L : Pairs) → Splits (A ++ L) L A
splits-first A L =
    record {
      count = λ a. omega (arith, owners-append a A L);
      opens = λ s h. (Holds-right s A L h, Holds-left s A L h);
      closes = λ s h k. Holds-append s A L k h;
    }

-- a part behind the first of joined pairs
splits-behind : (A L F B part : Pairs) → Splits L (F ++ B) part → Splits (A ++ L) ((A ++ F) ++ B) part
splits-behind A L F B part x =
    record {
      count = λ a. omega (arith, x.count a, owners-append a A L, owners-append a (A ++ F) B, owners-append a A F, owners-append a F B);
      opens = λ s h.
          let l = x.opens s (Holds-right s A L h) in
          (Holds-append s (A ++ F) B (Holds-append s A F (Holds-left s A L h) (Holds-left s F B l.0)) (Holds-right s F B l.0), l.1);
      closes = λ s h k.
          let f = Holds-left s (A ++ F) B h in
          Holds-append s A L (Holds-left s A F f) (x.closes s (Holds-append s F B (Holds-right s A F f) (Holds-right s (A ++ F) B h)) k);
    }
