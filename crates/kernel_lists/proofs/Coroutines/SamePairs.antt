-- Pairs that are the same but for their order.
use Rattle.std.proofs.Common.{◌≡◌, ℕ, List, [], ◌∷◌, ◌++◌, refl, sym, ap, ◌∙◌, subst, arith}
use Rattle.std.specs.List.{flat_map}
use Rattle.kernel_lists.specs.OwnedWords.Exchange.{Exchange}
use Rattle.kernel_lists.specs.OwnedWords.Owned.{Holds, Pairs, owners, written}
use Rattle.kernel_lists.proofs.OwnedWords.Exchanges.{exchange-as, exchange-back}
use Rattle.kernel_lists.proofs.OwnedWords.MemberExchanges.{Holds-two, owners-two, two-Holds}
use Rattle.kernel_lists.proofs.OwnedWords.OwnedWords.{Holds-append, Holds-left, Holds-right, owners-append}
use Rattle.kernel_lists.specs.Coroutines.CoroutineExchanges.{Rewrites, pairs_in}

pub record AreSame (A B : Pairs) : Type 0 where
  pub count : (a : ℕ) → owners a A ≡ owners a B
  pub there : (s : List ℕ) → Holds s A → Holds s B
  pub back : (s : List ℕ) → Holds s B → Holds s A

pub same-equal : (A B : Pairs) → A ≡ B → AreSame A B
same-equal A B e = subst (AreSame A) e (record { count = λ a. refl; there = λ s h. h; back = λ s h. h })

pub same-then : (A B C : Pairs) → AreSame A B → AreSame B C → AreSame A C
same-then A B C x y = record { count = λ a. x.count a ∙ y.count a; there = λ s h. y.there s (x.there s h); back = λ s h. x.back s (y.back s h) }

pub same-swap : (e f : ℕ × ℕ) → AreSame (e ∷ f ∷ []) (f ∷ e ∷ [])
same-swap e f = record { count = λ a. omega arith; there = λ s h. (h.1.0, (h.0, tt)); back = λ s h. (h.1.0, (h.0, tt)) }

pub same-values : (a b w x y z : ℕ) → w ≡ x → y ≡ z → AreSame ((a, w) ∷ (b, y) ∷ []) ((a, x) ∷ (b, z) ∷ [])
same-values a b w x y z e f =
    subst (λ u. AreSame ((a, w) ∷ (b, y) ∷ []) ((a, u) ∷ (b, z) ∷ [])) e
    (subst (λ u. AreSame ((a, w) ∷ (b, y) ∷ []) ((a, w) ∷ (b, u) ∷ [])) f (same-equal ((a, w) ∷ (b, y) ∷ []) ((a, w) ∷ (b, y) ∷ []) refl))

-- two kinds of pieces
pub same-pieces : {X : Type 0} (f g : X → Pairs) (xs : List X) (A B : Pairs) → flat_map f xs ≡ A → flat_map g xs ≡ B → AreSame (flat_map (λ x. f x ++ g x) xs) (A ++ B)
same-pieces f g xs A B a b =
    subst (λ Z. AreSame (flat_map (λ x. f x ++ g x) xs) (Z ++ B)) a
    (subst (λ Z. AreSame (flat_map (λ x. f x ++ g x) xs) (flat_map f xs ++ Z)) b
    (record {
      count = λ n. omega (arith, owners-two f g xs n, owners-append n (flat_map f xs) (flat_map g xs));
      there = λ s h. (let two = Holds-two f g xs s h in Holds-append s (flat_map f xs) (flat_map g xs) two.0 two.1);
      back = λ s h. two-Holds f g xs s (Holds-left s (flat_map f xs) (flat_map g xs) h) (Holds-right s (flat_map f xs) (flat_map g xs) h);
    }))

-- a pair, some others, and two kinds of pieces, of which the second comes first
pub same-gathered : {X : Type 0} (e : ℕ × ℕ) (R : Pairs) (f g : X → Pairs) (xs : List X) (A B : Pairs) → AreSame (R ++ flat_map f xs) A → AreSame (flat_map g xs) B
    → AreSame (e ∷ (R ++ flat_map (λ x. f x ++ g x) xs)) (B ++ e ∷ A)
same-gathered e R f g xs A B a b =
    record {
      count = λ n.
          omega (
            arith,
            a.count n,
            b.count n,
            owners-two f g xs n,
            owners-append n R (flat_map (λ x. f x ++ g x) xs),
            owners-append n R (flat_map f xs),
            owners-append n B (e ∷ A),
          );
      there = λ s h.
          let two = Holds-two f g xs s (Holds-right s R (flat_map (λ x. f x ++ g x) xs) h.1) in
          Holds-append s B (e ∷ A) (b.there s two.1) (h.0, a.there s (Holds-append s R (flat_map f xs) (Holds-left s R (flat_map (λ x. f x ++ g x) xs) h.1) two.0));
      back = λ s h.
          let all = Holds-right s B (e ∷ A) h in
          let own = a.back s all.1 in
          (all.0, Holds-append s R (flat_map (λ x. f x ++ g x) xs) (Holds-left s R (flat_map f xs) own) (two-Holds f g xs s (Holds-right s R (flat_map f xs) own) (b.back s (Holds-left s B (e ∷ A) h))));
    }

pub exchange-same : (L M A B C D : Pairs) → Exchange L M A B → AreSame A C → AreSame B D → Exchange L M C D
exchange-same L M A B C D x a b =
    exchange-back M L D C (exchange-as M L D A C (exchange-back L M A D (exchange-as L M A B D x (λ n. sym (b.count n)) b.there b.back)) (λ n. sym (a.count n)) a.there a.back)

-- words that are in a store
pairs_in-held : (s : List ℕ) (A : Pairs) → Holds s A → pairs_in s A ≡ A
pairs_in-held s [] h = refl
pairs_in-held s (e ∷ es) h = ap (λ w. (e.0, w) ∷ pairs_in s es) h.0 ∙ ap (λ z. (e.0, e.1) ∷ z) (pairs_in-held s es h.1)

pub rewrites : (s v : List ℕ) (before after old new : Pairs) → Holds s before → Exchange before after old new → pairs_in s new ≡ pairs_in s old → v ≡ written new s → Rewrites s v before after new
rewrites s v before after old new h x same words =
    record {
      exchange = subst (λ z. Exchange before after z new) (sym (same ∙ pairs_in-held s old (x.first.opens s h).1)) x;
      writes = words;
    }
