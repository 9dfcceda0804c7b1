-- Exchanges of owned words, and how they compose.
use Rattle.std.proofs.Common.{◌≡◌, ℕ, suc, ◌+◌, List, [], ◌∷◌, ◌++◌, length, refl, sym, subst, arith}
use Rattle.std.specs.List.{flat_map}
use Rattle.kernel_lists.specs.OwnedWords.Owned.{Holds, Pairs, owners, row_from}
use Rattle.kernel_lists.specs.OwnedWords.Exchange.{Exchange, Splits}
use Rattle.kernel_lists.specs.LinkedList.Chain.{last_cell}
use Rattle.kernel_lists.specs.OwnedWords.LinkedWords.{LinksAt, first_of, headed_words, linked_words}
use Rattle.kernel_lists.proofs.OwnedWords.OwnedWords.{Holds-append, Holds-left, Holds-right, owners-append}

-- ---- parts

pub splits-none : (L : Pairs) → Splits L L []
splits-none L = record { count = λ a. omega arith; opens = λ s h. (h, tt); closes = λ s h k. h }

pub splits-all : (L : Pairs) → Splits L [] L
splits-all L = record { count = λ a. omega arith; opens = λ s h. (tt, h); closes = λ s h k. k }

-- the parts of joined pairs
pub splits-both : (L rest part L' rest' part' : Pairs) → Splits L rest part → Splits L' rest' part' → Splits (L ++ L') (rest ++ rest') (part ++ part')
splits-both L rest part L' rest' part' x y =
    record {
      count = λ a. omega (arith, x.count a, y.count a, owners-append a L L', owners-append a rest rest', owners-append a part part');
      opens = λ s h.
          let l = x.opens s (Holds-left s L L' h) in
          let r = y.opens s (Holds-right s L L' h) in
          (Holds-append s rest rest' l.0 r.0, Holds-append s part part' l.1 r.1);
      closes = λ s h k.
          Holds-append s L L'
          (x.closes s (Holds-left s rest rest' h) (Holds-left s part part' k))
          (y.closes s (Holds-right s rest rest' h) (Holds-right s part part' k));
    }

-- a part of joined pairs, on the left
pub splits-left : (L K rest part : Pairs) → Splits L rest part → Splits (L ++ K) (rest ++ K) part
splits-left L K rest part x =
    record {
      count = λ a. omega (arith, x.count a, owners-append a L K, owners-append a rest K);
      opens = λ s h. (let l = x.opens s (Holds-left s L K h) in (Holds-append s rest K l.0 (Holds-right s L K h), l.1));
      closes = λ s h k. Holds-append s L K (x.closes s (Holds-left s rest K h) k) (Holds-right s rest K h);
    }

-- the same part in another order
pub splits-as : (L rest part other : Pairs) → Splits L rest part → ((a : ℕ) → owners a other ≡ owners a part) → ((s : List ℕ) → Holds s part → Holds s other)
    → ((s : List ℕ) → Holds s other → Holds s part) → Splits L rest other
splits-as L rest part other x same there back =
    record {
      count = λ a. omega (arith, x.count a, same a);
      opens = λ s h. (let l = x.opens s h in (l.0, there s l.1));
      closes = λ s h k. x.closes s h (back s k);
    }

-- one word of a row
pub splits-row : (a i w : ℕ) (xs ys : List ℕ) → Splits (row_from a i (xs ++ w ∷ ys)) (row_from a i xs ++ row_from a (suc (i + length xs)) ys) ((a + (i + length xs), w) ∷ [])
splits-row a i w [] ys =
    let here : i + 0 ≡ i = omega arith in
    subst (λ j. Splits (row_from a i (w ∷ ys)) (row_from a (suc j) ys) ((a + j, w) ∷ [])) (sym here)
    (record { count = λ b. omega arith; opens = λ s h. (h.1, (h.0, tt)); closes = λ s h k. (k.0, h) })
splits-row a i w (x ∷ xs) ys =
    let r = splits-row a (suc i) w xs ys in
    let next : suc i + length xs ≡ i + suc (length xs) = omega arith in
    subst (λ j. Splits (row_from a i (x ∷ (xs ++ w ∷ ys))) (row_from a i (x ∷ xs) ++ row_from a (suc j) ys) ((a + j, w) ∷ [])) next
    (record {
      count = λ b. omega (arith, r.count b);
      opens = λ s h. (let l = r.opens s h.1 in ((h.0, l.0), l.1));
      closes = λ s h k. (h.0, r.closes s h.1 k);
    })

-- ---- exchanges

pub exchange-none : (L : Pairs) → Exchange L L [] []
exchange-none L = record { rest = L; first = splits-none L; then' = splits-none L }

pub exchange-all : (L M : Pairs) → Exchange L M L M
exchange-all L M = record { rest = []; first = splits-all L; then' = splits-all M }

pub exchange-back : (L M old new : Pairs) → Exchange L M old new → Exchange M L new old
exchange-back L M old new x = record { rest = x.rest; first = x.then'; then' = x.first }

pub exchange-both : (L M old new L' M' old' new' : Pairs) → Exchange L M old new → Exchange L' M' old' new' → Exchange (L ++ L') (M ++ M') (old ++ old') (new ++ new')
exchange-both L M old new L' M' old' new' x y =
    record {
      rest = x.rest ++ y.rest;
      first = splits-both L x.rest old L' y.rest old' x.first y.first;
      then' = splits-both M x.rest new M' y.rest new' x.then' y.then';
    }

pub exchange-left : (L M K old new : Pairs) → Exchange L M old new → Exchange (L ++ K) (M ++ K) old new
exchange-left L M K old new x = record { rest = x.rest ++ K; first = splits-left L K x.rest old x.first; then' = splits-left M K x.rest new x.then' }

pub exchange-right : (K L M old new : Pairs) → Exchange L M old new → Exchange (K ++ L) (K ++ M) old new
exchange-right K L M old new x = exchange-both K K [] [] L M old new (exchange-none K) x

-- the new words in another order
pub exchange-as : (L M old new other : Pairs) → Exchange L M old new → ((a : ℕ) → owners a other ≡ owners a new) → ((s : List ℕ) → Holds s new → Holds s other)
    → ((s : List ℕ) → Holds s other → Holds s new) → Exchange L M old other
exchange-as L M old new other x same there back = record { rest = x.rest; first = x.first; then' = splits-as M x.rest new other x.then' same there back }

-- one word of a row
pub exchange-row : (a i w v : ℕ) (xs ys : List ℕ) → Exchange (row_from a i (xs ++ w ∷ ys)) (row_from a i (xs ++ v ∷ ys)) ((a + (i + length xs), w) ∷ []) ((a + (i + length xs), v) ∷ [])
exchange-row a i w v xs ys = record { rest = row_from a i xs ++ row_from a (suc (i + length xs)) ys; first = splits-row a i w xs ys; then' = splits-row a i v xs ys }

-- ---- linked things

-- a cell of one thing, and what it leads to
exchange-behind : (A B L M old new : Pairs) (c u v : ℕ) → Exchange A B ((c, u) ∷ []) ((c, v) ∷ []) → Exchange ((c, u) ∷ L) ((c, v) ∷ M) old new → Exchange (A ++ L) (B ++ M) old new
exchange-behind A B L M old new c u v x y =
    record { rest = x.rest ++ y.rest; first = behind A L old u x.first y.first; then' = behind B M new v x.then' y.then' }
  where
    behind : (A L part : Pairs) (w : ℕ) → Splits A x.rest ((c, w) ∷ []) → Splits ((c, w) ∷ L) y.rest part → Splits (A ++ L) (x.rest ++ y.rest) part
    behind A L part w p q =
        record {
          count = λ a. omega (arith, p.count a, q.count a, owners-append a A L, owners-append a x.rest y.rest);
          opens = λ s h.
              let l = p.opens s (Holds-left s A L h) in
              let r = q.opens s (l.1.0, Holds-right s A L h) in
              (Holds-append s x.rest y.rest l.0 r.0, r.1);
          closes = λ s h k.
              let all = q.closes s (Holds-right s x.rest y.rest h) k in
              Holds-append s A L (p.closes s (Holds-left s x.rest y.rest h) (all.0, tt)) all.1;
        }

-- a thing comes in among linked things: the link before it, and its words
pub exchange-insert : {X : Type 0} (address cell : X → ℕ) (words : X → ℕ → Pairs) → LinksAt cell words → (head : ℕ) (xs : List X) (x : X) (ys : List X) (end : ℕ)
    → Exchange (headed_words address words head (xs ++ ys) end) (headed_words address words head (xs ++ x ∷ ys) end)
    ((last_cell cell head xs, first_of address ys end) ∷ []) ((last_cell cell head xs, address x) ∷ words x (first_of address ys end))
exchange-insert address cell words links head [] x ys end =
    record {
      rest = linked_words address words ys end;
      first = record { count = λ a. omega arith; opens = λ s h. (h.1, (h.0, tt)); closes = λ s h k. (k.0, h) };
      then' =
          record {
            count = λ a. omega (arith, owners-append a (words x (first_of address ys end)) (linked_words address words ys end));
            opens = λ s h. (Holds-right s (words x (first_of address ys end)) _ h.1, (h.0, Holds-left s (words x (first_of address ys end)) _ h.1));
            closes = λ s h k. (k.0, Holds-append s (words x (first_of address ys end)) _ k.1 h);
          };
    }
exchange-insert address cell words links head (z ∷ zs) x ys end =
    exchange-right ((head, address z) ∷ []) _ _ _ _
    (exchange-behind _ _ _ _ _ _ (cell z) _ _ (links z (first_of address (zs ++ ys) end) (first_of address (zs ++ x ∷ ys) end))
    (exchange-insert address cell words links (cell z) zs x ys end))

-- a thing goes out
pub exchange-remove : {X : Type 0} (address cell : X → ℕ) (words : X → ℕ → Pairs) → LinksAt cell words → (head : ℕ) (xs : List X) (x : X) (ys : List X) (end : ℕ)
    → Exchange (headed_words address words head (xs ++ x ∷ ys) end) (headed_words address words head (xs ++ ys) end)
    ((last_cell cell head xs, address x) ∷ words x (first_of address ys end)) ((last_cell cell head xs, first_of address ys end) ∷ [])
exchange-remove address cell words links head xs x ys end = exchange-back _ _ _ _ (exchange-insert address cell words links head xs x ys end)

first_of-same : {X : Type 0} (address : X → ℕ) (xs : List X) (x y : X) (ys : List X) (end : ℕ) → address x ≡ address y → first_of address (xs ++ x ∷ ys) end ≡ first_of address (xs ++ y ∷ ys) end
first_of-same address [] x y ys end e = e
first_of-same address (z ∷ zs) x y ys end e = refl

-- words of one of the linked things
pub exchange-linked : {X : Type 0} (address : X → ℕ) (words : X → ℕ → Pairs) (xs : List X) (x y : X) (ys : List X) (end : ℕ) (old new : Pairs) → address x ≡ address y
    → Exchange (words x (first_of address ys end)) (words y (first_of address ys end)) old new
    → Exchange (linked_words address words (xs ++ x ∷ ys) end) (linked_words address words (xs ++ y ∷ ys) end) old new
exchange-linked address words [] x y ys end old new e inner = exchange-left _ _ (linked_words address words ys end) old new inner
exchange-linked address words (z ∷ zs) x y ys end old new e inner =
    subst (λ f. Exchange (words z (first_of address (zs ++ x ∷ ys) end) ++ linked_words address words (zs ++ x ∷ ys) end) (words z f ++ linked_words address words (zs ++ y ∷ ys) end) old new)
    (first_of-same address zs x y ys end e)
    (exchange-right (words z (first_of address (zs ++ x ∷ ys) end)) _ _ _ _ (exchange-linked address words zs x y ys end old new e inner))

-- a row whose first word is the link
pub links-first : {X : Type 0} (address : X → ℕ) (others : X → Pairs) → LinksAt address (λ x n. (address x, n) ∷ others x)
links-first address others x n m =
    record {
      rest = others x;
      first = record { count = λ a. omega arith; opens = λ s h. (h.1, (h.0, tt)); closes = λ s h k. (k.0, h) };
      then' = record { count = λ a. omega arith; opens = λ s h. (h.1, (h.0, tt)); closes = λ s h k. (k.0, h) };
    }
