-- The sectors of a disc, as chains of slots and the free chain.
use Rattle.std.proofs.Common.{◌≡◌, ◌≢◌, ℕ, zero, suc, ◌+◌, ◌-◌, ◌<◌, ◌≤◌, List, [], ◌∷◌, ◌++◌, length, get_or, set, replicate, cond, eqb, Bool, false, refl, sym, ap, ◌∙◌, subst, arith, inl, inr}
use Rattle.std.specs.List.{All, range_with_len, sum_by}
use Rattle.std.proofs.lemmas.Bool.{cases_eq, ne_eqb}
use Rattle.std.proofs.lemmas.List.{get_or_default, get_or_push, get_or-map, get_or-set_other, get_or-set_same, length-append, length-map, length-replicate, length-set}
use Rattle.std.proofs.lemmas.List.Elements.{All-replicate}
use Rattle.std.proofs.lemmas.List.Sums.{get_or-le-sum_by, sum_by-cons, sum_by-set}
use Rattle.word_store.specs.Count.{hit, times}
use Rattle.word_store.proofs.Counts.{hit-same, range-apart, range-high, times-append}
use Rattle.ram_disc.specs.Chain.{AreApart, AreChained, EndsAtLast, chain_from, chain_of, chains_of, no_sector, sector_before, times_in, with_last}
use Rattle.ram_disc.specs.Disc.{most_files, most_sectors}
use Rattle.ram_disc.specs.declared.sectors.Chain.{Chain}
use Rattle.ram_disc.proofs.ChainLemmas.{chain-join, chain-next, chain-range, chain-set-other, length-chain, times-get_or}

-- the counts in two lists of several
pub two-counts : (s i j : ℕ) (xs : List (List ℕ)) → i ≢ j → i < length xs → j < length xs
    → times s (get_or xs i []) + times s (get_or xs j []) ≤ times_in s xs
two-counts s i j xs ne h k =
    let other : get_or (set xs i []) j [] ≡ get_or xs j [] = get_or-set_other xs i j [] [] (λ e. ne (sym e)) in
    omega (arith, sum_by-set (times s) xs i [] [] h, get_or-le-sum_by (times s) (set xs i []) j [] (omega (arith, length-set xs i [])), ap (times s) other)

pub one-count : (s i : ℕ) (xs : List (List ℕ)) → i < length xs → times s (get_or xs i []) ≤ times_in s xs
one-count s i xs h = get_or-le-sum_by (times s) xs i [] h

-- the chain of a slot
pub get_or-chains : (links : List ℕ) (cs : List Chain) (i : ℕ) (d : Chain) → i < length cs
    → get_or (chains_of links cs) i [] ≡ chain_of links (get_or cs i d)
get_or-chains links cs i d h = get_or-map (chain_of links) cs i d [] h

pub length-chains : (links : List ℕ) (cs : List Chain) → length (chains_of links cs) ≡ length cs
length-chains links cs = length-map cs (chain_of links)

-- the first sector of a slot's chain, and the one after another
pub slot-first : (links : List ℕ) (cs : List Chain) (slot : ℕ) → slot < length cs → 0 < length (get_or (chains_of links cs) slot [])
    → get_or (get_or (chains_of links cs) slot []) 0 0 ≡ (get_or cs slot no_sector).first
unfolding chain_from
slot-first links cs slot h some =
    let c = get_or cs slot no_sector in
    ap (λ xs. get_or xs 0 0) (get_or-chains links cs slot no_sector h)
    ∙ on c.first c.length (omega (arith, some, ap length (get_or-chains links cs slot no_sector h), length-chain links c.first c.length))
  where
    on : (first n : ℕ) → 0 < n → get_or (chain_from links first n) 0 0 ≡ first
    on first zero lt = absurd (omega arith)
    on first (suc n) lt = refl

pub slot-next : (links : List ℕ) (cs : List Chain) (slot k : ℕ) → slot < length cs → k + 1 < length (get_or (chains_of links cs) slot [])
    → get_or (get_or (chains_of links cs) slot []) (k + 1) 0 ≡ get_or links (get_or (get_or (chains_of links cs) slot []) k 0) 0
slot-next links cs slot k h within =
    let c = get_or cs slot no_sector in
    let e = get_or-chains links cs slot no_sector h in
    let more : k + 1 ≡ suc k = omega arith in
    ap (λ xs. get_or xs (k + 1) 0) e ∙ ap (λ i. get_or (chain_of links c) i 0) more
    ∙ chain-next links c.first c.length k (omega (arith, within, ap length e, length-chain links c.first c.length))
    ∙ ap (λ xs. get_or links (get_or xs k 0) 0) (sym e)

-- the chains are as before, where each is
pub chains-same : (links other : List ℕ) (cs : List Chain) (d : Chain)
    → ((k : ℕ) → k < length cs → chain_of other (get_or cs k d) ≡ chain_of links (get_or cs k d))
    → chains_of other cs ≡ chains_of links cs
chains-same links other [] d each = refl
chains-same links other (c ∷ cs) d each =
    ap (λ x. x ∷ chains_of other cs) (each zero (omega arith))
    ∙ ap (λ xs. chain_of links c ∷ xs) (chains-same links other cs d (λ k h. each (suc k) (omega arith)))

-- one slot's chain is another, and those of the other slots are as before
pub chains-set : (links other : List ℕ) (cs : List Chain) (slot : ℕ) (c d : Chain) (x : List ℕ) → slot < length cs → chain_of other c ≡ x
    → ((k : ℕ) → k < length cs → k ≢ slot → chain_of other (get_or cs k d) ≡ chain_of links (get_or cs k d))
    → chains_of other (set cs slot c) ≡ set (chains_of links cs) slot x
chains-set links other [] slot c d x h e each = absurd (omega arith)
chains-set links other (b ∷ cs) zero c d x h e each =
    ap (λ y. y ∷ chains_of other cs) e
    ∙ ap (λ xs. x ∷ xs) (chains-same links other cs d (λ k h. each (suc k) (omega arith) (λ e. absurd (omega arith))))
chains-set links other (b ∷ cs) (suc slot) c d x h e each =
    ap (λ y. y ∷ chains_of other (set cs slot c)) (each zero (omega arith) (λ e. absurd (omega arith)))
    ∙ ap (λ xs. chain_of links b ∷ xs) (chains-set links other cs slot c d x (omega arith) e (λ k h ne. each (suc k) (omega arith) (λ e. ne (omega arith))))

-- a sector of the slot's chain, or a free one, is in no other slot's chain
pub not-elsewhere : (s slot k : ℕ) (xs : List (List ℕ)) (free : List ℕ) → times_in s xs + times s free ≤ 1 → slot < length xs → k < length xs
    → k ≢ slot → 0 < times s (get_or xs slot []) + times s free → times s (get_or xs k []) ≡ 0
not-elsewhere s slot k xs free once h j ne some = omega (arith, two-counts s k slot xs ne j h, one-count s k xs j)

-- what is in the chain of a slot is below the number of sectors
pub chained-below : (links : List ℕ) (cs : List Chain) (free left slot k : ℕ) → AreChained links cs free left → slot < length cs
    → k < length (get_or (chains_of links cs) slot []) → get_or (get_or (chains_of links cs) slot []) k 0 < most_sectors
chained-below links cs free left slot k h lt within =
    let x = get_or (chains_of links cs) slot [] in
    let some : 0 < times (get_or x k 0) x = times-get_or x k within in
    h.below (get_or x k 0) (omega (arith, some, one-count (get_or x k 0) slot (chains_of links cs) (omega (arith, length-chains links cs))))

pub free-below : (links : List ℕ) (cs : List Chain) (free left : ℕ) → AreChained links cs free left → 0 < left → free < most_sectors
unfolding chain_from
free-below links cs free zero h some = absurd (omega arith)
free-below links cs free (suc left) h some = h.below free (omega (arith, hit-same free free refl))

-- the chains of slots are apart
pub apart-chained : (links : List ℕ) (cs : List Chain) (free left : ℕ) → AreChained links cs free left
    → AreApart (record { chains = chains_of links cs; left = left })
apart-chained links cs free left h = record {
  once = λ s. omega (arith, h.once s);
  below = λ s some. h.below s (omega arith);
  all = h.all;
  slots = length-chains links cs ∙ h.slots;
}

-- the chain with these fields
abbrev pub chain : ℕ → ℕ → ℕ → Chain
chain first last n = record { first = first; last = last; length = n }

some-sector : (k : ℕ) → eqb (suc k) 0 ≡ false
some-sector k = ne_eqb (suc k) 0 (λ e. absurd (omega arith))

-- the sector that a chain goes on from is in it, or is the first free one
pub before-held : (links : List ℕ) (first last n free : ℕ) → EndsAtLast links (chain first last n)
    → 0 < times (sector_before (chain first last n) free) (chain_from links first n) + hit (sector_before (chain first last n) free) free
before-held links first last zero free ends = omega (arith, hit-same free free refl)
before-held links first last (suc k) free ends =
    let xs = chain_from links first (suc k) in
    let at : suc k - 1 ≡ k = omega arith in
    let e : get_or xs k 0 ≡ last = subst (λ z. get_or xs z 0 ≡ last) at (ends (omega arith)) in
    let before : last ≡ sector_before (chain first last (suc k)) free = ap (λ b. cond b free last) (sym (some-sector k)) in
    omega (arith, subst (λ z. 0 < times z xs) (e ∙ before) (times-get_or xs k (omega (arith, length-chain links first (suc k)))))

-- the chain goes on to the first free sector
pub longer-chain : (links : List ℕ) (first last n free : ℕ) → EndsAtLast links (chain first last n)
    → ((a : ℕ) → times a (chain_from links first n) ≤ 1) → ((k : ℕ) → k < n → get_or (chain_from links first n) k 0 < length links)
    → chain_of (set links (sector_before (chain first last n) free) free) (with_last (chain first last n) free) ≡ chain_from links first n ++ free ∷ []
unfolding chain_from
longer-chain links first last zero free ends once inside = refl
longer-chain links first last (suc k) free ends once inside =
    let xs = chain_from links first (suc k) in
    let at : suc k - 1 ≡ k = omega arith in
    let e : get_or xs k 0 ≡ last = subst (λ z. get_or xs z 0 ≡ last) at (ends (omega arith)) in
    let P : ℕ → Type 0 = λ z. chain_from (set links z free) first (suc k + 1) ≡ xs ++ free ∷ [] in
    let Q : Bool → Type 0 = λ b. chain_from (set links (cond b free last) free) (cond b free first) (suc k + 1) ≡ xs ++ free ∷ [] in
    subst Q (sym (some-sector k)) (subst P e (chain-join links first k 1 free once (inside k (omega arith))))

module _ (links : List ℕ) (cs : List Chain) (free m slot first last n : ℕ) (d : Chain) where
  abbrev Before : ℕ
  Before = sector_before (chain first last n) free

  abbrev Links : List ℕ
  Links = set links Before free

  -- what a slot has, whose chain has these fields
  pub record Grows : Type 0 where
    pub are : AreChained links cs free (suc m)
    pub inside : slot < length cs
    pub is : get_or cs slot d ≡ chain first last n

  pub chain-at : Grows → get_or (chains_of links cs) slot [] ≡ chain_from links first n
  chain-at g = get_or-chains links cs slot d g.inside ∙ ap (chain_of links) g.is

  pub ends-at : Grows → EndsAtLast links (chain first last n)
  ends-at g = subst (EndsAtLast links) g.is (g.are.ends slot d g.inside)

  pub slot-once : Grows → (a : ℕ) → times a (chain_from links first n) ≤ 1
  slot-once g a =
      omega (arith, g.are.once a, one-count a slot (chains_of links cs) (omega (arith, g.inside, length-chains links cs)), ap (times a) (chain-at g))

  pub slot-inside : Grows → (k : ℕ) → k < n → get_or (chain_from links first n) k 0 < length links
  slot-inside g k h =
      let e = chain-at g in
      let below = chained-below links cs free (suc m) slot k g.are g.inside (omega (arith, ap length e, length-chain links first n)) in
      omega (arith, g.are.size, below, ap (λ xs. get_or xs k 0) e)

  pub before-some : Grows → 0 < times Before (get_or (chains_of links cs) slot []) + hit Before free
  before-some g = omega (arith, before-held links first last n free (ends-at g), ap (times Before) (chain-at g))

  pub others-stay : Grows → (k : ℕ) → k < length cs → k ≢ slot → chain_of Links (get_or cs k d) ≡ chain_of links (get_or cs k d)
  unfolding chain_from
  others-stay g k h ne =
      let lc = length-chains links cs in
      let none = not-elsewhere Before slot k (chains_of links cs) (chain_from links free (suc m)) (g.are.once Before)
      (omega (arith, g.inside)) (omega arith) ne (omega (arith, before-some g)) in
      let e = get_or-chains links cs k d h in
      chain-set-other links (get_or cs k d).first (get_or cs k d).length Before free (omega (arith, none, ap (times Before) e))

  pub free-rest : Grows → chain_from Links (get_or links free 0) m ≡ chain_from links (get_or links free 0) m
  unfolding chain_from
  free-rest g =
      chain-set-other links (get_or links free 0) m Before free
      (omega (arith, g.are.once Before, before-some g, one-count Before slot (chains_of links cs) (omega (arith, g.inside, length-chains links cs))))

  -- the chains, with the first free sector behind the last one of the slot's
  pub chains-grow : Grows
      → chains_of Links (set cs slot (with_last (chain first last n) free)) ≡ set (chains_of links cs) slot (get_or (chains_of links cs) slot [] ++ free ∷ [])
  chains-grow g =
      chains-set links Links cs slot (with_last (chain first last n) free) d (get_or (chains_of links cs) slot [] ++ free ∷ []) g.inside
      (longer-chain links first last n free (ends-at g) (slot-once g) (slot-inside g) ∙ ap (λ xs. xs ++ free ∷ []) (sym (chain-at g)))
      (others-stay g)

  -- how often a sector is in the chains then
  pub counts-grow : Grows → (s : ℕ)
      → times_in s (chains_of Links (set cs slot (with_last (chain first last n) free))) ≡ times_in s (chains_of links cs) + hit s free
  counts-grow g s =
      let x = get_or (chains_of links cs) slot [] in
      omega (
        arith,
        ap (times_in s) (chains-grow g),
        sum_by-set (times s) (chains_of links cs) slot (x ++ free ∷ []) [] (omega (arith, g.inside, length-chains links cs)),
        times-append s x (free ∷ []),
      )

  pub lengths-grow : Grows
      → sum_by length (chains_of Links (set cs slot (with_last (chain first last n) free))) ≡ sum_by length (chains_of links cs) + 1
  lengths-grow g =
      let x = get_or (chains_of links cs) slot [] in
      omega (
        arith,
        ap (sum_by length) (chains-grow g),
        sum_by-set length (chains_of links cs) slot (x ++ free ∷ []) [] (omega (arith, g.inside, length-chains links cs)),
        length-append x (free ∷ []),
      )

  end-grow : Grows → EndsAtLast Links (with_last (chain first last n) free)
  end-grow g some =
      let xs = chain_from links first n in
      let at : n + 1 - 1 ≡ n = omega arith in
      let e = longer-chain links first last n free (ends-at g) (slot-once g) (slot-inside g) in
      ap (λ k. get_or (chain_of Links (with_last (chain first last n) free)) k 0) at
      ∙ ap (λ ys. get_or ys n 0) e ∙ get_or_push xs free 0 n (length-chain links first n)

  ends-grow : Grows → All (EndsAtLast Links) (set cs slot (with_last (chain first last n) free))
  ends-grow g k e h =
      let lt : k < length cs = omega (arith, h, length-set cs slot (with_last (chain first last n) free)) in
      elim (cases_eq k slot) [
        | inl same ↦ (
            let P : Chain → Type 0 = EndsAtLast Links in
            let here : get_or (set cs slot (with_last (chain first last n) free)) k e ≡ with_last (chain first last n) free =
            ap (λ i. get_or (set cs slot (with_last (chain first last n) free)) i e) same ∙ get_or-set_same cs slot _ e g.inside in
            subst P (sym here) (end-grow g)
            )
        | inr ne ↦ (
            let P : Chain → Type 0 = EndsAtLast Links in
            let there : get_or (set cs slot (with_last (chain first last n) free)) k e ≡ get_or cs k d =
            get_or-set_other cs slot k _ e ne ∙ get_or_default cs k e d lt in
            subst P (sym there) (λ some.
            ap (λ xs. get_or xs ((get_or cs k d).length - 1) 0) (others-stay g k lt ne) ∙ g.are.ends k d lt some)
            )
      ]

  pub chained-grow : Grows → AreChained Links (set cs slot (with_last (chain first last n) free)) (get_or links free 0) m
  unfolding chain_from
  chained-grow g = record {
    size = length-set links Before free ∙ g.are.size;
    once = λ s. omega (arith, g.are.once s, counts-grow g s, ap (times s) (free-rest g));
    below = λ s some. g.are.below s (omega (arith, some, counts-grow g s, ap (times s) (free-rest g)));
    ends = ends-grow g;
    all = omega (arith, g.are.all, lengths-grow g);
    slots = length-set cs slot (with_last (chain first last n) free) ∙ g.are.slots;
  }

  pub fresh-grow : Grows → times_in free (chains_of links cs) ≡ 0
  unfolding chain_from
  fresh-grow g = omega (arith, g.are.once free, hit-same free free refl)

-- a slot's chain, where a sector is left for it
pub grows-slot : (links : List ℕ) (cs : List Chain) (free left slot : ℕ) → AreChained links cs free left → slot < most_files → 0 < left
    → Grows links cs free (left - 1) slot (get_or cs slot no_sector).first (get_or cs slot no_sector).last (get_or cs slot no_sector).length no_sector
grows-slot links cs free left slot h inside some = record {
  are = let e : left ≡ suc (left - 1) = omega arith in subst (AreChained links cs free) e h;
  inside = omega (arith, h.slots);
  is = refl;
}

-- no chain is longer than the disc has sectors
pub length-below : (links : List ℕ) (cs : List Chain) (free left slot : ℕ) → AreChained links cs free left → slot < most_files
    → (get_or cs slot no_sector).length + left ≤ most_sectors
length-below links cs free left slot h inside =
    let lt : slot < length cs = omega (arith, h.slots) in
    let c = get_or cs slot no_sector in
    omega (
      arith,
      h.all,
      get_or-le-sum_by length (chains_of links cs) slot [] (omega (arith, lt, length-chains links cs)),
      ap length (get_or-chains links cs slot no_sector lt),
      length-chain links c.first c.length,
    )

-- what a sector of a slot's chain is before another
pub before-below : (links : List ℕ) (cs : List Chain) (free left slot : ℕ) → AreChained links cs free left → slot < most_files → 0 < left
    → sector_before (get_or cs slot no_sector) free < most_sectors
before-below links cs free left slot h inside some =
    let lt : slot < length cs = omega (arith, h.slots) in
    let c = get_or cs slot no_sector in
    on c.first c.last c.length (get_or-chains links cs slot no_sector lt) (h.ends slot no_sector lt)
  where
    on : (first last n : ℕ) → get_or (chains_of links cs) slot [] ≡ chain_from links first n → EndsAtLast links (chain first last n)
        → sector_before (chain first last n) free < most_sectors
    on first last zero e ends = free-below links cs free left h some
    on first last (suc k) e ends =
        let xs = chain_from links first (suc k) in
        let lt : slot < length cs = omega (arith, h.slots) in
        let at : suc k - 1 ≡ k = omega arith in
        let f : get_or xs k 0 ≡ last = subst (λ z. get_or xs z 0 ≡ last) at (ends (omega arith)) in
        let before : last ≡ sector_before (chain first last (suc k)) free = ap (λ b. cond b free last) (sym (some-sector k)) in
        let below = chained-below links cs free left slot k h lt (omega (arith, ap length e, length-chain links first (suc k))) in
        omega (arith, below, ap (λ ys. get_or ys k 0) e, f, before)

-- the chain of a slot is given back
module _ (links : List ℕ) (cs : List Chain) (free left slot first last n : ℕ) (d : Chain) where
  abbrev Joined : List ℕ
  Joined = set links last free

  pub record Gives : Type 0 where
    pub are : AreChained links cs free left
    pub inside : slot < length cs
    pub is : get_or cs slot d ≡ chain first last (suc n)

  pub chain-given : Gives → get_or (chains_of links cs) slot [] ≡ chain_from links first (suc n)
  chain-given g = get_or-chains links cs slot d g.inside ∙ ap (chain_of links) g.is

  pub last-given : Gives → get_or (chain_from links first (suc n)) n 0 ≡ last
  last-given g =
      let xs = chain_from links first (suc n) in
      let at : suc n - 1 ≡ n = omega arith in
      let ends = subst (EndsAtLast links) g.is (g.are.ends slot d g.inside) in
      subst (λ z. get_or xs z 0 ≡ last) at (ends (omega arith))

  pub last-counted : Gives → 0 < times last (chain_from links first (suc n))
  last-counted g =
      let xs = chain_from links first (suc n) in
      subst (λ z. 0 < times z xs) (last-given g) (times-get_or xs n (omega (arith, length-chain links first (suc n))))

  pub given-once : Gives → (a : ℕ) → times a (chain_from links first (suc n)) ≤ 1
  given-once g a =
      omega (arith, g.are.once a, one-count a slot (chains_of links cs) (omega (arith, g.inside, length-chains links cs)), ap (times a) (chain-given g))

  pub last-below : Gives → last < length links
  last-below g =
      let xs = chain_from links first (suc n) in
      let e = chain-given g in
      let below = chained-below links cs free left slot n g.are g.inside (omega (arith, ap length e, length-chain links first (suc n))) in
      omega (arith, g.are.size, below, ap (λ ys. get_or ys n 0) e, last-given g)

  -- the free chain begins with it then
  pub free-join : Gives → chain_from Joined first (suc n + left) ≡ chain_from links first (suc n) ++ chain_from links free left
  free-join g =
      let xs = chain_from links first (suc n) in
      let e = last-given g in
      let lt : get_or xs n 0 < length links = omega (arith, last-below g, e) in
      let P : ℕ → Type 0 = λ z. chain_from (set links z free) first (suc n + left) ≡ xs ++ chain_from (set links z free) free left in
      let joined : chain_from Joined first (suc n + left) ≡ xs ++ chain_from Joined free left = subst P e (chain-join links first n left free (given-once g) lt) in
      let none : times last (chain_from links free left) ≡ 0 =
      omega (
        arith,
        g.are.once last,
        last-counted g,
        ap (times last) (chain-given g),
        one-count last slot (chains_of links cs) (omega (arith, g.inside, length-chains links cs)),
      ) in
      joined ∙ ap (λ ys. xs ++ ys) (chain-set-other links free left last free none)

  pub stay-given : Gives → (k : ℕ) → k < length cs → k ≢ slot → chain_of Joined (get_or cs k d) ≡ chain_of links (get_or cs k d)
  stay-given g k h ne =
      let lc = length-chains links cs in
      let none = not-elsewhere last slot k (chains_of links cs) (chain_from links free left) (g.are.once last)
      (omega (arith, g.inside)) (omega arith) ne (omega (arith, last-counted g, ap (times last) (chain-given g))) in
      let e = get_or-chains links cs k d h in
      chain-set-other links (get_or cs k d).first (get_or cs k d).length last free (omega (arith, none, ap (times last) e))

  -- the chains, with none for the slot
  pub chains-give : Gives → chains_of Joined (set cs slot no_sector) ≡ set (chains_of links cs) slot []
  unfolding chain_from
  chains-give g = chains-set links Joined cs slot no_sector d [] g.inside refl (stay-given g)

  counts-give : Gives → (s : ℕ)
      → times_in s (chains_of Joined (set cs slot no_sector)) + times s (chain_from links first (suc n)) ≡ times_in s (chains_of links cs)
  counts-give g s =
      omega (
        arith,
        ap (times_in s) (chains-give g),
        sum_by-set (times s) (chains_of links cs) slot [] [] (omega (arith, g.inside, length-chains links cs)),
        ap (times s) (chain-given g),
      )

  lengths-give : Gives → sum_by length (chains_of Joined (set cs slot no_sector)) + suc n ≡ sum_by length (chains_of links cs)
  lengths-give g =
      omega (
        arith,
        ap (sum_by length) (chains-give g),
        sum_by-set length (chains_of links cs) slot [] [] (omega (arith, g.inside, length-chains links cs)),
        ap length (chain-given g),
        length-chain links first (suc n),
      )

  ends-give : Gives → All (EndsAtLast Joined) (set cs slot no_sector)
  ends-give g k e h =
      let lt : k < length cs = omega (arith, h, length-set cs slot no_sector) in
      elim (cases_eq k slot) [
        | inl same ↦ (
            let P : Chain → Type 0 = EndsAtLast Joined in
            let here : get_or (set cs slot no_sector) k e ≡ no_sector =
            ap (λ i. get_or (set cs slot no_sector) i e) same ∙ get_or-set_same cs slot _ e g.inside in
            subst P (sym here) (λ some. absurd (omega (arith, some)))
            )
        | inr ne ↦ (
            let P : Chain → Type 0 = EndsAtLast Joined in
            let there : get_or (set cs slot no_sector) k e ≡ get_or cs k d =
            get_or-set_other cs slot k _ e ne ∙ get_or_default cs k e d lt in
            subst P (sym there) (λ some.
            ap (λ xs. get_or xs ((get_or cs k d).length - 1) 0) (stay-given g k lt ne) ∙ g.are.ends k d lt some)
            )
      ]

  pub chained-give : Gives → AreChained Joined (set cs slot no_sector) first (left + suc n)
  chained-give g =
      let e : left + suc n ≡ suc n + left = omega arith in
      let free' : (s : ℕ) → times s (chain_from Joined first (left + suc n)) ≡ times s (chain_from links first (suc n)) + times s (chain_from links free left) =
      λ s. ap (λ z. times s (chain_from Joined first z)) e ∙ ap (times s) (free-join g) ∙ times-append s (chain_from links first (suc n)) (chain_from links free left) in
      record {
        size = length-set links last free ∙ g.are.size;
        once = λ s. omega (arith, g.are.once s, counts-give g s, free' s);
        below = λ s some. g.are.below s (omega (arith, some, counts-give g s, free' s));
        ends = ends-give g;
        all = omega (arith, g.are.all, lengths-give g);
        slots = length-set cs slot no_sector ∙ g.are.slots;
      }

-- a slot's chain, where it has a sector
pub gives-slot : (links : List ℕ) (cs : List Chain) (free left slot : ℕ) → AreChained links cs free left → slot < most_files
    → 0 < (get_or cs slot no_sector).length
    → Gives links cs free left slot (get_or cs slot no_sector).first (get_or cs slot no_sector).last ((get_or cs slot no_sector).length - 1) no_sector
gives-slot links cs free left slot h inside some = record {
  are = h;
  inside = omega (arith, h.slots);
  is =
      let c = get_or cs slot no_sector in
      let e : c.length ≡ suc (c.length - 1) = omega arith in
      ap (chain c.first c.last) e;
}

-- chains of no sector
pub none-chained : (links : List ℕ) (k : ℕ) → chains_of links (replicate k no_sector) ≡ replicate k []
unfolding chain_from
none-chained links zero = refl
none-chained links (suc k) = ap (λ xs. [] ∷ xs) (none-chained links k)

sum-none : (f : List ℕ → ℕ) (k : ℕ) → f [] ≡ 0 → sum_by f (replicate k []) ≡ 0
sum-none f zero e = refl
sum-none f (suc k) e = omega (arith, sum_by-cons f [] (replicate k []), sum-none f k e, e)

ends-none : (links : List ℕ) (k : ℕ) → All (EndsAtLast links) (replicate k no_sector)
ends-none links k = All-replicate (EndsAtLast links) k no_sector (λ some. absurd (omega (arith, some)))

-- where each link names the next sector, all may be free
pub chained-new : (links : List ℕ) (k n : ℕ) → k ≡ most_files → n ≡ most_sectors → length links ≡ n → ((i : ℕ) → i < n → get_or links i 0 ≡ i + 1)
    → AreChained links (replicate k no_sector) 0 n
chained-new links k n f e size each =
    let none : (s : ℕ) → times_in s (chains_of links (replicate k no_sector)) ≡ 0 =
    λ s. ap (times_in s) (none-chained links k) ∙ sum-none (times s) k refl in
    let all : chain_from links 0 n ≡ range_with_len 0 n = chain-range links 0 n (λ i h. each i (omega arith)) in
    record {
      size = size ∙ e;
      once = λ s. omega (arith, none s, ap (times s) all, range-apart 0 n s);
      below = λ s some. omega (arith, e, range-high s 0 n (omega (arith, some, none s, ap (times s) all)));
      ends = ends-none links k;
      all = omega (arith, e, ap (sum_by length) (none-chained links k), sum-none length k refl);
      slots = length-replicate k no_sector ∙ f;
    }
