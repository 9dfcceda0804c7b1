-- A walk along links that claims the words of the nodes that it passes.
use Rattle.std.proofs.Common.{◌≡◌, ◌≢◌, ℕ, zero, suc, ◌+◌, ◌<◌, ◌≤◌, Bool, true, false, List, [], ◌∷◌, ◌++◌, eqb, get_or, length, refl, sym, ap, ◌∙◌, subst, arith, length-append}
use Rattle.std.specs.List.{range_with_len}
use Rattle.std.proofs.lemmas.Bool.{ne_eqb}
use Rattle.kernel_lists.specs.LinkedList.Chain.{IsChain, links_from, list_at}
use Rattle.word_store.specs.Count.{IsApart, times, words_of}
use Rattle.word_store.proofs.Counts.{range-apart, range-high, range-low, times-append, times-within, times-words_more, times-words_of}
use Rattle.store_claims.specs.WordClaims.ClaimableLists.{CanClaim}
use Rattle.store_claims.specs.WordClaims.Marks.{AreClaimed, AreOpen, IsSet, is_open}
use Rattle.store_claims.proofs.WordClaims.ClaimedWords.{claimed-more, nothing-claimed}

-- ---- links

-- the links lead from the word at `at` through the nodes to the word at `to`
abbrev pub Leads : List ℕ → (ℕ → ℕ) → ℕ → List ℕ → ℕ → Type 0
Leads s link at [] to = at ≡ to
Leads s link at (d ∷ ds) to = (get_or s at 0 ≡ d) × (d ≢ 0) × Leads s link (link d) ds to

leads-more : (s : List ℕ) (link : ℕ → ℕ) (at : ℕ) (ds : List ℕ) (to p : ℕ) → Leads s link at ds to → p ≡ get_or s to 0 → p ≢ 0 → Leads s link at (ds ++ p ∷ []) (link p)
leads-more s link at [] to p h read some = (ap (λ z. get_or s z 0) h ∙ sym read, some, refl)
leads-more s link at (d ∷ ds) to p h read some = (h.0, h.1, leads-more s link (link d) ds to p h.2 read some)

-- where they end there, these are all
leads-chain : (s : List ℕ) (link : ℕ → ℕ) (at : ℕ) (ds : List ℕ) (to : ℕ) → Leads s link at ds to → get_or s to 0 ≡ 0 → IsChain s link at ds
leads-chain s link at [] to h none = ap (λ z. get_or s z 0) h ∙ none
leads-chain s link at (d ∷ ds) to h none = (h.0, leads-chain s link (link d) ds to h.2 none)

leads-all : (n : ℕ) (s : List ℕ) (link : ℕ → ℕ) (at : ℕ) (ds : List ℕ) (to : ℕ) → Leads s link at ds to → get_or s to 0 ≡ 0 → length ds ≤ n → links_from n s link at ≡ ds
unfolding links_from
leads-all zero s link at [] to h none few = refl
leads-all zero s link at (d ∷ ds) to h none few = absurd (omega (arith, few))
leads-all (suc n) s link at [] to h none few = (let z : get_or s at 0 ≡ 0 = ap (λ z. get_or s z 0) h ∙ none in rw z refl)
leads-all (suc n) s link at (d ∷ ds) to h none few =
    let test : eqb d 0 ≡ false = ne_eqb d 0 h.1 in
    rw h.0 (rw test (ap (λ r. d ∷ r) (leads-all n s link (link d) ds to h.2 none (omega (arith, few)))))

-- where they go on, the list does
record GoOn (n : ℕ) (s : List ℕ) (link : ℕ → ℕ) (at : ℕ) (ds : List ℕ) (p : ℕ) : Type 0 where
  pub rest : List ℕ
  pub is : links_from n s link at ≡ ds ++ p ∷ rest

leads-on : (n : ℕ) (s : List ℕ) (link : ℕ → ℕ) (at : ℕ) (ds : List ℕ) (to p : ℕ) → Leads s link at ds to → p ≡ get_or s to 0 → p ≢ 0 → length ds < n → GoOn n s link at ds p
unfolding links_from
leads-on zero s link at ds to p h read some few = absurd (omega (arith, few))
leads-on (suc n) s link at [] to p h read some few =
    let here : get_or s at 0 ≡ p = ap (λ z. get_or s z 0) h ∙ sym read in
    let test : eqb p 0 ≡ false = ne_eqb p 0 some in
    record { rest = links_from n s link (link p); is = rw here (rw test refl) }
leads-on (suc n) s link at (d ∷ ds) to p h read some few =
    let test : eqb d 0 ≡ false = ne_eqb d 0 h.1 in
    let r : GoOn n s link (link d) ds p = leads-on n s link (link d) ds to p h.2 read some (omega (arith, few)) in
    record { rest = r.rest; is = rw h.0 (rw test (ap (λ z. d ∷ z) r.is)) }

-- as many nodes as were asked are the list
leads-full : (n : ℕ) (s : List ℕ) (link : ℕ → ℕ) (at : ℕ) (ds : List ℕ) (to : ℕ) → Leads s link at ds to → length ds ≡ n → links_from n s link at ≡ ds
unfolding links_from
leads-full zero s link at [] to h full = refl
leads-full zero s link at (d ∷ ds) to h full = absurd (omega (arith, full))
leads-full (suc n) s link at [] to h full = absurd (omega (arith, full))
leads-full (suc n) s link at (d ∷ ds) to h full =
    let test : eqb d 0 ≡ false = ne_eqb d 0 h.1 in
    rw h.0 (rw test (ap (λ r. d ∷ r) (leads-full n s link (link d) ds to h.2 (omega (arith, full)))))

chain-ends : (s : List ℕ) (link : ℕ → ℕ) (at : ℕ) (ds : List ℕ) (to : ℕ) → Leads s link at ds to → IsChain s link at ds → get_or s to 0 ≡ 0
chain-ends s link at [] to h chain = ap (λ z. get_or s z 0) (sym h) ∙ chain
chain-ends s link at (d ∷ ds) to h chain = chain-ends s link (link d) ds to h.2 chain.1

-- ---- the walk

-- it has passed n nodes, whose words were open and apart, and has claimed them
pub record Walked (s : List ℕ) (link size : ℕ → ℕ) (before now : List Bool) (head at n : ℕ) : Type 0 where
  pub nodes : List ℕ
  pub count : length nodes ≡ n
  pub leads : Leads s link head nodes at
  pub claimed : AreClaimed before now (words_of size nodes)
  pub are_open : (a : ℕ) → 0 < times a (words_of size nodes) → is_open before a ≡ true
  pub apart : IsApart (words_of size nodes)

pub begun : (s : List ℕ) (link size : ℕ → ℕ) (marks : List Bool) (head : ℕ) → Walked s link size marks marks head head 0
begun s link size marks head = record {
  nodes = [];
  count = refl;
  leads = refl;
  claimed = nothing-claimed marks;
  are_open = λ a some. absurd (omega (arith, some));
  apart = λ a. omega arith;
}

-- the same words, listed in another way
same-claimed : (before after : List Bool) (xs ys : List ℕ) → ((a : ℕ) → times a xs ≡ times a ys) → AreClaimed before after xs → AreClaimed before after ys
same-claimed before after xs ys same c = record {
  size = c.size;
  marks = λ a. (λ t. (let h = (c.marks a).0 t in (h.0, sym (same a) ∙ h.1)), λ h. (c.marks a).1 (h.0, same a ∙ h.1));
}

module _ (s : List ℕ) (link size : ℕ → ℕ) (before now : List Bool) (head at n : ℕ) (w : Walked s link size before now head at n) where
  abbrev ws : List ℕ
  ws = words_of size w.nodes

  -- one node more
  pub stepped : (p : ℕ) (new : List Bool) → p ≡ get_or s at 0 → p ≢ 0 → AreOpen now p (size p) → IsSet now new p (size p) false → Walked s link size before new head (link p) (n + 1)
  stepped p new read some are_open set = record {
    nodes = w.nodes ++ p ∷ [];
    count = length-append w.nodes (p ∷ []) ∙ omega (arith, w.count);
    leads = leads-more s link head w.nodes at p w.leads read some;
    claimed = same-claimed before new (ws ++ range_with_len p (size p)) (words_of size (w.nodes ++ p ∷ []))
        (λ a. omega (arith, counts a, times-append a ws (range_with_len p (size p)))) (claimed-more before now new ws p (size p) w.claimed are_open set);
    are_open = opened;
    apart = λ a. one a;
  }
    where
      counts : (a : ℕ) → times a (words_of size (w.nodes ++ p ∷ [])) ≡ times a ws + times a (range_with_len p (size p))
      counts a = omega (arith, times-words_of size a w.nodes (p ∷ []), times-words_more size a p [])

      -- a word of the node was open when it was claimed
      was-open : (a : ℕ) → 0 < times a (range_with_len p (size p)) → (is_open before a ≡ true) × (times a ws ≡ 0)
      was-open a here = (w.claimed.marks a).0 (are_open a (range-low a p (size p) here) (range-high a p (size p) here))

      opened : (a : ℕ) → 0 < times a (words_of size (w.nodes ++ p ∷ [])) → is_open before a ≡ true
      opened a some = on (times a ws) refl
        where
          on : (k : ℕ) → times a ws ≡ k → is_open before a ≡ true
          on zero e = (was-open a (omega (arith, some, counts a, e))).0
          on (suc k) e = w.are_open a (omega (arith, e))

      one : (a : ℕ) → times a (words_of size (w.nodes ++ p ∷ [])) ≤ 1
      one a = on (times a (range_with_len p (size p))) refl
        where
          on : (k : ℕ) → times a (range_with_len p (size p)) ≡ k → times a (words_of size (w.nodes ++ p ∷ [])) ≤ 1
          on zero e = omega (arith, counts a, e, w.apart a)
          on (suc k) e = omega (arith, counts a, (was-open a (omega (arith, e))).1, range-apart p (size p) a)

  -- the links have ended
  pub all-claimed : get_or s at 0 ≡ 0 → n ≤ length s → CanClaim s link size before head × AreClaimed before now (words_of size (list_at s link head))
  all-claimed none few =
      let is : w.nodes ≡ list_at s link head = sym (leads-all (length s) s link head w.nodes at w.leads none (omega (arith, w.count, few))) in (
        record {
          chain = subst (IsChain s link head) is (leads-chain s link head w.nodes at w.leads none);
          are_open = subst (λ ps. (a : ℕ) → 0 < times a (words_of size ps) → is_open before a ≡ true) is w.are_open;
          apart = subst (λ ps. IsApart (words_of size ps)) is w.apart;
        },
        subst (λ ps. AreClaimed before now (words_of size ps)) is w.claimed,
      )

  -- where all can be claimed, the next node can
  pub next-open : (p : ℕ) → n < length s → p ≡ get_or s at 0 → p ≢ 0 → CanClaim s link size before head → AreOpen now p (size p)
  next-open p few read some can b low high =
      let g : GoOn (length s) s link head w.nodes p = leads-on (length s) s link head w.nodes at p w.leads read some (omega (arith, w.count, few)) in
      let counts : times b (words_of size (list_at s link head)) ≡ times b ws + (times b (range_with_len p (size p)) + times b (words_of size g.rest)) =
      ap (λ ps. times b (words_of size ps)) g.is ∙ omega (arith, times-words_of size b w.nodes (p ∷ g.rest), times-words_more size b p g.rest)
      in
      let one : times b (range_with_len p (size p)) ≡ 1 = times-within b p (size p) low high in
      (w.claimed.marks b).1 (can.are_open b (omega (arith, counts, one)), omega (arith, counts, one, can.apart b))

  -- and no list has more nodes than the store has words
  pub must-end : n ≡ length s → CanClaim s link size before head → get_or s at 0 ≡ 0
  must-end full can =
      chain-ends s link head w.nodes at w.leads (subst (IsChain s link head) (leads-full (length s) s link head w.nodes at w.leads (w.count ∙ full)) can.chain)
