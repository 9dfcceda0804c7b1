-- Chains of links, and the list that a store alone gives.
use Rattle.std.proofs.Common.{◌≡◌, ◌≢◌, ℕ, zero, suc, ◌<◌, ◌≤◌, List, [], ◌∷◌, length, get_or, eqb, Bool, true, false, refl, sym, ap, ◌∙◌, subst, arith, inl, inr, ◌||◌}
use Rattle.std.specs.List.{AllByRecursion, IsDistinct, list_any}
use Rattle.std.proofs.lemmas.Bool.{cases_eq}
use Rattle.std.proofs.lemmas.Bool.Decides.{nat_tests}
use Rattle.std.proofs.lemmas.Map.Steps.{length-le_from_distinct_below}
use Rattle.word_store.specs.Count.{IsApart, hit, node_words, times, words_of}
use Rattle.kernel_lists.specs.LinkedList.Chain.{IsChain, cells, last_cell, links_from, list_at}
use Rattle.kernel_lists.specs.LinkedList.Linked.{IsLinked, IsNode}
use Rattle.word_store.proofs.Counts.{hit-other, hit-same, times-within, times-words_more}

-- a chain is where its cells are as they were
pub IsChain-same : (s t : List ℕ) (link : ℕ → ℕ) (at : ℕ) (ps : List ℕ) → IsChain s link at ps
    → ((a : ℕ) → 0 < times a (cells link at ps) → get_or t a 0 ≡ get_or s a 0) → IsChain t link at ps
IsChain-same s t link at [] chain same = same at (omega (arith, hit-same at at refl)) ∙ chain
IsChain-same s t link at (p ∷ ps) chain same =
    (same at (omega (arith, hit-same at at refl)) ∙ chain.0, IsChain-same s t link (link p) ps chain.1 (λ a h. same a (omega arith)))

pub nodes-same : (s t : List ℕ) (link size : ℕ → ℕ) (ps : List ℕ) → length t ≡ length s → AllByRecursion (IsNode s link size) ps → AllByRecursion (IsNode t link size) ps
nodes-same s t link size [] e h = tt
nodes-same s t link size (p ∷ ps) e h =
    (record { some = h.0.some; after = h.0.after; before = h.0.before; inside = omega (arith, e, h.0.inside) }, nodes-same s t link size ps e h.1)

-- a node's link word, and its first word, are words of the node
pub times-link : (s : List ℕ) (link size : ℕ → ℕ) (p : ℕ) → IsNode s link size p → (a : ℕ) → hit a (link p) ≤ times a (node_words size p)
times-link s link size p n a =
    elim (cases_eq a (link p)) [
      | inl e ↦ omega (arith, hit-same a (link p) e, times-within a p (size p) (omega (arith, n.after)) (omega (arith, n.before)))
      | inr ne ↦ omega (arith, hit-other a (link p) ne)
    ]

times-first : (s : List ℕ) (link size : ℕ → ℕ) (p : ℕ) → IsNode s link size p → (a : ℕ) → hit a p ≤ times a (node_words size p)
times-first s link size p n a =
    elim (cases_eq a p) [
      | inl e ↦ omega (arith, hit-same a p e, times-within a p (size p) (omega arith) (omega (arith, n.after, n.before)))
      | inr ne ↦ omega (arith, hit-other a p ne)
    ]

-- the cells are the first one and words of the nodes
pub times-cells : (s : List ℕ) (link size : ℕ → ℕ) (at : ℕ) (ps : List ℕ) → AllByRecursion (IsNode s link size) ps
    → (a : ℕ) → times a (cells link at ps) ≤ times a (at ∷ words_of size ps)
times-cells s link size at [] n a = omega arith
times-cells s link size at (p ∷ ps) n a =
    omega (arith, times-cells s link size (link p) ps n.1 a, times-link s link size p n.0 a, times-words_more size a p ps)

pub times-nodes : (s : List ℕ) (link size : ℕ → ℕ) (ps : List ℕ) → AllByRecursion (IsNode s link size) ps → (a : ℕ) → times a ps ≤ times a (words_of size ps)
times-nodes s link size [] n a = omega arith
times-nodes s link size (p ∷ ps) n a =
    omega (arith, times-nodes s link size ps n.1 a, times-first s link size p n.0 a, times-words_more size a p ps)

-- no cell is twice, and no node
pub cells-apart : (s : List ℕ) (link size : ℕ → ℕ) (head : ℕ) (ps : List ℕ) → IsLinked s link size head ps → IsApart (cells link head ps)
cells-apart s link size head ps l a = omega (arith, times-cells s link size head ps l.nodes a, l.apart a)

pub nodes-apart : (s : List ℕ) (link size : ℕ → ℕ) (head : ℕ) (ps : List ℕ) → IsLinked s link size head ps → IsApart ps
nodes-apart s link size head ps l a = omega (arith, times-nodes s link size ps l.nodes a, l.apart a)

pub last_cell-inside : (s : List ℕ) (link size : ℕ → ℕ) (at : ℕ) (ps : List ℕ) → at < length s → AllByRecursion (IsNode s link size) ps → last_cell link at ps < length s
last_cell-inside s link size at [] h n = h
last_cell-inside s link size at (p ∷ ps) h n = last_cell-inside s link size (link p) ps (omega (arith, n.0.before, n.0.inside)) n.1

-- the list that the links give, where it is not longer than asked
pub links_from-chain : (n : ℕ) (s : List ℕ) (link size : ℕ → ℕ) (at : ℕ) (ps : List ℕ) → IsChain s link at ps → AllByRecursion (IsNode s link size) ps → length ps ≤ n
    → links_from n s link at ≡ ps
unfolding links_from
links_from-chain zero s link size at [] chain nodes few = refl
links_from-chain zero s link size at (p ∷ ps) chain nodes few = absurd (omega arith)
links_from-chain (suc n) s link size at [] chain nodes few = rw chain refl
links_from-chain (suc n) s link size at (p ∷ ps) chain nodes few =
    let some : eqb p 0 ≡ false = (let pos : 0 < p = nodes.0.some in grind (arith, nat_tests)) in
    rw chain.0 (rw some (ap (λ r. p ∷ r) (links_from-chain n s link size (link p) ps chain.1 nodes.1 (omega arith))))

not_among : (x : ℕ) (ys : List ℕ) → times x ys ≡ 0 → AllByRecursion (λ y. eqb x y ≡ false) ys
not_among x [] none = tt
not_among x (y ∷ ys) none =
    let differ : x ≢ y = λ e. absurd (omega (arith, hit-same x y e)) in
    let test : eqb x y ≡ false = grind (arith, nat_tests) in
    (test, not_among x ys (omega arith))

IsDistinct-from_apart : (xs : List ℕ) → IsApart xs → IsDistinct eqb xs
unfolding IsDistinct
IsDistinct-from_apart [] apart = tt
IsDistinct-from_apart (x ∷ xs) apart =
    (not_among x xs (omega (arith, apart x, hit-same x x refl)), IsDistinct-from_apart xs (λ a. omega (arith, apart a)))

any_below : (n : ℕ) (ps : List ℕ) → AllByRecursion (λ p. p < n) ps → (q : ℕ) → list_any (eqb q) ps ≡ true → q < n
any_below n [] below q e = cc
any_below n (p ∷ ps) below q e = on (eqb q p) refl e (any_below n ps below.1 q)
  where
    on : (b : Bool) → eqb q p ≡ b → (b || list_any (eqb q) ps) ≡ true → (list_any (eqb q) ps ≡ true → q < n) → q < n
    on true t k more = (let same : q ≡ p = grind (arith, nat_tests) in omega (arith, same, below.0))
    on false t k more = more k

-- there are no more addresses below a number than that number, where none is twice
pub length-apart : (n : ℕ) (ps : List ℕ) → IsApart ps → AllByRecursion (λ p. p < n) ps → length ps ≤ n
length-apart n ps apart below = length-le_from_distinct_below ps n (IsDistinct-from_apart ps apart) (any_below n ps below)

-- a list has no more nodes than the store has words
pub length-linked : (s : List ℕ) (link size : ℕ → ℕ) (head : ℕ) (ps : List ℕ) → IsLinked s link size head ps → length ps ≤ length s
length-linked s link size head ps l = length-apart (length s) ps (nodes-apart s link size head ps l) (below ps l.nodes)
  where
    below : (ps : List ℕ) → AllByRecursion (IsNode s link size) ps → AllByRecursion (λ p. p < length s) ps
    below [] n = tt
    below (p ∷ ps) n = (omega (arith, n.0.after, n.0.before, n.0.inside), below ps n.1)

-- the store alone says which list is at a head
pub list_at-is : (s : List ℕ) (link size : ℕ → ℕ) (head : ℕ) (ps : List ℕ) → IsLinked s link size head ps → list_at s link head ≡ ps
list_at-is s link size head ps l = links_from-chain (length s) s link size head ps l.chain l.nodes (length-linked s link size head ps l)

-- so it is there as the list that is found
pub linked-found : (s : List ℕ) (link size : ℕ → ℕ) (head : ℕ) (ps : List ℕ) → IsLinked s link size head ps → IsLinked s link size head (list_at s link head)
linked-found s link size head ps l = subst (IsLinked s link size head) (sym (list_at-is s link size head ps l)) l
