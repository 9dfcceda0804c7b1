-- Linked things whose words a store holds are there as a linked list, and what it is to link one in or out.
use Rattle.std.proofs.Common.{◌≡◌, ℕ, zero, suc, ◌+◌, ◌<◌, ◌≤◌, List, [], ◌∷◌, ◌++◌, length, map, get_or, set, false, refl, ap, ◌∙◌, subst, arith}
use Rattle.std.specs.List.{AllByRecursion}
use Rattle.word_store.specs.Count.{IsApart, times, words_of}
use Rattle.kernel_lists.specs.LinkedList.Chain.{IsChain, last_cell, list_at}
use Rattle.kernel_lists.specs.LinkedList.Linked.{IsLinked, IsListAt, IsNode}
use Rattle.kernel_lists.specs.LinkedList.Places.{cell_before, has, linked_in, without_node}
use Rattle.kernel_lists.proofs.LinkedList.Chains.{nodes-apart}
use Rattle.word_store.proofs.Counts.{hit-same, times-append, times-within, times-words_more}
use Rattle.kernel_lists.proofs.LinkedList.Lists.{list_at-linked}
use Rattle.kernel_lists.proofs.LinkedList.MappedLists.{last_cell-map, map-append}
use Rattle.kernel_lists.proofs.LinkedList.Members.{has-none}
use Rattle.kernel_lists.proofs.LinkedList.Places.{cell_before-front}
use Rattle.kernel_lists.specs.OwnedWords.Owned.{AreInside, Holds, Pairs, owners}
use Rattle.kernel_lists.specs.OwnedWords.LinkedWords.{AreHeld, AreNodes, first_of, headed_words, linked_words}
use Rattle.kernel_lists.proofs.OwnedWords.OwnedWords.{Holds-left, Holds-right, owners-append}

module _ {X : Type 0} (address : X → ℕ) (words : X → ℕ → Pairs) (link size : ℕ → ℕ) (kind : AreNodes address words link size) where
  held-chain : (s : List ℕ) (head : ℕ) (xs : List X) → Holds s (headed_words address words head xs 0) → IsChain s link head (map address xs)
  held-chain s head [] h = h.0
  held-chain s head (x ∷ xs) h =
      let own : Pairs = words x (first_of address xs 0) in
      let cell_word : get_or s (link (address x)) 0 ≡ first_of address xs 0 = ((kind.links x (first_of address xs 0) 0).first.opens s (Holds-left s own (linked_words address words xs 0) h.1)).1.0 in
      (h.0, held-chain s (link (address x)) xs (cell_word, Holds-right s own (linked_words address words xs 0) h.1))

  -- each word of a node is owned
  pub held-count : (a : ℕ) (xs : List X) (end : ℕ) → times a (words_of size (map address xs)) ≤ owners a (linked_words address words xs end)
  held-count a [] end = omega arith
  held-count a (x ∷ xs) end =
      omega (
        arith,
        held-count a xs end,
        kind.count a x (first_of address xs end),
        times-words_more size a (address x) (map address xs),
        owners-append a (words x (first_of address xs end)) (linked_words address words xs end),
      )

  pub held-nodes : (s : List ℕ) (xs : List X) (end : ℕ) → AreInside s (linked_words address words xs end) → AllByRecursion (λ x. 0 < address x) xs → AllByRecursion (IsNode s link size) (map address xs)
  held-nodes s [] end inside some = tt
  held-nodes s (x ∷ xs) end inside some =
      let n : ℕ = first_of address xs end in
      let join : (a : ℕ) → owners a (linked_words address words (x ∷ xs) end) ≡ owners a (words x n) + owners a (linked_words address words xs end) = λ a. owners-append a (words x n) (linked_words address words xs end) in
      let p : ℕ = address x in (
        record {
          some = some.0;
          after = kind.low x;
          before = kind.high x;
          inside = last p (size p) (omega (arith, kind.low x, kind.high x)) (λ a low high. inside a (omega (arith, join a, kind.count a x n, times-within a p (size p) low high)));
        },
        held-nodes s xs end (λ a h. inside a (omega (arith, join a, h))) some.1,
      )
    where
      last : (p n : ℕ) → 0 < n → ((a : ℕ) → p ≤ a → a < p + n → a < length s) → p + n ≤ length s
      last p zero h all = absurd (omega arith)
      last p (suc n) h all = (let e : p + n < length s = all (p + n) (omega arith) (omega arith) in omega arith)

  held-linked : (s : List ℕ) (head : ℕ) (xs : List X) → AreHeld address words s head xs → IsLinked s link size head (map address xs)
  held-linked s head xs h =
      record {
        chain = held-chain s head xs h.holds;
        nodes = held-nodes s xs 0 (λ a z. h.inside a (omega arith)) h.some;
        head_inside = h.inside head (omega (arith, hit-same head head refl));
        apart = λ a. omega (arith, h.apart a, held-count a xs 0);
      }

  pub held-list : (s : List ℕ) (head : ℕ) (xs : List X) → AreHeld address words s head xs → IsListAt s link size head (map address xs)
  held-list s head xs h = list_at-linked s link size head (map address xs) (held-linked s head xs h)

  -- the link of the last thing of a front leads to the first one behind it
  next-word : (s : List ℕ) (at : ℕ) (xs ys : List X) → IsChain s link at (map address (xs ++ ys)) → get_or s (last_cell (λ x. link (address x)) at xs) 0 ≡ first_of address ys 0
  next-word s at [] [] chain = chain
  next-word s at [] (y ∷ ys) chain = chain.0
  next-word s at (x ∷ xs) ys chain = next-word s (link (address x)) xs ys chain.1

  -- linking in behind a front writes the new link, and the front's last one
  pub held-linked_in : (s : List ℕ) (head : ℕ) (xs ys : List X) (x : X) → Holds s (headed_words address words head (xs ++ ys) 0)
      → linked_in s link (last_cell (λ x. link (address x)) head xs) (address x)
      ≡ set (set s (link (address x)) (first_of address ys 0)) (last_cell (λ x. link (address x)) head xs) (address x)
  held-linked_in s head xs ys x h =
      ap (λ w. set (set s (link (address x)) w) (last_cell (λ x. link (address x)) head xs) (address x)) (next-word s head xs ys (held-chain s head (xs ++ ys) h))

  -- linking out writes the last link of the front
  pub held-without_node : (s : List ℕ) (head : ℕ) (xs : List X) (x : X) (ys : List X) → AreHeld address words s head (xs ++ x ∷ ys)
      → without_node s link head (address x) ≡ set s (last_cell (λ x. link (address x)) head xs) (first_of address ys 0)
  held-without_node s head xs x ys h =
      let p : ℕ = address x in
      let whole : map address (xs ++ x ∷ ys) ≡ map address xs ++ p ∷ map address ys = map-append address xs (x ∷ ys) in
      let linked : IsLinked s link size head (map address (xs ++ x ∷ ys)) = held-linked s head (xs ++ x ∷ ys) h in
      let list : IsListAt s link size head (map address (xs ++ x ∷ ys)) = held-list s head (xs ++ x ∷ ys) h in
      let apart : IsApart (map address xs ++ p ∷ map address ys) = subst IsApart whole (nodes-apart s link size head (map address (xs ++ x ∷ ys)) linked) in
      let none : has p (map address xs) ≡ false =
      has-none p (map address xs) (omega (arith, apart p, times-append p (map address xs) (p ∷ map address ys), hit-same p p refl))
      in
      let cell : cell_before link p head (list_at s link head) ≡ last_cell (λ x. link (address x)) head xs =
      ap (cell_before link p head) (list.list ∙ whole) ∙ cell_before-front link p head (map address xs) (map address ys) none ∙ last_cell-map address link head xs
      in
      ap (λ c. set s c (get_or s (link p) 0)) cell
      ∙ ap (set s (last_cell (λ x. link (address x)) head xs)) (after head xs (held-chain s head (xs ++ x ∷ ys) h.holds))
    where
      after : (at : ℕ) (xs : List X) → IsChain s link at (map address (xs ++ x ∷ ys)) → get_or s (link (address x)) 0 ≡ first_of address ys 0
      after at [] chain = next-word s (link (address x)) [] ys chain.1
      after at (z ∷ zs) chain = after (link (address z)) zs chain.1
