-- A node is linked in.
use Rattle.std.proofs.Common.{◌≡◌, ◌≢◌, ℕ, ◌<◌, List, [], ◌∷◌, ◌++◌, length, get_or, set, refl, sym, ◌∙◌, subst, arith, get_or-set_other, get_or-set_same, length-set}
use Rattle.word_store.specs.Count.{IsApart, node_words, times}
use Rattle.kernel_lists.specs.LinkedList.Chain.{IsChain, cells, last_cell}
use Rattle.kernel_lists.specs.LinkedList.Linked.{IsFresh, IsLinked, IsNode}
use Rattle.kernel_lists.specs.LinkedList.Places.{linked_in}
use Rattle.kernel_lists.proofs.LinkedList.Changed.{InsertedAt}
use Rattle.word_store.proofs.Counts.{hit-same, times-words_more, times-words_of}
use Rattle.kernel_lists.proofs.LinkedList.Chains.{IsChain-same, cells-apart, last_cell-inside, nodes-same, times-cells, times-link}
use Rattle.word_store.proofs.Elements.{all-append, all-back, all-front}

-- the last cell of a front is one of all the cells
pub times-front_cell : (link : ℕ → ℕ) (at : ℕ) (xs ys : List ℕ) → 0 < times (last_cell link at xs) (cells link at (xs ++ ys))
times-front_cell link at [] [] = omega (arith, hit-same at at refl)
times-front_cell link at [] (y ∷ ys) = omega (arith, hit-same at at refl)
times-front_cell link at (x ∷ xs) ys = omega (arith, times-front_cell link (link x) xs ys)

-- the first cell is not the last cell of a front that is not empty
pub front_cell-differs : (link : ℕ → ℕ) (at x : ℕ) (xs ys : List ℕ) → IsApart (at ∷ cells link (link x) (xs ++ ys)) → at ≢ last_cell link (link x) xs
front_cell-differs link at x xs ys apart e =
    absurd (omega (arith, apart at, hit-same at at refl, subst (λ z. 0 < times z (cells link (link x) (xs ++ ys))) (sym e) (times-front_cell link (link x) xs ys)))

chain-insert : (s t : List ℕ) (link : ℕ → ℕ) (at : ℕ) (xs ys : List ℕ) (p : ℕ) → IsChain s link at (xs ++ ys) → IsApart (cells link at (xs ++ ys))
    → get_or t (link p) 0 ≡ get_or s (last_cell link at xs) 0 → get_or t (last_cell link at xs) 0 ≡ p
    → ((a : ℕ) → 0 < times a (cells link at (xs ++ ys)) → a ≢ last_cell link at xs → get_or t a 0 ≡ get_or s a 0)
    → IsChain t link at (xs ++ p ∷ ys)
chain-insert s t link at [] [] p chain apart to from same = (from, to ∙ chain)
chain-insert s t link at [] (y ∷ ys) p chain apart to from same =
    (from, (to ∙ chain.0, IsChain-same s t link (link y) ys chain.1 (λ a h. same a (omega (arith, h)) (λ e. absurd (omega (arith, apart a, h, hit-same a at e))))))
chain-insert s t link at (x ∷ xs) ys p chain apart to from same = (
  same at (omega (arith, hit-same at at refl)) (front_cell-differs link at x xs ys apart) ∙ chain.0,
  chain-insert s t link (link x) xs ys p chain.1 (λ a. omega (arith, apart a)) to from (λ a h. same a (omega arith)),
)

-- the list has the node at its place
pub IsLinked-insert : (s t : List ℕ) (link size : ℕ → ℕ) (head : ℕ) (xs ys : List ℕ) (p : ℕ) → IsLinked s link size head (xs ++ ys) → IsFresh s link size head (xs ++ ys) p
    → InsertedAt s t link size (last_cell link head xs) p → IsLinked t link size head (xs ++ p ∷ ys)
IsLinked-insert s t link size head xs ys p l fresh i =
    let other : (a : ℕ) → 0 < times a (cells link head (xs ++ ys)) → times a (node_words size p) ≡ 0 =
    λ a h. omega (arith, fresh.apart a, h, times-cells s link size head (xs ++ ys) l.nodes a)
    in
    record {
      chain = chain-insert s t link head xs ys p l.chain (cells-apart s link size head (xs ++ ys) l) i.to i.from (λ a h ne. i.others a ne (other a h));
      nodes = nodes-same s t link size (xs ++ p ∷ ys) i.same_length
          (all-append (IsNode s link size) xs (p ∷ ys) (all-front (IsNode s link size) xs ys l.nodes) (fresh.node, all-back (IsNode s link size) xs ys l.nodes));
      head_inside = omega (arith, i.same_length, l.head_inside);
      apart = λ a. omega (arith, fresh.apart a, times-words_of size a xs ys, times-words_of size a xs (p ∷ ys), times-words_more size a p ys);
    }

-- a cell of the list is no word of a fresh node
pub fresh-cell : (s : List ℕ) (link size : ℕ → ℕ) (head : ℕ) (xs ys : List ℕ) (p : ℕ) → IsLinked s link size head (xs ++ ys) → IsFresh s link size head (xs ++ ys) p
    → times (last_cell link head xs) (node_words size p) ≡ 0
fresh-cell s link size head xs ys p l fresh =
    omega (arith, fresh.apart (last_cell link head xs), times-front_cell link head xs ys, times-cells s link size head (xs ++ ys) l.nodes (last_cell link head xs))

-- the two writes that link a node in
pub inserted : (s : List ℕ) (link size : ℕ → ℕ) (head : ℕ) (xs ys : List ℕ) (p : ℕ) → IsLinked s link size head (xs ++ ys) → IsFresh s link size head (xs ++ ys) p
    → InsertedAt s (linked_in s link (last_cell link head xs) p) link size (last_cell link head xs) p
inserted s link size head xs ys p l fresh =
    let cell : ℕ = last_cell link head xs in
    let none : times cell (node_words size p) ≡ 0 = fresh-cell s link size head xs ys p l fresh in
    let differ : link p ≢ cell = λ e. absurd (omega (arith, none, hit-same cell (link p) (sym e), times-link s link size p fresh.node cell)) in
    let within : link p < length s = omega (arith, fresh.node.before, fresh.node.inside) in
    let cell_inside : cell < length s = last_cell-inside s link size head xs l.head_inside (all-front (IsNode s link size) xs ys l.nodes) in
    record {
      same_length = length-set (set s (link p) (get_or s cell 0)) cell p ∙ length-set s (link p) (get_or s cell 0);
      to = get_or-set_other (set s (link p) (get_or s cell 0)) cell (link p) p 0 differ ∙ get_or-set_same s (link p) (get_or s cell 0) 0 within;
      from = get_or-set_same (set s (link p) (get_or s cell 0)) cell p 0 (omega (arith, length-set s (link p) (get_or s cell 0), cell_inside));
      others = λ a no_cell no_word.
          get_or-set_other (set s (link p) (get_or s cell 0)) cell a p 0 no_cell
          ∙ get_or-set_other s (link p) a (get_or s cell 0) 0 (λ e. absurd (omega (arith, no_word, hit-same a (link p) e, times-link s link size p fresh.node a)));
    }
