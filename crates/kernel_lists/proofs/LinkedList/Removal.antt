-- A node is linked out.
use Rattle.std.proofs.Common.{◌≡◌, ◌≢◌, ℕ, ◌+◌, ◌<◌, ◌≤◌, List, [], ◌∷◌, ◌++◌, get_or, set, refl, ◌∙◌, subst, arith, get_or-set_other, get_or-set_same, length-set}
use Rattle.std.specs.List.{AllByRecursion}
use Rattle.word_store.specs.Count.{IsApart, node_words, times, words_of}
use Rattle.kernel_lists.specs.LinkedList.Chain.{IsChain, cells, last_cell}
use Rattle.kernel_lists.specs.LinkedList.Linked.{IsLinked, IsNode}
use Rattle.kernel_lists.specs.LinkedList.Places.{linked_out}
use Rattle.kernel_lists.proofs.LinkedList.Changed.{RemovedAt}
use Rattle.word_store.proofs.Counts.{hit-same, times-words_more, times-words_of}
use Rattle.kernel_lists.proofs.LinkedList.Chains.{IsChain-same, cells-apart, last_cell-inside, nodes-same, times-cells}
use Rattle.kernel_lists.proofs.LinkedList.Insertion.{front_cell-differs, times-front_cell}
use Rattle.word_store.proofs.Elements.{all-append, all-back, all-front}

chain-remove : (s t : List ℕ) (link : ℕ → ℕ) (at : ℕ) (xs ys : List ℕ) (p : ℕ) → IsChain s link at (xs ++ p ∷ ys) → IsApart (cells link at (xs ++ p ∷ ys))
    → get_or t (last_cell link at xs) 0 ≡ get_or s (link p) 0
    → ((a : ℕ) → 0 < times a (cells link at (xs ++ ys)) → a ≢ last_cell link at xs → get_or t a 0 ≡ get_or s a 0)
    → IsChain t link at (xs ++ ys)
chain-remove s t link at [] [] p chain apart from same = from ∙ chain.1
chain-remove s t link at [] (y ∷ ys) p chain apart from same =
    (from ∙ chain.1.0, IsChain-same s t link (link y) ys chain.1.1 (λ a h. same a (omega (arith, h)) (λ e. absurd (omega (arith, apart a, h, hit-same a at e)))))
chain-remove s t link at (x ∷ xs) ys p chain apart from same = (
  same at (omega (arith, hit-same at at refl)) (front_cell-differs link at x xs (p ∷ ys) apart) ∙ chain.0,
  chain-remove s t link (link x) xs ys p chain.1 (λ a. omega (arith, apart a)) from (λ a h. same a (omega arith)),
)

-- the words of the nodes that stay are none of the one that goes
pub rest-apart : (s : List ℕ) (link size : ℕ → ℕ) (head : ℕ) (xs ys : List ℕ) (p : ℕ) → IsLinked s link size head (xs ++ p ∷ ys)
    → (a : ℕ) → times a (node_words size p) + times a (head ∷ words_of size (xs ++ ys)) ≤ 1
rest-apart s link size head xs ys p l a = omega (arith, l.apart a, times-words_of size a xs ys, times-words_of size a xs (p ∷ ys), times-words_more size a p ys)

rest-nodes : (s : List ℕ) (link size : ℕ → ℕ) (xs ys : List ℕ) (p : ℕ) → AllByRecursion (IsNode s link size) (xs ++ p ∷ ys) → AllByRecursion (IsNode s link size) (xs ++ ys)
rest-nodes s link size xs ys p n =
    all-append (IsNode s link size) xs ys (all-front (IsNode s link size) xs (p ∷ ys) n) (all-back (IsNode s link size) xs (p ∷ ys) n).1

-- the node that goes is a node
pub node-of : (s : List ℕ) (link size : ℕ → ℕ) (xs ys : List ℕ) (p : ℕ) → AllByRecursion (IsNode s link size) (xs ++ p ∷ ys) → IsNode s link size p
node-of s link size xs ys p n = (all-back (IsNode s link size) xs (p ∷ ys) n).0

-- the list has the other nodes
pub IsLinked-remove : (s t : List ℕ) (link size : ℕ → ℕ) (head : ℕ) (xs ys : List ℕ) (p : ℕ) → IsLinked s link size head (xs ++ p ∷ ys)
    → RemovedAt s t link size (last_cell link head xs) p → IsLinked t link size head (xs ++ ys)
IsLinked-remove s t link size head xs ys p l r =
    let nodes : AllByRecursion (IsNode s link size) (xs ++ ys) = rest-nodes s link size xs ys p l.nodes in
    let other : (a : ℕ) → 0 < times a (cells link head (xs ++ ys)) → times a (node_words size p) ≡ 0 =
    λ a h. omega (arith, rest-apart s link size head xs ys p l a, h, times-cells s link size head (xs ++ ys) nodes a)
    in
    record {
      chain = chain-remove s t link head xs ys p l.chain (cells-apart s link size head (xs ++ p ∷ ys) l) r.from (λ a h ne. r.others a ne (other a h));
      nodes = nodes-same s t link size (xs ++ ys) r.same_length nodes;
      head_inside = omega (arith, r.same_length, l.head_inside);
      apart = λ a. omega (arith, rest-apart s link size head xs ys p l a);
    }

-- the cell before a node is none of its words
pub cell-before-node : (s : List ℕ) (link size : ℕ → ℕ) (head : ℕ) (xs ys : List ℕ) (p : ℕ) → IsLinked s link size head (xs ++ p ∷ ys)
    → times (last_cell link head xs) (node_words size p) ≡ 0
cell-before-node s link size head xs ys p l =
    omega (
      arith,
      rest-apart s link size head xs ys p l (last_cell link head xs),
      times-front_cell link head xs ys,
      times-cells s link size head (xs ++ ys) (rest-nodes s link size xs ys p l.nodes) (last_cell link head xs),
    )

-- the write that links a node out
pub removed : (s : List ℕ) (link size : ℕ → ℕ) (head : ℕ) (xs ys : List ℕ) (p : ℕ) → IsLinked s link size head (xs ++ p ∷ ys)
    → RemovedAt s (linked_out s link (last_cell link head xs) p) link size (last_cell link head xs) p
removed s link size head xs ys p l =
    let cell : ℕ = last_cell link head xs in
    record {
      same_length = length-set s cell (get_or s (link p) 0);
      from = get_or-set_same s cell (get_or s (link p) 0) 0 (last_cell-inside s link size head xs l.head_inside (all-front (IsNode s link size) xs (p ∷ ys) l.nodes));
      others = λ a no_cell no_word. get_or-set_other s cell a (get_or s (link p) 0) 0 no_cell;
    }

-- a write to a word of the node that goes changes nothing for the others
pub removed-then : (s t : List ℕ) (link size : ℕ → ℕ) (cell p a w : ℕ) → RemovedAt s t link size cell p → 0 < times a (node_words size p) → times cell (node_words size p) ≡ 0
    → RemovedAt s (set t a w) link size cell p
removed-then s t link size cell p a w r word no_cell =
    record {
      same_length = length-set t a w ∙ r.same_length;
      from = get_or-set_other t a cell w 0 (λ e. absurd (omega (arith, word, subst (λ z. times z (node_words size p) ≡ 0) e no_cell))) ∙ r.from;
      others = λ b ne none. get_or-set_other t a b w 0 (λ e. absurd (omega (arith, word, subst (λ z. times z (node_words size p) ≡ 0) e none))) ∙ r.others b ne none;
    }
