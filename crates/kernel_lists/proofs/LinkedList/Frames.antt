-- A list is still there where the words that hold its links are as they were.
use Rattle.std.proofs.Common.{◌≡◌, ◌≢◌, ℕ, ◌+◌, ◌<◌, ◌≤◌, List, [], ◌∷◌, ◌++◌, length, get_or, set, subst, arith, get_or-set_other, length-set}
use Rattle.std.specs.List.{AllByRecursion}
use Rattle.word_store.specs.Count.{node_words, times, words_of}
use Rattle.kernel_lists.specs.LinkedList.Chain.{cells, list_at}
use Rattle.kernel_lists.specs.LinkedList.Linked.{HasList, IsLinked, IsNode, IsListAt}
use Rattle.word_store.proofs.Counts.{hit-other, times-words_more}
use Rattle.kernel_lists.proofs.LinkedList.Chains.{IsChain-same, nodes-same, times-cells, times-link}
use Rattle.kernel_lists.proofs.LinkedList.Lists.{list_at-linked}

pub IsLinked-same : (s t : List ℕ) (link size : ℕ → ℕ) (head : ℕ) (ps : List ℕ) → IsLinked s link size head ps → length t ≡ length s
    → ((a : ℕ) → 0 < times a (cells link head ps) → get_or t a 0 ≡ get_or s a 0) → IsLinked t link size head ps
IsLinked-same s t link size head ps l len same =
    record {
      chain = IsChain-same s t link head ps l.chain same;
      nodes = nodes-same s t link size ps len l.nodes;
      head_inside = omega (arith, len, l.head_inside);
      apart = l.apart;
    }

-- the same list is in a store with the same links
pub list-same : (s t : List ℕ) (link size : ℕ → ℕ) (head : ℕ) → HasList s link size head → length t ≡ length s
    → ((a : ℕ) → 0 < times a (cells link head (list_at s link head)) → get_or t a 0 ≡ get_or s a 0) → IsListAt t link size head (list_at s link head)
list-same s t link size head l len same = list_at-linked t link size head (list_at s link head) (IsLinked-same s t link size head (list_at s link head) l len same)

-- a write to another word than a link
pub list-set : (s : List ℕ) (link size : ℕ → ℕ) (head a w : ℕ) → HasList s link size head → times a (cells link head (list_at s link head)) ≡ 0
    → IsListAt (set s a w) link size head (list_at s link head)
list-set s link size head a w l none =
    list-same s (set s a w) link size head l (length-set s a w)
    (λ b some. get_or-set_other s a b w 0 (λ e. absurd (omega (arith, some, none, subst (λ z. 0 < times z (cells link head (list_at s link head))) e some))))

-- a word of a node that is not its link is no cell
cells-and-word : (s : List ℕ) (link size : ℕ → ℕ) (at : ℕ) (xs : List ℕ) (u : ℕ) (ys : List ℕ) (a : ℕ) → AllByRecursion (IsNode s link size) (xs ++ u ∷ ys) → a ≢ link u
    → times a (cells link at (xs ++ u ∷ ys)) + times a (node_words size u) ≤ times a (at ∷ words_of size (xs ++ u ∷ ys))
cells-and-word s link size at [] u ys a n ne =
    omega (arith, times-cells s link size (link u) ys n.1 a, hit-other a (link u) ne, times-words_more size a u ys)
cells-and-word s link size at (x ∷ xs) u ys a n ne =
    omega (arith, cells-and-word s link size (link x) xs u ys a n.1 ne, times-link s link size x n.0 a, times-words_more size a x (xs ++ u ∷ ys))

pub word-no_cell : (s : List ℕ) (link size : ℕ → ℕ) (head : ℕ) (xs : List ℕ) (u : ℕ) (ys : List ℕ) (a : ℕ) → IsLinked s link size head (xs ++ u ∷ ys) → a ≢ link u
    → 0 < times a (node_words size u) → times a (cells link head (xs ++ u ∷ ys)) ≡ 0
word-no_cell s link size head xs u ys a l ne some = omega (arith, cells-and-word s link size head xs u ys a l.nodes ne, l.apart a)
