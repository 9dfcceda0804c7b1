-- Things whose links form a chain, and whose other words are in the store, are held.
use Rattle.std.proofs.Common.{◌≡◌, ℕ, zero, suc, ◌+◌, ◌≤◌, List, [], ◌∷◌, length, map, get_or, refl, sym, ap, ◌∙◌, subst, arith}
use Rattle.std.specs.Prelude.{slice_range}
use Rattle.std.specs.List.{AllByRecursion}
use Rattle.word_store.proofs.Rows.{range_first, range_none}
use Rattle.kernel_lists.specs.LinkedList.Chain.{IsChain}
use Rattle.kernel_lists.specs.OwnedWords.LinkedWords.{headed_words, linked_words}
use Rattle.kernel_lists.specs.OwnedWords.Owned.{Holds, Pairs, row_from}
use Rattle.kernel_lists.proofs.OwnedWords.OwnedWords.{Holds-append}

-- the link of such a thing is its first word
pub chain-held : {X : Type 0} (address : X → ℕ) (other : X → Pairs) (s : List ℕ) (at : ℕ) (xs : List X) → IsChain s (λ a. a) at (map address xs) → AllByRecursion (λ x. Holds s (other x)) xs
    → Holds s (headed_words address (λ x n. (address x, n) ∷ other x) at xs 0)
chain-held address other s at [] chain all = (chain, tt)
chain-held address other s at (x ∷ xs) chain all =
    let rest = chain-held address other s (address x) xs chain.1 all.1 in
    (chain.0, (rest.0, Holds-append s (other x) (linked_words address (λ x n. (address x, n) ∷ other x) xs 0) all.0 rest.1))

-- the words of a range are a row
pub record IsRow (s : List ℕ) (p i n : ℕ) (ws : List ℕ) : Type 0 where
  pub size : length ws ≡ n
  pub holds : Holds s (row_from p i ws)

pub range-row : (s : List ℕ) (p i n : ℕ) → p + i + n ≤ length s → IsRow s p i n (slice_range s (p + i) (p + i + n))
range-row s p i zero fits =
    let none : slice_range s (p + i) (p + i + 0) ≡ [] = (let e : p + i + 0 ≡ p + i = omega arith in ap (slice_range s (p + i)) e ∙ range_none s (p + i)) in
    subst (IsRow s p i 0) (sym none) (record { size = refl; holds = tt })
range-row s p i (suc n) fits =
    let next : p + i + 1 ≡ p + suc i = omega arith in
    let end : p + i + suc n ≡ p + suc i + n = omega arith in
    let more : IsRow s p (suc i) n (slice_range s (p + suc i) (p + suc i + n)) = range-row s p (suc i) n (omega (arith, fits)) in
    let is : slice_range s (p + i) (p + i + suc n) ≡ get_or s (p + i) 0 ∷ slice_range s (p + suc i) (p + suc i + n) =
    range_first s (p + i) (p + i + suc n) (omega arith) fits ∙ (λ j. get_or s (p + i) 0 ∷ slice_range s (next j) (end j))
    in
    subst (IsRow s p i (suc n)) (sym is) (record { size = ap suc more.size; holds = (refl, more.holds) })
