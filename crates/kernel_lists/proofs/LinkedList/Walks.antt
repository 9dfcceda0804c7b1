-- Walks along links, node by node.
use Rattle.std.proofs.Common.{◌≡◌, ◌≢◌, ℕ, zero, suc, ◌+◌, ◌<◌, List, [], ◌∷◌, length, get_or, eqb, false, refl, sym, ap, ◌∙◌, subst, arith}
use Rattle.std.specs.List.{AllByRecursion}
use Rattle.std.proofs.lemmas.Bool.Decides.{nat_tests}
use Rattle.kernel_lists.specs.LinkedList.Chain.{IsChain, links_from, list_at}
use Rattle.kernel_lists.specs.LinkedList.Linked.{IsLinked, IsNode}
use Rattle.kernel_lists.specs.LinkedList.Walk.{CanWalk, IsWalk}

-- where the word is 0 no node is left
links_from-none : (n : ℕ) (s : List ℕ) (link : ℕ → ℕ) (at : ℕ) → get_or s at 0 ≡ 0 → links_from n s link at ≡ []
unfolding links_from
links_from-none zero s link at e = refl
links_from-none (suc n) s link at e = rw e refl

links_from-more : (n : ℕ) (s : List ℕ) (link : ℕ → ℕ) (at p : ℕ) → p ≡ get_or s at 0 → p ≢ 0 → links_from (suc n) s link at ≡ p ∷ links_from n s link (link p)
unfolding links_from
links_from-more n s link at p read some = (let test : eqb p 0 ≡ false = grind (arith, nat_tests) in rw (sym read) (rw test refl))

links_from-zero : (s : List ℕ) (link : ℕ → ℕ) (at : ℕ) → links_from 0 s link at ≡ []
unfolding links_from
links_from-zero s link at = refl

-- a list that has ended is the same where more nodes are asked
settled : (n : ℕ) (s : List ℕ) (link : ℕ → ℕ) (at : ℕ) → IsChain s link at (links_from n s link at) → links_from (suc n) s link at ≡ links_from n s link at
unfolding links_from
settled zero s link at chain = links_from-none 1 s link at chain
settled (suc n) s link at chain =
    on (get_or s at 0) refl (λ c. settled n s link (link (get_or s at 0)) c) chain
  where
    on : (p : ℕ) → get_or s at 0 ≡ p → (IsChain s link (link (get_or s at 0)) (links_from n s link (link (get_or s at 0))) → links_from (suc n) s link (link (get_or s at 0)) ≡ links_from n s link (link (get_or s at 0)))
        → IsChain s link at (links_from (suc n) s link at) → links_from (suc (suc n)) s link at ≡ links_from (suc n) s link at
    on zero is more c = links_from-none (suc (suc n)) s link at is ∙ sym (links_from-none (suc n) s link at is)
    on (suc p) is more c =
        let some : get_or s at 0 ≢ 0 = λ e. absurd (omega (arith, e, is)) in
        let one = links_from-more n s link at (get_or s at 0) refl some in
        let two = links_from-more (suc n) s link at (get_or s at 0) refl some in
        two ∙ ap (λ z. get_or s at 0 ∷ z) (more (subst (IsChain s link at) one c).1) ∙ sym one

-- a walk has come to its end
pub walk-ends : (s : List ℕ) (link : ℕ → ℕ) (at : ℕ) → get_or s at 0 ≡ 0 → list_at s link at ≡ []
walk-ends s link at e = links_from-none (length s) s link at e

-- a walk goes on by one node
pub record GoesOn (s : List ℕ) (link : ℕ → ℕ) (at p : ℕ) : Type 0 where
  pub list : list_at s link at ≡ p ∷ list_at s link (link p)
  pub walk : IsWalk s link (link p) (list_at s link (link p))
  pub inside : link p < length s

pub walk-goes-on : (s : List ℕ) (link : ℕ → ℕ) (at p : ℕ) → IsWalk s link at (list_at s link at) → p ≡ get_or s at 0 → p ≢ 0 → GoesOn s link at p
walk-goes-on s link at p w read some = by_length (length s) refl w
  where
    by_length : (n : ℕ) → length s ≡ n → IsWalk s link at (list_at s link at) → GoesOn s link at p
    by_length zero e w = absurd (some (read ∙ subst (IsChain s link at) (ap (λ n. links_from n s link at) e ∙ links_from-zero s link at) w.chain))
    by_length (suc n) e w =
        let one : list_at s link at ≡ p ∷ links_from n s link (link p) = ap (λ n. links_from n s link at) e ∙ links_from-more n s link at p read some in
        let chain : IsChain s link (link p) (links_from n s link (link p)) = (subst (IsChain s link at) one w.chain).1 in
        let inside : AllByRecursion (λ p. link p < length s) (p ∷ links_from n s link (link p)) = subst (AllByRecursion (λ p. link p < length s)) one w.inside in
        let rest : list_at s link (link p) ≡ links_from n s link (link p) = ap (λ n. links_from n s link (link p)) e ∙ settled n s link (link p) chain in
        record {
          list = one ∙ ap (λ z. p ∷ z) (sym rest);
          walk = subst (IsWalk s link (link p)) (sym rest) (record { chain = chain; inside = inside.1 });
          inside = inside.0;
        }

-- a list can be walked
pub linked-walk : (s : List ℕ) (link size : ℕ → ℕ) (head : ℕ) (ps : List ℕ) → IsLinked s link size head ps → IsWalk s link head ps
linked-walk s link size head ps l = record { chain = l.chain; inside = inside ps l.nodes }
  where
    inside : (ps : List ℕ) → AllByRecursion (IsNode s link size) ps → AllByRecursion (λ p. link p < length s) ps
    inside [] n = tt
    inside (p ∷ ps) n = (omega (arith, n.0.before, n.0.inside), inside ps n.1)

-- where a node's own word is its link, no offset is added
pub no_offset : ◌≡◌ {A = ℕ → ℕ} (λ p. p + 0) (λ p. p)
no_offset = λ i p. sum p i
  where
    sum : (p : ℕ) → p + 0 ≡ p
    sum p = omega arith

pub can_walk : (s : List ℕ) (link size : ℕ → ℕ) (head : ℕ) → IsLinked s link size head (list_at s link head) → CanWalk s link head
can_walk s link size head l = linked-walk s link size head (list_at s link head) l
