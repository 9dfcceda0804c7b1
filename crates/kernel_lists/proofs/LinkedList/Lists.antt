-- The list of a head, as the store alone gives it, after a node was linked in or out.
use Rattle.std.proofs.Common.{◌≡◌, ℕ, List, [], ◌∷◌, ◌++◌, Bool, true, sym, subst, append-nil}
use Rattle.word_store.specs.Count.{node_words, times}
use Rattle.kernel_lists.specs.LinkedList.Chain.{last_cell, list_at}
use Rattle.kernel_lists.specs.LinkedList.Linked.{IsListAt, HasList, IsFresh, IsLinked, IsNode}
use Rattle.kernel_lists.specs.LinkedList.Places.{cell_after, cell_before, has, insert_after, linked_in, linked_out, without}
use Rattle.kernel_lists.proofs.LinkedList.Changed.{InsertedAt, RemovedAt}
use Rattle.kernel_lists.proofs.LinkedList.Chains.{linked-found, list_at-is}
use Rattle.kernel_lists.proofs.LinkedList.Insertion.{IsLinked-insert, fresh-cell, inserted}
use Rattle.kernel_lists.proofs.LinkedList.Removal.{IsLinked-remove, cell-before-node, node-of, removed}
use Rattle.kernel_lists.proofs.LinkedList.Places.{IsPlace, NodePlace, member-place, place}

pub list_at-linked : (t : List ℕ) (link size : ℕ → ℕ) (head : ℕ) (ps : List ℕ) → IsLinked t link size head ps → IsListAt t link size head ps
list_at-linked t link size head ps l = record { valid = linked-found t link size head ps l; list = list_at-is t link size head ps l }

-- a node came in behind the last one that passes a test
pub list-insert : (s t : List ℕ) (f : ℕ → Bool) (link size : ℕ → ℕ) (head p : ℕ) → HasList s link size head → IsFresh s link size head (list_at s link head) p
    → InsertedAt s t link size (cell_after f link head (list_at s link head)) p → IsListAt t link size head (insert_after f p (list_at s link head))
list-insert s t f link size head p l fresh i =
    let r : IsPlace f link head p (list_at s link head) = place f link head p (list_at s link head) in
    subst (IsListAt t link size head) (sym r.list)
    (list_at-linked t link size head (r.front ++ p ∷ r.back)
    (IsLinked-insert s t link size head r.front r.back p (subst (IsLinked s link size head) r.whole l) (subst (λ z. IsFresh s link size head z p) r.whole fresh)
    (subst (λ c. InsertedAt s t link size c p) r.cell i)))

-- the two writes for it
pub list-inserted : (s : List ℕ) (f : ℕ → Bool) (link size : ℕ → ℕ) (head p : ℕ) → HasList s link size head → IsFresh s link size head (list_at s link head) p
    → InsertedAt s (linked_in s link (cell_after f link head (list_at s link head)) p) link size (cell_after f link head (list_at s link head)) p
list-inserted s f link size head p l fresh =
    let r : IsPlace f link head p (list_at s link head) = place f link head p (list_at s link head) in
    subst (λ c. InsertedAt s (linked_in s link c p) link size c p) (sym r.cell)
    (inserted s link size head r.front r.back p (subst (IsLinked s link size head) r.whole l) (subst (λ z. IsFresh s link size head z p) r.whole fresh))

-- the cell behind which a node comes in is none of its words
pub list-cell : (s : List ℕ) (f : ℕ → Bool) (link size : ℕ → ℕ) (head p : ℕ) → HasList s link size head → IsFresh s link size head (list_at s link head) p
    → times (cell_after f link head (list_at s link head)) (node_words size p) ≡ 0
list-cell s f link size head p l fresh =
    let r : IsPlace f link head p (list_at s link head) = place f link head p (list_at s link head) in
    subst (λ c. times c (node_words size p) ≡ 0) (sym r.cell)
    (fresh-cell s link size head r.front r.back p (subst (IsLinked s link size head) r.whole l) (subst (λ z. IsFresh s link size head z p) r.whole fresh))

-- a node came in at the front
pub list-push : (s t : List ℕ) (link size : ℕ → ℕ) (head p : ℕ) → HasList s link size head → IsFresh s link size head (list_at s link head) p
    → InsertedAt s t link size head p → IsListAt t link size head (p ∷ list_at s link head)
list-push s t link size head p l fresh i = list_at-linked t link size head (p ∷ list_at s link head) (IsLinked-insert s t link size head [] (list_at s link head) p l fresh i)

pub list-pushed : (s : List ℕ) (link size : ℕ → ℕ) (head p : ℕ) → HasList s link size head → IsFresh s link size head (list_at s link head) p
    → InsertedAt s (linked_in s link head p) link size head p
list-pushed s link size head p l fresh = inserted s link size head [] (list_at s link head) p l fresh

-- a node came in at the end
pub list-append : (s t : List ℕ) (link size : ℕ → ℕ) (head p : ℕ) → HasList s link size head → IsFresh s link size head (list_at s link head) p
    → InsertedAt s t link size (last_cell link head (list_at s link head)) p → IsListAt t link size head (list_at s link head ++ p ∷ [])
list-append s t link size head p l fresh i =
    let whole : list_at s link head ≡ list_at s link head ++ [] = sym (append-nil (list_at s link head)) in
    list_at-linked t link size head (list_at s link head ++ p ∷ [])
    (IsLinked-insert s t link size head (list_at s link head) [] p (subst (IsLinked s link size head) whole l) (subst (λ z. IsFresh s link size head z p) whole fresh) i)

pub list-appended : (s : List ℕ) (link size : ℕ → ℕ) (head p : ℕ) → HasList s link size head → IsFresh s link size head (list_at s link head) p
    → InsertedAt s (linked_in s link (last_cell link head (list_at s link head)) p) link size (last_cell link head (list_at s link head)) p
list-appended s link size head p l fresh =
    let whole : list_at s link head ≡ list_at s link head ++ [] = sym (append-nil (list_at s link head)) in
    inserted s link size head (list_at s link head) [] p (subst (IsLinked s link size head) whole l) (subst (λ z. IsFresh s link size head z p) whole fresh)

-- a node of the list went out
pub list-remove : (s t : List ℕ) (link size : ℕ → ℕ) (head p : ℕ) → HasList s link size head → has p (list_at s link head) ≡ true
    → RemovedAt s t link size (cell_before link p head (list_at s link head)) p → IsListAt t link size head (without p (list_at s link head))
list-remove s t link size head p l some r =
    let h : NodePlace link head p (list_at s link head) = member-place link head p (list_at s link head) some in
    subst (IsListAt t link size head) (sym h.list)
    (list_at-linked t link size head (h.front ++ h.back)
    (IsLinked-remove s t link size head h.front h.back p (subst (IsLinked s link size head) h.whole l) (subst (λ c. RemovedAt s t link size c p) h.cell r)))

-- the write for it
pub list-removed : (s : List ℕ) (link size : ℕ → ℕ) (head p : ℕ) → HasList s link size head → has p (list_at s link head) ≡ true
    → RemovedAt s (linked_out s link (cell_before link p head (list_at s link head)) p) link size (cell_before link p head (list_at s link head)) p
list-removed s link size head p l some =
    let h : NodePlace link head p (list_at s link head) = member-place link head p (list_at s link head) some in
    subst (λ c. RemovedAt s (linked_out s link c p) link size c p) (sym h.cell)
    (removed s link size head h.front h.back p (subst (IsLinked s link size head) h.whole l))

-- a node of the list is a node, and the cell before it is none of its words
pub list-node : (s : List ℕ) (link size : ℕ → ℕ) (head p : ℕ) → HasList s link size head → has p (list_at s link head) ≡ true → IsNode s link size p
list-node s link size head p l some =
    let h : NodePlace link head p (list_at s link head) = member-place link head p (list_at s link head) some in
    node-of s link size h.front h.back p (subst (IsLinked s link size head) h.whole l).nodes

pub list-cell_before : (s : List ℕ) (link size : ℕ → ℕ) (head p : ℕ) → HasList s link size head → has p (list_at s link head) ≡ true
    → times (cell_before link p head (list_at s link head)) (node_words size p) ≡ 0
list-cell_before s link size head p l some =
    let h : NodePlace link head p (list_at s link head) = member-place link head p (list_at s link head) some in
    subst (λ c. times c (node_words size p) ≡ 0) (sym h.cell)
    (cell-before-node s link size head h.front h.back p (subst (IsLinked s link size head) h.whole l))
