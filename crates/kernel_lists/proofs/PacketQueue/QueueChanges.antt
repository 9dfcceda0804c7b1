-- The queue of a head after a packet came or went.
use Rattle.std.proofs.Common.{◌≡◌, ◌≢◌, ℕ, ◌+◌, ◌<◌, List, [], ◌∷◌, ◌++◌, get_or, set, eqb, cond, true, sym, ap, ◌∙◌, subst, arith, get_or-set_other, length-set, ◌||◌}
use Rattle.std.proofs.lemmas.Bool.Decides.{nat_tests}
use Rattle.word_store.specs.Count.{node_words, times}
use Rattle.kernel_lists.specs.LinkedList.Chain.{IsChain, last_cell}
use Rattle.kernel_lists.specs.LinkedList.Places.{cell_before, has, insert_after, linked_in, without}
use Rattle.kernel_lists.proofs.LinkedList.Changed.{InsertedAt}
use Rattle.word_store.proofs.Counts.{times-differ, times-within}
use Rattle.kernel_lists.proofs.LinkedList.Lists.{list-append, list-appended, list-cell, list-cell_before, list-insert, list-inserted, list-remove, list-removed}
use Rattle.kernel_lists.specs.LinkedList.Linked.{IsListAt}
use Rattle.kernel_lists.proofs.LinkedList.Removal.{removed-then}
use Rattle.kernel_lists.proofs.LinkedList.Walks.{can_walk, walk-ends, walk-goes-on}
use Rattle.kernel_lists.specs.PacketQueue.Queue.{CanQueue, HasQueue, last_link, link_of, no_queue, packet_size, queue_at, unlinked}
use Rattle.kernel_lists.specs.PacketQueue.Due.{is_due, last_due_link, with_due}

-- the last link is 0
last_cell-none : (s : List ℕ) (at : ℕ) (ps : List ℕ) → IsChain s link_of at ps → get_or s (last_cell link_of at ps) 0 ≡ 0
last_cell-none s at [] chain = chain
last_cell-none s at (p ∷ ps) chain = last_cell-none s p ps chain.1

pub appended : (s : List ℕ) (head p : ℕ) → HasQueue s head → CanQueue s head p
    → IsListAt (set (set s p 0) (last_link s head) p) link_of packet_size head (queue_at s head ++ p ∷ [])
appended s head p queue fresh =
    let cell : ℕ = last_link s head in
    let words : linked_in s link_of cell p ≡ set (set s p 0) cell p = ap (λ w. set (set s p w) cell p) (last_cell-none s head (queue_at s head) queue.chain) in
    list-append s (set (set s p 0) cell p) link_of packet_size head p queue fresh
    (subst (λ t. InsertedAt s t link_of packet_size cell p) words (list-appended s link_of packet_size head p queue fresh))

-- a write to another word of the packet changes nothing for the queue
with_word : (s t : List ℕ) (cell p a w : ℕ) → InsertedAt s t link_of packet_size cell p → 0 < times a (node_words packet_size p) → a ≢ p
    → times cell (node_words packet_size p) ≡ 0 → InsertedAt s (set t a w) link_of packet_size cell p
with_word s t cell p a w i word no_link no_cell =
    record {
      same_length = length-set t a w ∙ i.same_length;
      to = get_or-set_other t a p w 0 (λ e. absurd (no_link (sym e))) ∙ i.to;
      from = get_or-set_other t a cell w 0 (λ e. absurd (times-differ a cell (node_words packet_size p) word no_cell (sym e))) ∙ i.from;
      others = λ b ne none. get_or-set_other t a b w 0 (λ e. absurd (times-differ a b (node_words packet_size p) word none (sym e))) ∙ i.others b ne none;
    }

pub due_written : (s : List ℕ) (head p due : ℕ) → HasQueue s head → CanQueue s head p
    → InsertedAt s (with_due s head p due) link_of packet_size (last_due_link s head due) p
due_written s head p due queue fresh =
    let cell : ℕ = last_due_link s head due in
    with_word s (linked_in s link_of cell p) cell p (p + 4) due (list-inserted s (is_due s due) link_of packet_size head p queue fresh)
    (omega (arith, times-within (p + 4) p 5 (omega arith) (omega arith))) (λ e. absurd (omega (arith, e))) (list-cell s (is_due s due) link_of packet_size head p queue fresh)

pub due_appended : (s : List ℕ) (head p due : ℕ) → HasQueue s head → CanQueue s head p
    → IsListAt (with_due s head p due) link_of packet_size head (insert_after (is_due s due) p (queue_at s head))
due_appended s head p due queue fresh =
    list-insert s (with_due s head p due) (is_due s due) link_of packet_size head p queue fresh (due_written s head p due queue fresh)

pub removed : (s : List ℕ) (head p : ℕ) → HasQueue s head → has p (queue_at s head) ≡ true
    → IsListAt (unlinked s head p) link_of packet_size head (without p (queue_at s head))
removed s head p queue some =
    let cell : ℕ = cell_before link_of p head (queue_at s head) in
    list-remove s (unlinked s head p) link_of packet_size head p queue some
    (removed-then s (set s cell (get_or s p 0)) link_of packet_size cell p p no_queue (list-removed s link_of packet_size head p queue some)
    (omega (arith, times-within p p 5 (omega arith) (omega arith))) (list-cell_before s link_of packet_size head p queue some))

-- the packet to which the head leads is the first one
pub record FirstPacket (s : List ℕ) (head p : ℕ) : Type 0 where
  pub among : has p (queue_at s head) ≡ true
  pub whole : queue_at s head ≡ p ∷ without p (queue_at s head)

pub first-packet : (s : List ℕ) (head p : ℕ) → HasQueue s head → p ≡ get_or s head 0 → p ≢ 0 → FirstPacket s head p
first-packet s head p queue read some =
    let rest : List ℕ = queue_at s p in
    let whole : queue_at s head ≡ p ∷ rest = (walk-goes-on s link_of head p (can_walk s link_of packet_size head queue) read some).list in
    let same : eqb p p ≡ true = grind (arith, nat_tests) in
    record {
      among = ap (has p) whole ∙ ap (λ b. b || has p rest) same;
      whole = whole ∙ ap (λ z. p ∷ z) (sym (ap (without p) whole ∙ ap (λ b. cond b rest (p ∷ without p rest)) same));
    }

-- the head leads nowhere exactly where the queue is empty
pub queue_at-none : (s : List ℕ) (head : ℕ) → get_or s head 0 ≡ 0 → queue_at s head ≡ []
queue_at-none s head none = walk-ends s link_of head none
