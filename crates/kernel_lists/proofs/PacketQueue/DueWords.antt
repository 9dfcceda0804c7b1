-- Due ticks along a queue to which a packet was appended by its due tick.
use Rattle.std.proofs.Common.{◌≡◌, ℕ, ◌+◌, ◌<◌, List, [], ◌∷◌, ◌++◌, length, eqb, cond, refl, sym, ap, ◌∙◌, subst, arith, get_or-set_same, length-set, get_or, set}
use Rattle.std.specs.List.{AllByRecursion}
use Rattle.word_store.specs.Count.{times, words_of}
use Rattle.kernel_lists.specs.LinkedList.Places.{insert_after, linked_in}
use Rattle.kernel_lists.proofs.LinkedList.Changed.{InsertedAt}
use Rattle.word_store.proofs.Counts.{hit-same, times-differ, times-within}
use Rattle.kernel_lists.specs.PacketQueue.Queue.{CanQueue, HasQueue, link_of, packet_size, queue_at}
use Rattle.kernel_lists.specs.PacketQueue.Due.{due_of, is_due, last_due_link, with_due}
use Rattle.kernel_lists.specs.PacketQueue.DueOrder.{ArrivesLast, NeverFalls}
use Rattle.kernel_lists.proofs.PacketQueue.QueueChanges.{due_appended, due_written}
use Rattle.kernel_lists.proofs.PacketQueue.PacketWords.{cell_after-among, due_word-no_cell, words-queued}
use Rattle.kernel_lists.proofs.PacketQueue.NumberOrder.{Rises, Rises-from, Rises-insert, Rises-same, Rises-to, insert_after-same, with_number, with_number-insert, with_number-same}

-- the packet has its own due tick
due_of-new : (s : List ℕ) (head p due : ℕ) → CanQueue s head p → due_of (with_due s head p due) p ≡ due
due_of-new s head p due fresh =
    let cell : ℕ = last_due_link s head due in
    let u : List ℕ = linked_in s link_of cell p in
    let len : length u ≡ length s = length-set (set s p (get_or s cell 0)) cell p ∙ length-set s p (get_or s cell 0) in
    get_or-set_same u (p + 4) due 0 (omega (arith, len, fresh.node.inside))

-- the others keep theirs
due_of-queued : (s : List ℕ) (head p due q : ℕ) → HasQueue s head → CanQueue s head p → 0 < times q (queue_at s head) → due_of s q ≡ due_of (with_due s head p due) q
due_of-queued s head p due q queue fresh some =
    let i : InsertedAt s (with_due s head p due) link_of packet_size (last_due_link s head due) p = due_written s head p due queue fresh in
    let word : 0 < times (q + 4) (words_of packet_size (queue_at s head)) =
    omega (arith, words-queued (q + 4) q (queue_at s head) some, times-within (q + 4) q 5 (omega arith) (omega arith))
    in
    sym (i.others (q + 4)
    (λ e. absurd (times-differ (last_due_link s head due) (q + 4) _ (cell_after-among (is_due s due) head p (queue_at s head)) (due_word-no_cell s head q queue some) (sym e)))
    (omega (arith, word, fresh.apart (q + 4))))

all-queued : (P : ℕ → Type 0) (ps : List ℕ) → ((q : ℕ) → 0 < times q ps → P q) → AllByRecursion P ps
all-queued P [] h = tt
all-queued P (p ∷ ps) h = (h p (omega (arith, hit-same p p refl)), all-queued P ps (λ q some. h q (omega (arith, some))))

-- the new queue, by the new due ticks
pub record Rearranged (s t : List ℕ) (head p due : ℕ) : Type 0 where
  pub own : due_of t p ≡ due
  pub same : AllByRecursion (λ q. due_of s q ≡ due_of t q) (queue_at s head)
  pub queue : queue_at t head ≡ insert_after (λ q. is_due t due q) p (queue_at s head)

rearranged : (s : List ℕ) (head p due : ℕ) → HasQueue s head → CanQueue s head p → Rearranged s (with_due s head p due) head p due
rearranged s head p due queue fresh =
    let t : List ℕ = with_due s head p due in
    let same : AllByRecursion (λ q. due_of s q ≡ due_of t q) (queue_at s head) =
    all-queued (λ q. due_of s q ≡ due_of t q) (queue_at s head) (λ q some. due_of-queued s head p due q queue fresh some)
    in
    record {
      own = due_of-new s head p due fresh;
      same = same;
      queue = (due_appended s head p due queue fresh).list ∙ insert_after-same (due_of s) (due_of t) due p (queue_at s head) same;
    }

pub NeverFalls-appended : (s : List ℕ) (head p due : ℕ) → HasQueue s head → CanQueue s head p → NeverFalls s head → NeverFalls (with_due s head p due) head
NeverFalls-appended s head p due queue fresh order =
    let t : List ℕ = with_due s head p due in
    let r : Rearranged s t head p due = rearranged s head p due queue fresh in
    let before : Rises (due_of t) (queue_at s head) = Rises-same (due_of s) (due_of t) (queue_at s head) r.same (Rises-from (due_of s) (queue_at s head) order) in
    Rises-to (due_of t) (queue_at t head) (subst (Rises (due_of t)) (sym r.queue) (Rises-insert (due_of t) due p (queue_at s head) r.own before))

pub ArrivesLast-appended : (s : List ℕ) (head p due : ℕ) → HasQueue s head → CanQueue s head p → NeverFalls s head → ArrivesLast s (with_due s head p due) head p due
ArrivesLast-appended s head p due queue fresh order tick =
    let t : List ℕ = with_due s head p due in
    let r : Rearranged s t head p due = rearranged s head p due queue fresh in
    let before : Rises (due_of t) (queue_at s head) = Rises-same (due_of s) (due_of t) (queue_at s head) r.same (Rises-from (due_of s) (queue_at s head) order) in
    ap (with_number (due_of t) tick) r.queue
    ∙ with_number-insert (due_of t) due p tick (queue_at s head) r.own before
    ∙ ap (λ z. z ++ cond (eqb due tick) (p ∷ []) []) (sym (with_number-same (due_of s) (due_of t) tick (queue_at s head) r.same))
