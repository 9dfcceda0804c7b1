-- The words of queued packets: links, due ticks, and the others.
use Rattle.std.proofs.Common.{◌≡◌, ℕ, ◌+◌, ◌<◌, ◌≤◌, List, [], ◌∷◌, sym, ap, subst, arith, inl, inr, Bool}
use Rattle.std.proofs.lemmas.Bool.{cases_eq}
use Rattle.word_store.specs.Count.{hit, node_words, times, words_of}
use Rattle.kernel_lists.specs.LinkedList.Chain.{cells, last_cell}
use Rattle.kernel_lists.specs.LinkedList.Places.{cell_after}
use Rattle.word_store.proofs.Counts.{hit-other, hit-same, times-within, times-words_more}
use Rattle.kernel_lists.proofs.LinkedList.Insertion.{times-front_cell}
use Rattle.kernel_lists.proofs.LinkedList.Places.{IsPlace, place}
use Rattle.kernel_lists.specs.PacketQueue.Queue.{HasQueue, link_of, packet_size, queue_at}

-- a packet's link and its due tick are two of its words
pub times-packet : (a p : ℕ) → hit a p + hit a (p + 4) ≤ times a (node_words packet_size p)
times-packet a p =
    elim (cases_eq a p) [
      | inl e ↦ omega (arith, hit-same a p e, hit-other a (p + 4) (λ k. absurd (omega (arith, e, k))), times-within a p 5 (omega arith) (omega arith))
      | inr other ↦
          elim (cases_eq a (p + 4)) [
            | inl e ↦ omega (arith, hit-other a p other, hit-same a (p + 4) e, times-within a p 5 (omega arith) (omega arith))
            | inr k ↦ omega (arith, hit-other a p other, hit-other a (p + 4) k)
          ]
    ]

-- the words that hold due ticks
abbrev pub due_words : List ℕ → List ℕ
due_words [] = []
due_words (p ∷ ps) = (p + 4) ∷ due_words ps

-- those and the cells are apart from one another
times-cells_and_dues : (a at : ℕ) (ps : List ℕ) → times a (cells link_of at ps) + times a (due_words ps) ≤ times a (at ∷ words_of packet_size ps)
times-cells_and_dues a at [] = omega arith
times-cells_and_dues a at (p ∷ ps) =
    omega (arith, times-cells_and_dues a p ps, times-packet a p, times-words_more packet_size a p ps)

due_word-among : (q : ℕ) (ps : List ℕ) → 0 < times q ps → 0 < times (q + 4) (due_words ps)
due_word-among q [] some = absurd (omega (arith, some))
due_word-among q (p ∷ ps) some =
    elim (cases_eq q p) [
      | inl e ↦ omega (arith, hit-same (q + 4) (p + 4) (ap (λ n. n + 4) e))
      | inr ne ↦ omega (arith, due_word-among q ps (omega (arith, hit-other q p ne)))
    ]

-- a queued packet's due tick is in no cell
pub due_word-no_cell : (s : List ℕ) (head q : ℕ) → HasQueue s head → 0 < times q (queue_at s head) → times (q + 4) (cells link_of head (queue_at s head)) ≡ 0
due_word-no_cell s head q queue some =
    omega (arith, queue.apart (q + 4), times-cells_and_dues (q + 4) head (queue_at s head), due_word-among q (queue_at s head) some)

-- and its words are words of the queue
pub words-queued : (a q : ℕ) (ps : List ℕ) → 0 < times q ps → times a (node_words packet_size q) ≤ times a (words_of packet_size ps)
words-queued a q [] some = absurd (omega (arith, some))
words-queued a q (p ∷ ps) some =
    elim (cases_eq q p) [
      | inl e ↦ omega (arith, ap (λ z. times a (node_words packet_size z)) e, times-words_more packet_size a p ps)
      | inr ne ↦ omega (arith, words-queued a q ps (omega (arith, hit-other q p ne)), times-words_more packet_size a p ps)
    ]

-- the cell behind which a packet comes in is one of the cells
pub cell_after-among : (f : ℕ → Bool) (at p : ℕ) (ps : List ℕ) → 0 < times (cell_after f link_of at ps) (cells link_of at ps)
cell_after-among f at p ps =
    let r : IsPlace f link_of at p ps = place f link_of at p ps in
    subst (λ c. 0 < times c (cells link_of at ps)) (sym r.cell)
    (subst (λ z. 0 < times (last_cell link_of at r.front) (cells link_of at z)) (sym r.whole) (times-front_cell link_of at r.front r.back))
