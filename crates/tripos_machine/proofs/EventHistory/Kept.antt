-- The packets that are accepted on a queue, in order, are those that are taken and then those that are left, but for those that are
-- dequeued. Where those that are taken do not count either, the rest are left.
use Rattle.std.proofs.Common.{◌≡◌, ℕ, ℤ, ◌+◌, ◌≤◌, ◌&&◌, ◌||◌, Bool, true, false, cond, eqb, List, [], ◌∷◌, ◌++◌, append-nil, drop, filter, map, Option, Some, None, refl, sym, ap, ◌∙◌, subst, arith, eqb-true}
use Rattle.std.proofs.lemmas.List.{append_assoc}
use Rattle.std.proofs.Math.Bool.{and-false}
use Rattle.word_store.proofs.Counts.{hit-same}
use Rattle.kernel_lists.specs.LinkedList.Places.{without_first}
use Rattle.kernel_lists.specs.declared.packet_queue.events.KernelEvent.{KernelEvent}
use Rattle.kernel_lists.specs.declared.packet_queue.events.KernelEvent.TheVariants.{Accepted, Taken, Dequeued, Runs}
use Rattle.tripos_machine.specs.EventHistory.Acceptances.{is_end, pair_of}
use Rattle.tripos_machine.specs.EventHistory.Ledger.{AreOnce, Entry, Follows, IsFirst, Ledger, May, Timed, after_event, arrived, count_of, entry_on, events_of, is_on_queue, same_queue}
use Rattle.tripos_machine.proofs.EventHistory.Ends.{EndsOf, dequeue-ends, end-other, end-this, end_in, take-ends}
use Rattle.tripos_machine.proofs.EventHistory.Following.{elsewhere, first-on-queue, once-after}
use Rattle.tripos_machine.proofs.EventHistory.Packets.{none-on-queue}
use Rattle.tripos_machine.proofs.EventHistory.Queues.{not-same, queue-ways, same-self}

-- whether an acceptance with such an end counts; t says whether one does that is taken
abbrev pub counts : Bool → Option KernelEvent → Bool
counts t None = true
counts t (Some (Accepted q p s)) = t
counts t (Some (Taken q p s)) = t
counts t (Some (Dequeued q p)) = false
counts t (Some (Runs n)) = t

module _ (t : Bool) (h : Entry → Bool) where
  -- the pairs of those that count, of which h is asked besides, where these events come
  abbrev pub kept : List KernelEvent → List Entry → List (ℕ × ℤ)
  kept es [] = []
  kept es (y ∷ ys) = cond (h y && counts t (end_in y.packet es)) (pair_of y ∷ kept es ys) (kept es ys)

  abbrev pub kept_by : ℤ → KernelEvent → ℕ → List KernelEvent → List (ℕ × ℤ)
  kept_by q (Accepted r p s) due es = cond (same_queue r q) (kept es (entry_on r p s due ∷ [])) []
  kept_by q (Taken r p s) due es = []
  kept_by q (Dequeued r p) due es = []
  kept_by q (Runs n) due es = []

  abbrev pub kept_in : ℤ → List Timed → List (ℕ × ℤ)
  kept_in q [] = []
  kept_in q (x ∷ xs) = kept_by q x.event x.due (events_of xs) ++ kept_in q xs

  abbrev pub taken_now : ℤ → KernelEvent → List (ℕ × ℤ)
  taken_now q (Accepted r p s) = []
  taken_now q (Taken r p s) = cond (t && same_queue r q) ((p, s) ∷ []) []
  taken_now q (Dequeued r p) = []
  taken_now q (Runs n) = []

  abbrev pub taken_in : ℤ → List Timed → List (ℕ × ℤ)
  taken_in q [] = []
  taken_in q (x ∷ xs) = taken_now q x.event ++ taken_in q xs

  -- ---- lists

  pub kept-append : (es : List KernelEvent) (xs ys : List Entry) → kept es (xs ++ ys) ≡ kept es xs ++ kept es ys
  kept-append es [] ys = refl
  kept-append es (x ∷ xs) ys = on (h x && counts t (end_in x.packet es)) (kept-append es xs ys)
    where
      on : (b : Bool) → kept es (xs ++ ys) ≡ kept es xs ++ kept es ys → cond b (pair_of x ∷ kept es (xs ++ ys)) (kept es (xs ++ ys)) ≡ cond b (pair_of x ∷ kept es xs) (kept es xs) ++ kept es ys
      on true more = ap (λ z. pair_of x ∷ z) more
      on false more = more

  -- an event that is no end changes nothing, nor does the end of another packet
  kept-same : (e : KernelEvent) → ((r : ℕ) → is_end r e ≡ false) → (es : List KernelEvent) (ys : List Entry) → kept (e ∷ es) ys ≡ kept es ys
  kept-same e no_end es [] = refl
  kept-same e no_end es (y ∷ ys) =
      λ i. cond (h y && counts t (cond (no_end y.packet i) (Some e) (end_in y.packet es))) (pair_of y ∷ kept-same e no_end es ys i) (kept-same e no_end es ys i)

  kept-other : (p : ℕ) (e : KernelEvent) (es : List KernelEvent) (ys : List Entry) → EndsOf p e → is_on_queue p ys ≡ false → kept (e ∷ es) ys ≡ kept es ys
  kept-other p e es [] of none = refl
  kept-other p e es (y ∷ ys) of none = on (eqb p y.packet) refl none (kept-other p e es ys of)
    where
      on : (b : Bool) → eqb p y.packet ≡ b → (b || is_on_queue p ys) ≡ false → (is_on_queue p ys ≡ false → kept (e ∷ es) ys ≡ kept es ys) → kept (e ∷ es) (y ∷ ys) ≡ kept es (y ∷ ys)
      on true is none more = cc
      on false is none more = λ i. cond (h y && counts t (end-other p e es of y.packet is i)) (pair_of y ∷ more none i) (more none i)

  kept-none : (ys : List Entry) → kept [] ys ≡ map pair_of (filter h ys)
  kept-none [] = refl
  kept-none (y ∷ ys) = on (h y) (kept-none ys)
    where
      on : (b : Bool) → kept [] ys ≡ map pair_of (filter h ys) → cond (b && true) (pair_of y ∷ kept [] ys) (kept [] ys) ≡ map pair_of (cond b (y ∷ filter h ys) (filter h ys))
      on true more = ap (λ z. pair_of y ∷ z) more
      on false more = more

  -- ---- one event

  module _ (q : ℤ) (all : t ≡ true → (y : Entry) → h y ≡ true) (comes : (x : Entry) (es : List KernelEvent) (ys : List Entry) → is_on_queue x.packet ys ≡ false → kept es (arrived q x ys) ≡ kept es ys ++ kept es (x ∷ [])) where
    kept-taken : (p : ℕ) (s : ℤ) (es : List KernelEvent) (ys : List Entry) → IsFirst p s ys → count_of p ys ≤ 1
        → cond (t && true) ((p, s) ∷ []) [] ++ kept es (drop 1 ys) ≡ kept (Taken q p s ∷ es) ys
    kept-taken p s es [] first once = absurd first
    kept-taken p s es (y ∷ ys) first once =
        on t refl (h y) refl (end-this p (Taken q p s) es (take-ends q p s) y.packet (sym first.0))
        (kept-other p (Taken q p s) es ys (take-ends q p s) (none-on-queue p ys (omega (arith, once, hit-same p y.packet (sym first.0)))))
      where
        on : (c : Bool) → t ≡ c → (d : Bool) → h y ≡ d → end_in y.packet (Taken q p s ∷ es) ≡ Some (Taken q p s) → kept (Taken q p s ∷ es) ys ≡ kept es ys
            → cond (t && true) ((p, s) ∷ []) [] ++ kept es ys ≡ kept (Taken q p s ∷ es) (y ∷ ys)
        on true is true here next rest =
            ap (λ c. cond (c && true) ((p, s) ∷ []) [] ++ kept es ys) is
            ∙ (λ i. (sym first.0 i, sym first.1 i) ∷ sym rest i)
            ∙ sym (λ i. cond (here i && counts (is i) (next i)) (pair_of y ∷ kept (Taken q p s ∷ es) ys) (kept (Taken q p s ∷ es) ys))
        on true is false here next rest = absurd (clash (sym (all is y) ∙ here))
          where
            clash : true ≡ false → ⊥
            clash e = cc
        on false is true here next rest =
            ap (λ c. cond (c && true) ((p, s) ∷ []) [] ++ kept es ys) is ∙ sym rest
            ∙ sym (λ i. cond (here i && counts (is i) (next i)) (pair_of y ∷ kept (Taken q p s ∷ es) ys) (kept (Taken q p s ∷ es) ys))
        on false is false here next rest =
            ap (λ c. cond (c && true) ((p, s) ∷ []) [] ++ kept es ys) is ∙ sym rest
            ∙ sym (λ i. cond (here i && counts (is i) (next i)) (pair_of y ∷ kept (Taken q p s ∷ es) ys) (kept (Taken q p s ∷ es) ys))

    kept-dequeued : (r : ℤ) (p : ℕ) (es : List KernelEvent) (ys : List Entry) → count_of p ys ≤ 1 → kept es (without_first (λ y. eqb p y.packet) ys) ≡ kept (Dequeued r p ∷ es) ys
    kept-dequeued r p es [] once = refl
    kept-dequeued r p es (y ∷ ys) once = on (eqb p y.packet) refl once (kept-dequeued r p es ys)
      where
        none : (d : Bool) → cond (d && false) (pair_of y ∷ kept (Dequeued r p ∷ es) ys) (kept (Dequeued r p ∷ es) ys) ≡ kept (Dequeued r p ∷ es) ys
        none true = refl
        none false = refl

        on : (b : Bool) → eqb p y.packet ≡ b → cond b 1 0 + count_of p ys ≤ 1 → (count_of p ys ≤ 1 → kept es (without_first (λ y. eqb p y.packet) ys) ≡ kept (Dequeued r p ∷ es) ys)
            → kept es (cond b ys (y ∷ without_first (λ y. eqb p y.packet) ys)) ≡ kept (Dequeued r p ∷ es) (y ∷ ys)
        on true is once more =
            sym (kept-other p (Dequeued r p) es ys (dequeue-ends r p) (none-on-queue p ys (omega (arith, once)))) ∙ sym (none (h y))
            ∙ sym (ap (λ o. cond (h y && counts t o) (pair_of y ∷ kept (Dequeued r p ∷ es) ys) (kept (Dequeued r p ∷ es) ys)) (end-this p (Dequeued r p) es (dequeue-ends r p) y.packet (eqb-true p y.packet is)))
        on false is once more =
            let rest : kept es (without_first (λ y. eqb p y.packet) ys) ≡ kept (Dequeued r p ∷ es) ys = more (omega (arith, once)) in
            let next : end_in y.packet (Dequeued r p ∷ es) ≡ end_in y.packet es = end-other p (Dequeued r p) es (dequeue-ends r p) y.packet is in
            λ i. cond (h y && counts t (sym next i)) (pair_of y ∷ rest i) (rest i)

    abbrev Stays : KernelEvent → ℕ → List KernelEvent → Ledger → Type 0
    Stays e due es b = taken_now q e ++ kept es (after_event e due b q) ≡ kept (e ∷ es) (b q) ++ kept_by q e due es

    stays : (e : KernelEvent) (due : ℕ) (es : List KernelEvent) (b : Ledger) → AreOnce b → May e b → Stays e due es b
    stays (Accepted r p s) due es b once may =
        let x : Entry = entry_on r p s due in
        let same : kept (Accepted r p s ∷ es) (b q) ≡ kept es (b q) = kept-same (Accepted r p s) (λ z. refl) es (b q) in
        queue-ways (λ c. kept es (after_event (Accepted r p s) due b q) ≡ kept (Accepted r p s ∷ es) (b q) ++ cond c (kept es (x ∷ [])) []) r q
        (λ is.
        ap (kept es) (ap (λ c. cond c (arrived r x (b r)) (b q)) (ap (same_queue q) is ∙ same-self q) ∙ (λ i. arrived (is i) x (b (is i)))) ∙ comes x es (b q) (may q)
        ∙ ap (λ z. z ++ kept es (x ∷ [])) (sym same))
        (λ other. ap (kept es) (ap (λ c. cond c (arrived r x (b r)) (b q)) (not-same r q other)) ∙ sym same ∙ sym (append-nil (kept (Accepted r p s ∷ es) (b q))))
    stays (Taken r p s) due es b once may =
        queue-ways (λ c. cond (t && c) ((p, s) ∷ []) [] ++ kept es (after_event (Taken r p s) due b q) ≡ kept (Taken r p s ∷ es) (b q) ++ []) r q
        (λ is.
        ap (λ z. cond (t && true) ((p, s) ∷ []) [] ++ kept es z) (ap (λ c. cond c (drop 1 (b r)) (b q)) (ap (same_queue q) is ∙ same-self q) ∙ ap (λ z. drop 1 (b z)) is)
        ∙ kept-taken p s es (b q) (subst (λ z. IsFirst p s (b z)) is may) (once.once q p) ∙ (λ i. kept (Taken (sym is i) p s ∷ es) (b q)) ∙ sym (append-nil (kept (Taken r p s ∷ es) (b q))))
        (λ other.
        (λ i. cond (and-false t i) ((p, s) ∷ []) [] ++ kept es (after_event (Taken r p s) due b q))
        ∙ ap (kept es) (ap (λ c. cond c (drop 1 (b r)) (b q)) (not-same r q other))
        ∙ sym (kept-other p (Taken r p s) es (b q) (take-ends r p s) (elsewhere b once p r q (first-on-queue p s (b r) may) (not-same r q other)))
        ∙ sym (append-nil (kept (Taken r p s ∷ es) (b q))))
    stays (Dequeued r p) due es b once may =
        queue-ways (λ c. kept es (cond c (without_first (λ y. eqb p y.packet) (b r)) (b q)) ≡ kept (Dequeued r p ∷ es) (b q) ++ []) q r
        (λ is.
        ap (λ z. kept es (without_first (λ y. eqb p y.packet) (b z))) (sym is) ∙ kept-dequeued r p es (b q) (once.once q p) ∙ sym (append-nil (kept (Dequeued r p ∷ es) (b q))))
        (λ other.
        sym (kept-other p (Dequeued r p) es (b q) (dequeue-ends r p) (elsewhere b once p r q may other)) ∙ sym (append-nil (kept (Dequeued r p ∷ es) (b q))))
    stays (Runs n) due es b once may = sym (kept-same (Runs n) (λ z. refl) es (b q)) ∙ sym (append-nil (kept (Runs n ∷ es) (b q)))

    -- ---- all events

    pub all-kept : (xs : List Timed) (b a : Ledger) → AreOnce b → Follows xs b a → taken_in q xs ++ map pair_of (filter h (a q)) ≡ kept (events_of xs) (b q) ++ kept_in q xs
    all-kept [] b a once f = ap (λ z. map pair_of (filter h (z q))) (sym f) ∙ sym (kept-none (b q)) ∙ sym (append-nil (kept [] (b q)))
    all-kept (x ∷ xs) b a once f =
        let c : Ledger = after_event x.event x.due b in
        let left : List (ℕ × ℤ) = map pair_of (filter h (a q)) in
        let es : List KernelEvent = events_of xs in
        append_assoc (taken_now q x.event) (taken_in q xs) left ∙ ap (λ z. taken_now q x.event ++ z) (all-kept xs c a (once-after x.event x.due b once f.0) f.1)
        ∙ sym (append_assoc (taken_now q x.event) (kept es (c q)) (kept_in q xs)) ∙ ap (λ z. z ++ kept_in q xs) (stays x.event x.due es b once f.0)
        ∙ append_assoc (kept (x.event ∷ es) (b q)) (kept_by q x.event x.due es) (kept_in q xs)
