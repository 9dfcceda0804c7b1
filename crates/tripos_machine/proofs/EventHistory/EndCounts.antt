-- An event that takes or dequeues a packet is the end of one acceptance.
use Rattle.std.proofs.Common.{◌≡◌, ℕ, ℤ, suc, ◌+◌, ◌<◌, ◌≤◌, ◌||◌, Bool, true, false, cond, eqb, leb, List, [], ◌∷◌, ◌++◌, drop, length, map, refl, sym, ap, ◌∙◌, subst, arith, eq-eqb, ne_eqb}
use Rattle.std.specs.List.{count_by, list_any}
use Rattle.std.proofs.lemmas.List.Recursion.{is_count_by}
use Rattle.word_store.proofs.Counts.{hit-same}
use Rattle.kernel_lists.specs.LinkedList.Places.{insert_after, without_first}
use Rattle.kernel_lists.specs.declared.packet_queue.events.KernelEvent.{KernelEvent}
use Rattle.kernel_lists.specs.declared.packet_queue.events.KernelEvent.TheVariants.{Accepted, Taken, Dequeued, Runs}
use Rattle.tripos_machine.specs.EventHistory.Acceptances.{Acceptance, accepted_by, accepted_in, accepted_on, at_start, has_later_events, from_end, is_end, leaves}
use Rattle.tripos_machine.specs.EventHistory.Ledger.{AreOnce, Entry, Follows, IsFirst, Ledger, May, Timed, after_event, arrived, clock, count_of, entry_on, events_of, is_on_queue, same_queue}
use Rattle.tripos_machine.proofs.EventHistory.Ends.{EndsOf, dequeue-ends, take-ends}
use Rattle.tripos_machine.proofs.EventHistory.Following.{elsewhere, first-on-queue, once-after}
use Rattle.tripos_machine.proofs.EventHistory.Packets.{none-counted, none-on-queue, some-counted}
use Rattle.tripos_machine.proofs.EventHistory.Queues.{not-same, queue-ways, same-self}

short-end : (p : ℕ) (es : List KernelEvent) → length (from_end p es) ≤ length es
short-end p [] = omega arith
short-end p (e ∷ es) = on (is_end p e) (short-end p es)
  where
    on : (b : Bool) → length (from_end p es) ≤ length es → length (cond b (e ∷ es) (from_end p es)) ≤ suc (length es)
    on true more = omega arith
    on false more = omega (arith, more)

events-length : (xs : List Timed) → length (events_of xs) ≡ length xs
events-length [] = refl
events-length (x ∷ xs) = ap suc (events-length xs)

module _ (n : ℕ) where
  abbrev one_if : Bool → ℕ
  one_if b = cond b 1 0

  -- how many of them end before the last n events
  abbrev ending : List Acceptance → ℕ
  ending [] = 0
  ending (z ∷ zs) = one_if (has_later_events n z) + ending zs

  ending-append : (xs ys : List Acceptance) → ending (xs ++ ys) ≡ ending xs + ending ys
  ending-append [] ys = omega arith
  ending-append (x ∷ xs) ys = omega (arith, ending-append xs ys)

  ending-counted : (zs : List Acceptance) → ending zs ≡ count_by (has_later_events n) zs
  ending-counted = is_count_by ending (has_later_events n) refl (λ z zs. on (has_later_events n z) (ending zs))
    where
      on : (b : Bool) (k : ℕ) → one_if b + k ≡ cond b (1 + k) k
      on true k = refl
      on false k = omega arith

  -- those of a queue, before these events
  abbrev starting : List KernelEvent → List Entry → ℕ
  starting es ys = ending (map (at_start es) ys)

  -- ---- too late

  too-late : (es : List KernelEvent) (y : Entry) → length es ≤ n → has_later_events n (at_start es y) ≡ false
  too-late es y few = ne_eqb (length (from_end y.packet es)) (suc n) (λ e. absurd (omega (arith, e, few, short-end y.packet es)))

  late-start : (es : List KernelEvent) (ys : List Entry) → length es ≤ n → starting es ys ≡ 0
  late-start es [] few = refl
  late-start es (y ∷ ys) few = omega (arith, ap one_if (too-late es y few), late-start es ys few)

  late-event : (q : ℤ) (e : KernelEvent) (due : ℕ) (es : List KernelEvent) → length es ≤ n → ending (accepted_by q e due es) ≡ 0
  late-event q (Accepted r p s) due es few = on (same_queue r q)
    where
      on : (b : Bool) → ending (cond b (at_start es (entry_on r p s due) ∷ []) []) ≡ 0
      on true = late-start es (entry_on r p s due ∷ []) few
      on false = refl
  late-event q (Taken r p s) due es few = refl
  late-event q (Dequeued r p) due es few = refl
  late-event q (Runs t) due es few = refl

  late-accepted : (q : ℤ) (xs : List Timed) → length xs ≤ suc n → ending (accepted_in q xs) ≡ 0
  late-accepted q [] few = refl
  late-accepted q (x ∷ xs) few =
      let now : length (events_of xs) ≤ n = omega (arith, few, events-length xs) in
      omega (arith, ending-append (accepted_by q x.event x.due (events_of xs)) (accepted_in q xs), late-event q x.event x.due (events_of xs) now, late-accepted q xs (omega (arith, few)))

  -- ---- just now

  now-of : (p : ℕ) (e : KernelEvent) (es : List KernelEvent) (ys : List Entry) → EndsOf p e → length es ≡ n → starting (e ∷ es) ys ≡ count_of p ys
  now-of p e es [] of is = refl
  now-of p e es (y ∷ ys) of is = λ i. on (eqb p y.packet) (of.end y.packet) i + now-of p e es ys of is i
    where
      on : (b : Bool) → is_end y.packet e ≡ b → one_if (has_later_events n (at_start (e ∷ es) y)) ≡ one_if b
      on true end = ap (λ c. one_if (eqb (length (cond c (e ∷ es) (from_end y.packet es))) (suc n))) end ∙ ap one_if (eq-eqb (suc (length es)) (suc n) (ap suc is))
      on false end = ap (λ c. one_if (eqb (length (cond c (e ∷ es) (from_end y.packet es))) (suc n))) end ∙ ap one_if (too-late es y (omega (arith, is)))

  now-none : (e : KernelEvent) (es : List KernelEvent) (ys : List Entry) → ((r : ℕ) → is_end r e ≡ false) → length es ≡ n → starting (e ∷ es) ys ≡ 0
  now-none e es [] no_end is = refl
  now-none e es (y ∷ ys) no_end is =
      omega (
        arith,
        ap (λ c. one_if (eqb (length (cond c (e ∷ es) (from_end y.packet es))) (suc n))) (no_end y.packet),
        ap one_if (too-late es y (omega (arith, is))),
        now-none e es ys no_end is,
      )

  -- a packet that leaves a queue stood there once
  leaves-once : (b : Ledger) (q r : ℤ) (p : ℕ) → AreOnce b → is_on_queue p (b r) ≡ true → count_of p (b q) ≡ one_if (same_queue r q)
  leaves-once b q r p once here =
      queue-ways (λ c. count_of p (b q) ≡ one_if c) r q
      (λ is. omega (arith, once.once q p, some-counted p (b q) (subst (λ z. is_on_queue p (b z) ≡ true) is here)))
      (λ other. none-counted p (b q) (elsewhere b once p r q here (not-same r q other)))

  now-leaves : (e : KernelEvent) (es : List KernelEvent) (b : Ledger) (q : ℤ) → AreOnce b → May e b → length es ≡ n → starting (e ∷ es) (b q) ≡ one_if (leaves q e)
  now-leaves (Accepted r p s) es b q once may is = now-none (Accepted r p s) es (b q) (λ z. refl) is
  now-leaves (Taken r p s) es b q once may is = now-of p (Taken r p s) es (b q) (take-ends r p s) is ∙ leaves-once b q r p once (first-on-queue p s (b r) may)
  now-leaves (Dequeued r p) es b q once may is = now-of p (Dequeued r p) es (b q) (dequeue-ends r p) is ∙ leaves-once b q r p once may
  now-leaves (Runs t) es b q once may is = now-none (Runs t) es (b q) (λ z. refl) is

  -- ---- later

  later-same : (e : KernelEvent) (es : List KernelEvent) (ys : List Entry) → ((r : ℕ) → is_end r e ≡ false) → starting (e ∷ es) ys ≡ starting es ys
  later-same e es [] no_end = refl
  later-same e es (y ∷ ys) no_end = λ i. one_if (eqb (length (cond (no_end y.packet i) (e ∷ es) (from_end y.packet es))) (suc n)) + later-same e es ys no_end i

  module _ (p : ℕ) (e : KernelEvent) (es : List KernelEvent) (of : EndsOf p e) (far : n < length es) where
    other-later : (y : Entry) → eqb p y.packet ≡ false → has_later_events n (at_start (e ∷ es) y) ≡ has_later_events n (at_start es y)
    other-later y other = ap (λ c. eqb (length (cond c (e ∷ es) (from_end y.packet es))) (suc n)) (of.end y.packet ∙ other)

    this-now : (y : Entry) → eqb p y.packet ≡ true → has_later_events n (at_start (e ∷ es) y) ≡ false
    this-now y is = ap (λ c. eqb (length (cond c (e ∷ es) (from_end y.packet es))) (suc n)) (of.end y.packet ∙ is) ∙ ne_eqb (suc (length es)) (suc n) (λ k. absurd (omega (arith, k, far)))

    later-other : (ys : List Entry) → is_on_queue p ys ≡ false → starting (e ∷ es) ys ≡ starting es ys
    later-other [] none = refl
    later-other (y ∷ ys) none = on (eqb p y.packet) refl none (later-other ys)
      where
        on : (b : Bool) → eqb p y.packet ≡ b → (b || is_on_queue p ys) ≡ false → (is_on_queue p ys ≡ false → starting (e ∷ es) ys ≡ starting es ys) → starting (e ∷ es) (y ∷ ys) ≡ starting es (y ∷ ys)
        on true is none more = cc
        on false is none more = λ i. one_if (other-later y is i) + more none i

    later-without : (ys : List Entry) → count_of p ys ≤ 1 → starting (e ∷ es) ys ≡ starting es (without_first (λ y. eqb p y.packet) ys)
    later-without [] once = refl
    later-without (y ∷ ys) once = on (eqb p y.packet) refl once (later-without ys)
      where
        on : (b : Bool) → eqb p y.packet ≡ b → cond b 1 0 + count_of p ys ≤ 1 → (count_of p ys ≤ 1 → starting (e ∷ es) ys ≡ starting es (without_first (λ y. eqb p y.packet) ys))
            → starting (e ∷ es) (y ∷ ys) ≡ starting es (cond b ys (y ∷ without_first (λ y. eqb p y.packet) ys))
        on true is once more = omega (arith, ap one_if (this-now y is), later-other ys (none-on-queue p ys (omega (arith, once))))
        on false is once more = λ i. one_if (other-later y is i) + more (omega (arith, once)) i

    later-rest : (s : ℤ) (ys : List Entry) → IsFirst p s ys → count_of p ys ≤ 1 → starting (e ∷ es) ys ≡ starting es (drop 1 ys)
    later-rest s [] first once = absurd first
    later-rest s (y ∷ ys) first once =
        omega (arith, ap one_if (this-now y (eq-eqb p y.packet (sym first.0))), later-other ys (none-on-queue p ys (omega (arith, once, hit-same p y.packet (sym first.0)))))

  later-arrived : (q : ℤ) (x : Entry) (es : List KernelEvent) (ys : List Entry) → starting es (arrived q x ys) ≡ starting es ys + starting es (x ∷ [])
  later-arrived q x es ys = on (same_queue q clock)
    where
      at-end : (zs : List Entry) → starting es (zs ++ x ∷ []) ≡ starting es zs + starting es (x ∷ [])
      at-end [] = omega arith
      at-end (z ∷ zs) = omega (arith, at-end zs)

      inserted : (zs : List Entry) → starting es (insert_after (λ e. leb e.due x.due) x zs) ≡ starting es zs + starting es (x ∷ [])
      inserted [] = omega arith
      inserted (z ∷ zs) = by (list_any (λ e. leb e.due x.due) (z ∷ zs)) (inserted zs)
        where
          by : (b : Bool) → starting es (insert_after (λ e. leb e.due x.due) x zs) ≡ starting es zs + starting es (x ∷ [])
              → starting es (cond b (z ∷ insert_after (λ e. leb e.due x.due) x zs) (x ∷ z ∷ zs)) ≡ starting es (z ∷ zs) + starting es (x ∷ [])
          by true more = omega (arith, more)
          by false more = omega arith

      on : (b : Bool) → starting es (cond b (insert_after (λ e. leb e.due x.due) x ys) (ys ++ x ∷ [])) ≡ starting es ys + starting es (x ∷ [])
      on true = inserted ys
      on false = at-end ys

  -- what ends behind an event ended behind its queues
  later-leaves : (e : KernelEvent) (due : ℕ) (es : List KernelEvent) (b : Ledger) (q : ℤ) → AreOnce b → May e b → n < length es
      → starting (e ∷ es) (b q) + ending (accepted_by q e due es) ≡ starting es (after_event e due b q)
  later-leaves (Accepted r p s) due es b q once may far =
      let x : Entry = entry_on r p s due in
      queue-ways (λ c. starting (Accepted r p s ∷ es) (b q) + ending (cond c (at_start es x ∷ []) []) ≡ starting es (after_event (Accepted r p s) due b q)) r q
      (λ is.
      ap (λ k. k + starting es (x ∷ [])) (later-same (Accepted r p s) es (b q) (λ z. refl)) ∙ sym (later-arrived r x es (b q))
      ∙ (λ i. starting es (arrived r x (b (sym is i)))) ∙ sym (ap (λ c. starting es (cond c (arrived r x (b r)) (b q))) (ap (same_queue q) is ∙ same-self q)))
      (λ other.
      omega (arith, later-same (Accepted r p s) es (b q) (λ z. refl), ap (λ c. starting es (cond c (arrived r x (b r)) (b q))) (not-same r q other)))
  later-leaves (Taken r p s) due es b q once may far =
      queue-ways (λ c. starting (Taken r p s ∷ es) (b q) + 0 ≡ starting es (cond c (drop 1 (b r)) (b q))) q r
      (λ is. omega (arith, later-rest p (Taken r p s) es (take-ends r p s) far s (b q) (subst (λ z. IsFirst p s (b z)) (sym is) may) (once.once q p), ap (λ z. starting es (drop 1 (b z))) is))
      (λ other. omega (arith, later-other p (Taken r p s) es (take-ends r p s) far (b q) (elsewhere b once p r q (first-on-queue p s (b r) may) other)))
  later-leaves (Dequeued r p) due es b q once may far =
      queue-ways (λ c. starting (Dequeued r p ∷ es) (b q) + 0 ≡ starting es (cond c (without_first (λ y. eqb p y.packet) (b r)) (b q))) q r
      (λ is. omega (arith, later-without p (Dequeued r p) es (dequeue-ends r p) far (b q) (once.once q p), ap (λ z. starting es (without_first (λ y. eqb p y.packet) (b z))) is))
      (λ other. omega (arith, later-other p (Dequeued r p) es (dequeue-ends r p) far (b q) (elsewhere b once p r q may other)))
  later-leaves (Runs t) due es b q once may far = omega (arith, later-same (Runs t) es (b q) (λ z. refl))

-- ---- all events

cut-length : (front : List Timed) (x : Timed) (back : List Timed) → length back < length (front ++ x ∷ back)
cut-length [] x back = omega arith
cut-length (z ∷ zs) x back = omega (arith, cut-length zs x back)

module _ (x : Timed) (back : List Timed) where
  cut-ending : (front : List Timed) (b a : Ledger) (q : ℤ) → AreOnce b → Follows (front ++ x ∷ back) b a
      → starting (length back) (events_of (front ++ x ∷ back)) (b q) + ending (length back) (accepted_in q (front ++ x ∷ back)) ≡ cond (leaves q x.event) 1 0
  cut-ending [] b a q once f =
      omega (
        arith,
        now-leaves (length back) x.event (events_of back) b q once f.0 (events-length back),
        late-accepted (length back) q (x ∷ back) (omega arith),
      )
  cut-ending (z ∷ zs) b a q once f =
      let n : ℕ = length back in
      let rest : List Timed = zs ++ x ∷ back in
      let es : List KernelEvent = events_of rest in
      omega (
        arith,
        ending-append n (accepted_by q z.event z.due es) (accepted_in q rest),
        later-leaves n z.event z.due es b q once f.0 (omega (arith, cut-length zs x back, events-length rest)),
        cut-ending zs (after_event z.event z.due b) a q (once-after z.event z.due b once f.0) f.1,
      )

pub ended-once : (xs front : List Timed) (x : Timed) (back : List Timed) (b a : Ledger) → AreOnce b → Follows xs b a → xs ≡ front ++ x ∷ back
    → (q : ℤ) → count_by (has_later_events (length back)) (accepted_on q b xs) ≡ cond (leaves q x.event) 1 0
ended-once xs front x back b a once f is q =
    let n : ℕ = length back in
    subst (λ zs. count_by (has_later_events n) (accepted_on q b zs) ≡ cond (leaves q x.event) 1 0) (sym is)
    (sym (ending-counted n (accepted_on q b (front ++ x ∷ back)))
    ∙ ending-append n (map (at_start (events_of (front ++ x ∷ back))) (b q)) (accepted_in q (front ++ x ∷ back))
    ∙ cut-ending x back front b a q once (subst (λ zs. Follows zs b a) is f))
