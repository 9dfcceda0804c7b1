-- How acceptances end.
use Rattle.std.proofs.Common.{◌≡◌, ℕ, ℤ, ◌+◌, ◌≤◌, ◌||◌, Bool, true, false, cond, eqb, leb, List, [], ◌∷◌, ◌++◌, map, drop, find, Option, Some, refl, sym, ap, ◌∙◌, subst, arith, eqb-true, eq-eqb}
use Rattle.std.specs.List.{AllByRecursion, list_any}
use Rattle.word_store.proofs.Counts.{hit-same}
use Rattle.kernel_lists.specs.LinkedList.Places.{insert_after, without_first}
use Rattle.word_store.proofs.Elements.{all-append, all-back, all-front}
use Rattle.kernel_lists.proofs.LinkedList.Places.{IsPlace, place}
use Rattle.kernel_lists.specs.declared.packet_queue.events.KernelEvent.{KernelEvent}
use Rattle.kernel_lists.specs.declared.packet_queue.events.KernelEvent.TheVariants.{Accepted, Taken, Dequeued, Runs}
use Rattle.tripos_machine.specs.EventHistory.Acceptances.{HasEnd, IsEnd, accepted_by, accepted_in, accepted_on, accepts, at_start, before_end, is_end, is_repeated}
use Rattle.tripos_machine.specs.EventHistory.Ledger.{AreOnce, Entry, Follows, IsFirst, Ledger, May, Timed, after_event, arrived, clock, count_of, entry_on, events_of, is_on_queue, same_queue}
use Rattle.tripos_machine.specs.EventHistory.QueueHistory.{IsEnded}
use Rattle.tripos_machine.proofs.EventHistory.Following.{elsewhere, first-on-queue, once-after}
use Rattle.tripos_machine.proofs.EventHistory.Packets.{none-on-queue}
use Rattle.tripos_machine.proofs.EventHistory.Queues.{queue-here, queue-ways}

-- ---- one event, and one packet

-- the end of the packet among these events
abbrev pub end_in : ℕ → List KernelEvent → Option KernelEvent
end_in p es = find (is_end p) es

-- the event takes or dequeues this packet
pub record EndsOf (p : ℕ) (e : KernelEvent) : Type 0 where
  pub end : (r : ℕ) → is_end r e ≡ eqb p r
  pub accepts_none : (r : ℕ) → accepts r e ≡ false

pub take-ends : (q : ℤ) (p : ℕ) (s : ℤ) → EndsOf p (Taken q p s)
take-ends q p s = record { end = λ r. refl; accepts_none = λ r. refl }

pub dequeue-ends : (q : ℤ) (p : ℕ) → EndsOf p (Dequeued q p)
dequeue-ends q p = record { end = λ r. refl; accepts_none = λ r. refl }

module _ (p : ℕ) (e : KernelEvent) (es : List KernelEvent) (of : EndsOf p e) where
  -- another packet has its end later
  pub end-other : (r : ℕ) → eqb p r ≡ false → end_in r (e ∷ es) ≡ end_in r es
  end-other r other = ap (λ b. cond b (Some e) (end_in r es)) (of.end r ∙ other)

  pub end-this : (r : ℕ) → p ≡ r → end_in r (e ∷ es) ≡ Some e
  end-this r is = ap (λ b. cond b (Some e) (end_in r es)) (of.end r ∙ eq-eqb p r is)

  other-ended : (q : ℤ) (y : Entry) → eqb p y.packet ≡ false → IsEnded q (at_start es y) → IsEnded q (at_start (e ∷ es) y)
  other-ended q y other h =
      record {
        once =
            ap (λ b. list_any (accepts y.packet) (cond b [] (e ∷ before_end y.packet es))) (of.end y.packet ∙ other)
            ∙ ap (λ b. b || is_repeated (at_start es y)) (of.accepts_none y.packet) ∙ h.once;
        end = subst (HasEnd q y) (sym (end-other y.packet other)) h.end;
      }

  this-ended : (q : ℤ) (y : Entry) → p ≡ y.packet → IsEnd q y e → IsEnded q (at_start (e ∷ es) y)
  this-ended q y is end =
      record {
        once = ap (λ b. list_any (accepts y.packet) (cond b [] (e ∷ before_end y.packet es))) (of.end y.packet ∙ eq-eqb p y.packet is);
        end = subst (HasEnd q y) (sym (end-this y.packet is)) end;
      }

-- ---- a queue

abbrev AreEnded : ℤ → List KernelEvent → List Entry → Type 0
AreEnded q es ys = AllByRecursion (λ y. IsEnded q (at_start es y)) ys

-- where the packet is not there
others-ended : (q : ℤ) (p : ℕ) (es fs : List KernelEvent) → ((y : Entry) → eqb p y.packet ≡ false → IsEnded q (at_start es y) → IsEnded q (at_start fs y)) → (ys : List Entry) → is_on_queue p ys ≡ false
    → AreEnded q es ys → AreEnded q fs ys
others-ended q p es fs each [] none all = tt
others-ended q p es fs each (y ∷ ys) none all = on (eqb p y.packet) refl none (λ n. others-ended q p es fs each ys n all.1)
  where
    on : (b : Bool) → eqb p y.packet ≡ b → (b || is_on_queue p ys) ≡ false → (is_on_queue p ys ≡ false → AreEnded q fs ys) → AreEnded q fs (y ∷ ys)
    on true is none more = cc
    on false is none more = (each y is all.0, more none)

-- an event that is no end of any packet
accept-ended : (q r : ℤ) (p : ℕ) (s : ℤ) (es : List KernelEvent) (ys : List Entry) → is_on_queue p ys ≡ false → AreEnded q es ys → AreEnded q (Accepted r p s ∷ es) ys
accept-ended q r p s es ys none all = others-ended q p es (Accepted r p s ∷ es) (λ y other h. record { once = ap (λ b. b || is_repeated (at_start es y)) other ∙ h.once; end = h.end }) ys none all

run-ended : (q : ℤ) (t : ℕ) (es : List KernelEvent) (ys : List Entry) → AreEnded q es ys → AreEnded q (Runs t ∷ es) ys
run-ended q t es [] all = tt
run-ended q t es (y ∷ ys) all = (record { once = all.0.once; end = all.0.end }, run-ended q t es ys all.1)

without-arrived : (P : Entry → Type 0) (q : ℤ) (x : Entry) (ys : List Entry) → AllByRecursion P (arrived q x ys) → AllByRecursion P ys
without-arrived P q x ys = on (same_queue q clock)
  where
    on : (b : Bool) → AllByRecursion P (cond b (insert_after (λ e. leb e.due x.due) x ys) (ys ++ x ∷ [])) → AllByRecursion P ys
    on true all =
        let r : IsPlace (λ e. leb e.due x.due) (λ _. 0) 0 x ys = place (λ e. leb e.due x.due) (λ _. 0) 0 x ys in
        let whole : AllByRecursion P (r.front ++ x ∷ r.back) = subst (AllByRecursion P) r.list all in
        subst (AllByRecursion P) (sym r.whole) (all-append P r.front r.back (all-front P r.front (x ∷ r.back) whole) (all-back P r.front (x ∷ r.back) whole).1)
    on false all = all-front P ys (x ∷ []) all

-- a packet that is dequeued has that end, and the others have theirs
dequeued-ended : (q : ℤ) (p : ℕ) (e : KernelEvent) (es : List KernelEvent) (ys : List Entry) → EndsOf p e → ((y : Entry) → IsEnd q y e) → count_of p ys ≤ 1
    → AreEnded q es (without_first (λ y. eqb p y.packet) ys) → AreEnded q (e ∷ es) ys
dequeued-ended q p e es [] of end once all = tt
dequeued-ended q p e es (y ∷ ys) of end once all = on (eqb p y.packet) refl once all (λ o a. dequeued-ended q p e es ys of end o a)
  where
    on : (b : Bool) → eqb p y.packet ≡ b → cond b 1 0 + count_of p ys ≤ 1 → AreEnded q es (cond b ys (y ∷ without_first (λ y. eqb p y.packet) ys))
        → (count_of p ys ≤ 1 → AreEnded q es (without_first (λ y. eqb p y.packet) ys) → AreEnded q (e ∷ es) ys) → AreEnded q (e ∷ es) (y ∷ ys)
    on true is once all more =
        (this-ended p e es of q y (eqb-true p y.packet is) (end y), others-ended q p es (e ∷ es) (other-ended p e es of q) ys (none-on-queue p ys (omega (arith, once))) all)
    on false is once all more = (other-ended p e es of q y is all.0, more (omega (arith, once)) all.1)

-- the first is taken
taken-ended : (q : ℤ) (p : ℕ) (s : ℤ) (es : List KernelEvent) (ys : List Entry) → IsFirst p s ys → count_of p ys ≤ 1 → AreEnded q es (drop 1 ys) → AreEnded q (Taken q p s ∷ es) ys
taken-ended q p s es [] first once all = absurd first
taken-ended q p s es (y ∷ ys) first once all = (
  this-ended p (Taken q p s) es (take-ends q p s) q y (sym first.0) (refl, sym first.1),
  others-ended q p es (Taken q p s ∷ es) (other-ended p (Taken q p s) es (take-ends q p s) q) ys (none-on-queue p ys (omega (arith, once, hit-same p y.packet (sym first.0)))) all,
)

-- ---- one event

step-ended : (e : KernelEvent) (due : ℕ) (b : Ledger) (es : List KernelEvent) (q : ℤ) → AreOnce b → May e b → AreEnded q es (after_event e due b q) → AreEnded q (e ∷ es) (b q)
step-ended (Accepted r p s) due b es q h may =
    queue-ways (λ c. AreEnded q es (cond c (arrived r (entry_on r p s due) (b r)) (b q)) → AreEnded q (Accepted r p s ∷ es) (b q)) q r
    (λ is all.
    accept-ended q r p s es (b q) (may q)
    (subst (λ z. AreEnded q es (b z)) (sym is) (without-arrived (λ y. IsEnded q (at_start es y)) r (entry_on r p s due) (b r) all)))
    (λ other all. accept-ended q r p s es (b q) (may q) all)
step-ended (Taken r p s) due b es q h may =
    queue-ways (λ c. AreEnded q es (cond c (drop 1 (b r)) (b q)) → AreEnded q (Taken r p s ∷ es) (b q)) q r
    (λ is all.
    subst (λ z. AreEnded z (Taken r p s ∷ es) (b z)) (sym is)
    (taken-ended r p s es (b r) may (h.once r p) (subst (λ z. AreEnded z es (drop 1 (b r))) is all)))
    (λ other all.
    others-ended q p es (Taken r p s ∷ es) (other-ended p (Taken r p s) es (take-ends r p s) q) (b q) (elsewhere b h p r q (first-on-queue p s (b r) may) other) all)
step-ended (Dequeued r p) due b es q h may =
    queue-ways (λ c. AreEnded q es (cond c (without_first (λ y. eqb p y.packet) (b r)) (b q)) → AreEnded q (Dequeued r p ∷ es) (b q)) q r
    (λ is all.
    dequeued-ended q p (Dequeued r p) es (b q) (dequeue-ends r p) (λ y. sym is) (h.once q p)
    (subst (λ z. AreEnded q es (without_first (λ y. eqb p y.packet) (b z))) (sym is) all))
    (λ other all. others-ended q p es (Dequeued r p ∷ es) (other-ended p (Dequeued r p) es (dequeue-ends r p) q) (b q) (elsewhere b h p r q may other) all)
step-ended (Runs t) due b es q h may = λ all. run-ended q t es (b q) all

-- ---- all events

no-ends : (q : ℤ) (ys : List Entry) → AreEnded q [] ys
no-ends q [] = tt
no-ends q (y ∷ ys) = (record { once = refl; end = tt }, no-ends q ys)

all-ended : (xs : List Timed) (b a : Ledger) (q : ℤ) → AreOnce b → Follows xs b a → AreEnded q (events_of xs) (b q)
all-ended [] b a q h f = no-ends q (b q)
all-ended (x ∷ xs) b a q h f = step-ended x.event x.due b (events_of xs) q h f.0 (all-ended xs (after_event x.event x.due b) a q (once-after x.event x.due b h f.0) f.1)

-- ---- acceptances

start-ended : (q : ℤ) (es : List KernelEvent) (ys : List Entry) → AreEnded q es ys → AllByRecursion (IsEnded q) (map (at_start es) ys)
start-ended q es [] all = tt
start-ended q es (y ∷ ys) all = (all.0, start-ended q es ys all.1)

-- one that has just come is on its queue
has-come : (P : Entry → Type 0) (q : ℤ) (x : Entry) (ys : List Entry) → AllByRecursion P (arrived q x ys) → P x
has-come P q x ys = on (same_queue q clock)
  where
    on : (b : Bool) → AllByRecursion P (cond b (insert_after (λ e. leb e.due x.due) x ys) (ys ++ x ∷ [])) → P x
    on true all =
        let r : IsPlace (λ e. leb e.due x.due) (λ _. 0) 0 x ys = place (λ e. leb e.due x.due) (λ _. 0) 0 x ys in
        (all-back P r.front (x ∷ r.back) (subst (AllByRecursion P) r.list all)).0
    on false all = (all-back P ys (x ∷ []) all).0

by-event : (q : ℤ) (e : KernelEvent) (due : ℕ) (b : Ledger) (es : List KernelEvent) → ((r : ℤ) → AreEnded r es (after_event e due b r)) → AllByRecursion (IsEnded q) (accepted_by q e due es)
by-event q (Accepted r p s) due b es all =
    queue-ways (λ c. AllByRecursion (IsEnded q) (cond c (record { entry = entry_on r p s due; later = es } ∷ []) [])) r q
    (λ is. (
      subst (λ z. IsEnded z (at_start es (entry_on r p s due))) is
          (has-come (λ y. IsEnded r (at_start es y)) r (entry_on r p s due) (b r) (subst (AreEnded r es) (queue-here r (arrived r (entry_on r p s due) (b r)) b) (all r))),
      tt,
    ))
    (λ other. tt)
by-event q (Taken r p s) due b es all = tt
by-event q (Dequeued r p) due b es all = tt
by-event q (Runs t) due b es all = tt

later-ended : (xs : List Timed) (b a : Ledger) (q : ℤ) → AreOnce b → Follows xs b a → AllByRecursion (IsEnded q) (accepted_in q xs)
later-ended [] b a q h f = tt
later-ended (x ∷ xs) b a q h f =
    let c : Ledger = after_event x.event x.due b in
    let once : AreOnce c = once-after x.event x.due b h f.0 in
    all-append (IsEnded q) (accepted_by q x.event x.due (events_of xs)) (accepted_in q xs)
    (by-event q x.event x.due b (events_of xs) (λ r. all-ended xs c a r once f.1)) (later-ended xs c a q once f.1)

pub acceptances-ended : (xs : List Timed) (b a : Ledger) (q : ℤ) → AreOnce b → Follows xs b a → AllByRecursion (IsEnded q) (accepted_on q b xs)
acceptances-ended xs b a q h f =
    all-append (IsEnded q) (map (at_start (events_of xs)) (b q)) (accepted_in q xs) (start-ended q (events_of xs) (b q) (all-ended xs b a q h f)) (later-ended xs b a q h f)
