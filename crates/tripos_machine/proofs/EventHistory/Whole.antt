-- The whole history of queues.
use Rattle.std.proofs.Common.{◌≡◌, ℕ, ℤ, ◌&&◌, not, Bool, true, false, cond, eqb, List, [], ◌∷◌, ◌++◌, filter, map, Option, Some, None, refl, sym, ap, ◌∙◌}
use Rattle.kernel_lists.specs.declared.packet_queue.events.KernelEvent.{KernelEvent}
use Rattle.kernel_lists.specs.declared.packet_queue.events.KernelEvent.TheVariants.{Accepted, Taken, Dequeued, Runs}
use Rattle.tripos_machine.specs.EventHistory.Acceptances.{Acceptance, accepted_by, accepted_in, accepted_on, at_start, end_of, is_dequeued, is_open, pair_of, taken_by, taken_from}
use Rattle.tripos_machine.specs.EventHistory.Ledger.{AreOnce, Entry, Follows, Ledger, NeverFall, Timed, clock, entry_on, events_of, same_queue}
use Rattle.tripos_machine.specs.EventHistory.QueueHistory.{QueueHistory, due_at, entries_of, not_dequeued, of_packet, open_ones, pairs_of}
use Rattle.tripos_machine.proofs.EventHistory.Arrivals.{comes-again, comes-due, comes-last}
use Rattle.tripos_machine.proofs.EventHistory.DueTicks.{follows-falls}
use Rattle.tripos_machine.proofs.EventHistory.EndCounts.{ended-once}
use Rattle.tripos_machine.proofs.EventHistory.Ends.{acceptances-ended, end_in}
use Rattle.tripos_machine.proofs.EventHistory.Following.{follows-once}
use Rattle.tripos_machine.proofs.EventHistory.Kept.{all-kept, counts, kept, kept_by, kept_in, taken_in, taken_now}

-- ---- acceptances that count

module _ (t : Bool) (h : Entry → Bool) where
  abbrev counted : Acceptance → Bool
  counted x = h x.entry && counts t (end_of x)

  abbrev chosen : List Acceptance → List (ℕ × ℤ)
  chosen zs = map (λ x. pair_of x.entry) (filter counted zs)

  chosen-append : (xs ys : List Acceptance) → chosen (xs ++ ys) ≡ chosen xs ++ chosen ys
  chosen-append [] ys = refl
  chosen-append (x ∷ xs) ys = on (counted x) (chosen-append xs ys)
    where
      on : (b : Bool) → chosen (xs ++ ys) ≡ chosen xs ++ chosen ys
          → map (λ x. pair_of x.entry) (cond b (x ∷ filter counted (xs ++ ys)) (filter counted (xs ++ ys))) ≡ map (λ x. pair_of x.entry) (cond b (x ∷ filter counted xs) (filter counted xs)) ++ chosen ys
      on true more = ap (λ z. pair_of x.entry ∷ z) more
      on false more = more

  kept-start : (es : List KernelEvent) (ys : List Entry) → kept t h es ys ≡ chosen (map (at_start es) ys)
  kept-start es [] = refl
  kept-start es (y ∷ ys) = on (h y && counts t (end_in y.packet es)) (kept-start es ys)
    where
      on : (b : Bool) → kept t h es ys ≡ chosen (map (at_start es) ys)
          → cond b (pair_of y ∷ kept t h es ys) (kept t h es ys) ≡ map (λ x. pair_of x.entry) (cond b (at_start es y ∷ filter counted (map (at_start es) ys)) (filter counted (map (at_start es) ys)))
      on true more = ap (λ z. pair_of y ∷ z) more
      on false more = more

  kept-by : (q : ℤ) (e : KernelEvent) (due : ℕ) (es : List KernelEvent) → kept_by t h q e due es ≡ chosen (accepted_by q e due es)
  kept-by q (Accepted r p s) due es = on (same_queue r q)
    where
      on : (b : Bool) → cond b (kept t h es (entry_on r p s due ∷ [])) [] ≡ chosen (cond b (record { entry = entry_on r p s due; later = es } ∷ []) [])
      on true = kept-start es (entry_on r p s due ∷ [])
      on false = refl
  kept-by q (Taken r p s) due es = refl
  kept-by q (Dequeued r p) due es = refl
  kept-by q (Runs n) due es = refl

  kept-in : (q : ℤ) (xs : List Timed) → kept_in t h q xs ≡ chosen (accepted_in q xs)
  kept-in q [] = refl
  kept-in q (x ∷ xs) = (λ i. kept-by q x.event x.due (events_of xs) i ++ kept-in q xs i) ∙ sym (chosen-append (accepted_by q x.event x.due (events_of xs)) (accepted_in q xs))

  kept-all : (q : ℤ) (b : Ledger) (xs : List Timed) → kept t h (events_of xs) (b q) ++ kept_in t h q xs ≡ chosen (accepted_on q b xs)
  kept-all q b xs = (λ i. kept-start (events_of xs) (b q) i ++ kept-in q xs i) ∙ sym (chosen-append (map (at_start (events_of xs)) (b q)) (accepted_in q xs))

-- ---- as the law has them

abbrev any_entry : Entry → Bool
any_entry e = true

all-pass : (ys : List Entry) → filter any_entry ys ≡ ys
all-pass [] = refl
all-pass (y ∷ ys) = ap (λ z. y ∷ z) (all-pass ys)

open-is : (o : Option KernelEvent) → counts false o ≡ is_open o
open-is None = refl
open-is (Some (Accepted q p s)) = refl
open-is (Some (Taken q p s)) = refl
open-is (Some (Dequeued q p)) = refl
open-is (Some (Runs n)) = refl

not-dequeued-is : (o : Option KernelEvent) → counts true o ≡ not (is_dequeued o)
not-dequeued-is None = refl
not-dequeued-is (Some (Accepted q p s)) = refl
not-dequeued-is (Some (Taken q p s)) = refl
not-dequeued-is (Some (Dequeued q p)) = refl
not-dequeued-is (Some (Runs n)) = refl

chosen-open : (h : Entry → Bool) (zs : List Acceptance) → chosen false h zs ≡ map pair_of (filter h (entries_of (open_ones zs)))
chosen-open h [] = refl
chosen-open h (z ∷ zs) = ap (λ c. map (λ x. pair_of x.entry) (cond (h z.entry && c) (z ∷ filter (counted false h) zs) (filter (counted false h) zs))) (open-is (end_of z)) ∙ on (is_open (end_of z)) (h z.entry) refl (chosen-open h zs)
  where
    on : (b c : Bool) → h z.entry ≡ c → chosen false h zs ≡ map pair_of (filter h (entries_of (open_ones zs)))
        → map (λ x. pair_of x.entry) (cond (c && b) (z ∷ filter (counted false h) zs) (filter (counted false h) zs)) ≡ map pair_of (filter h (entries_of (cond b (z ∷ open_ones zs) (open_ones zs))))
    on true true is more = (λ i. pair_of z.entry ∷ more i) ∙ sym (ap (λ d. map pair_of (cond d (z.entry ∷ filter h (entries_of (open_ones zs))) (filter h (entries_of (open_ones zs))))) is)
    on true false is more = more ∙ sym (ap (λ d. map pair_of (cond d (z.entry ∷ filter h (entries_of (open_ones zs))) (filter h (entries_of (open_ones zs))))) is)
    on false true is more = more
    on false false is more = more

chosen-not_dequeued : (zs : List Acceptance) → chosen true any_entry zs ≡ pairs_of (not_dequeued zs)
chosen-not_dequeued [] = refl
chosen-not_dequeued (z ∷ zs) =
    ap (λ c. map (λ x. pair_of x.entry) (cond c (z ∷ filter (counted true any_entry) zs) (filter (counted true any_entry) zs))) (not-dequeued-is (end_of z)) ∙ on (not (is_dequeued (end_of z))) (chosen-not_dequeued zs)
  where
    on : (b : Bool) → chosen true any_entry zs ≡ pairs_of (not_dequeued zs)
        → map (λ x. pair_of x.entry) (cond b (z ∷ filter (counted true any_entry) zs) (filter (counted true any_entry) zs)) ≡ pairs_of (cond b (z ∷ not_dequeued zs) (not_dequeued zs))
    on true more = ap (λ w. pair_of z.entry ∷ w) more
    on false more = more

taken-all : (h : Entry → Bool) (q : ℤ) (xs : List Timed) → taken_in true h q xs ≡ taken_from q (events_of xs)
taken-all h q [] = refl
taken-all h q (x ∷ xs) = λ i. now x.event i ++ taken-all h q xs i
  where
    now : (e : KernelEvent) → taken_now true h q e ≡ taken_by q e
    now (Accepted r p s) = refl
    now (Taken r p s) = refl
    now (Dequeued r p) = refl
    now (Runs n) = refl

taken-none : (h : Entry → Bool) (q : ℤ) (xs : List Timed) → taken_in false h q xs ≡ []
taken-none h q [] = refl
taken-none h q (x ∷ xs) = λ i. now x.event i ++ taken-none h q xs i
  where
    now : (e : KernelEvent) → taken_now false h q e ≡ []
    now (Accepted r p s) = refl
    now (Taken r p s) = refl
    now (Dequeued r p) = refl
    now (Runs n) = refl

-- ---- the law

not-taken : false ≡ true → (y : Entry) → ⊥
not-taken e y = cc

pub whole-history : (xs : List Timed) (b a : Ledger) → AreOnce b → NeverFall (b clock) → Follows xs b a → QueueHistory b xs a
whole-history xs b a once falls f =
    record {
      ends = λ q. acceptances-ended xs b a q once f;
      ended = λ front x back is q. ended-once xs front x back b a once f is q;
      left = λ q p.
          sym (ap (λ z. z ++ map pair_of (of_packet p (a q))) (taken-none (λ e. eqb p e.packet) q xs))
          ∙ all-kept false (λ e. eqb p e.packet) q (λ e. absurd (not-taken e none)) (comes-again false p q) xs b a once f ∙ kept-all false (λ e. eqb p e.packet) q b xs
          ∙ chosen-open (λ e. eqb p e.packet) (accepted_on q b xs);
      once = follows-once xs b a once f;
      order = λ q other.
          (λ i. sym (taken-all any_entry q xs) i ++ map pair_of (sym (all-pass (a q)) i))
          ∙ all-kept true any_entry q (λ e y. refl) (comes-last true any_entry q other) xs b a once f ∙ kept-all true any_entry q b xs ∙ chosen-not_dequeued (accepted_on q b xs);
      due = λ tick.
          sym (ap (λ z. z ++ map pair_of (due_at tick (a clock))) (taken-none (λ e. eqb e.due tick) clock xs))
          ∙ all-kept false (λ e. eqb e.due tick) clock (λ e. absurd (not-taken e none)) (comes-due false tick) xs b a once f ∙ kept-all false (λ e. eqb e.due tick) clock b xs
          ∙ chosen-open (λ e. eqb e.due tick) (accepted_on clock b xs);
      falls = follows-falls xs b a falls f;
    }
  where
    none : Entry
    none = record { packet = 0; sender = clock; due = 0 }
