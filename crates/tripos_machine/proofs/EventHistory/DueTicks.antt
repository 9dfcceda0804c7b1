-- Due ticks never fall along the clock's queue.
use Rattle.std.proofs.Common.{◌≡◌, ℕ, ◌≤◌, ◌||◌, Bool, true, false, cond, eqb, leb, List, [], ◌∷◌, drop, subst, arith, leb-true, refl}
use Rattle.std.specs.List.{AllByRecursion, list_any}
use Rattle.std.proofs.lemmas.Bool.{leb-false}
use Rattle.kernel_lists.specs.LinkedList.Places.{insert_after, without_first}
use Rattle.kernel_lists.specs.declared.packet_queue.events.KernelEvent.{KernelEvent}
use Rattle.kernel_lists.specs.declared.packet_queue.events.KernelEvent.TheVariants.{Accepted, Taken, Dequeued, Runs}
use Rattle.tripos_machine.specs.EventHistory.Ledger.{Entry, Follows, Ledger, NeverFall, Timed, after_event, arrived, clock, entry_on}
use Rattle.tripos_machine.proofs.EventHistory.Queues.{queue-ways}
use Rattle.kernel_calls.proofs.PacketCalls.DueOrder.{later}

-- ---- one comes, or goes

module _ (d : ℕ) where
  high-insert : (f : Entry → Bool) (x : Entry) (ys : List Entry) → d ≤ x.due → AllByRecursion (λ y. d ≤ y.due) ys → AllByRecursion (λ y. d ≤ y.due) (insert_after f x ys)
  high-insert f x [] low all = (low, tt)
  high-insert f x (y ∷ ys) low all = on (list_any f (y ∷ ys)) (high-insert f x ys low all.1)
    where
      on : (b : Bool) → AllByRecursion (λ y. d ≤ y.due) (insert_after f x ys) → AllByRecursion (λ y. d ≤ y.due) (cond b (y ∷ insert_after f x ys) (x ∷ y ∷ ys))
      on true more = (all.0, more)
      on false more = (low, all)

  high-without : (f : Entry → Bool) (ys : List Entry) → AllByRecursion (λ y. d ≤ y.due) ys → AllByRecursion (λ y. d ≤ y.due) (without_first f ys)
  high-without f [] all = tt
  high-without f (y ∷ ys) all = on (f y) (high-without f ys all.1)
    where
      on : (b : Bool) → AllByRecursion (λ y. d ≤ y.due) (without_first f ys) → AllByRecursion (λ y. d ≤ y.due) (cond b ys (y ∷ without_first f ys))
      on true more = all.1
      on false more = (all.0, more)

-- some packet is due no later than x, and none is due before d, so neither is x
found-low : (x : Entry) (d : ℕ) (ys : List Entry) → list_any (λ e. leb e.due x.due) ys ≡ true → AllByRecursion (λ y. d ≤ y.due) ys → d ≤ x.due
found-low x d [] some all = cc
found-low x d (y ∷ ys) some all = on (leb y.due x.due) refl some (λ s. found-low x d ys s all.1)
  where
    on : (b : Bool) → leb y.due x.due ≡ b → (b || list_any (λ e. leb e.due x.due) ys) ≡ true → (list_any (λ e. leb e.due x.due) ys ≡ true → d ≤ x.due) → d ≤ x.due
    on true is some more = omega (arith, all.0, leb-true y.due x.due is)
    on false is some more = more some

none-low : (x : Entry) (ys : List Entry) → list_any (λ e. leb e.due x.due) ys ≡ false → AllByRecursion (λ y. x.due ≤ y.due) ys
none-low x [] none = tt
none-low x (y ∷ ys) none = on (leb y.due x.due) refl none (none-low x ys)
  where
    on : (b : Bool) → leb y.due x.due ≡ b → (b || list_any (λ e. leb e.due x.due) ys) ≡ false → (list_any (λ e. leb e.due x.due) ys ≡ false → AllByRecursion (λ y. x.due ≤ y.due) ys) → AllByRecursion (λ y. x.due ≤ y.due) (y ∷ ys)
    on true is none more = cc
    on false is none more = (later y.due x.due is, more none)

falls-insert : (x : Entry) (ys : List Entry) → NeverFall ys → NeverFall (insert_after (λ e. leb e.due x.due) x ys)
falls-insert x [] h = (tt, tt)
falls-insert x (y ∷ ys) h = on (list_any (λ e. leb e.due x.due) (y ∷ ys)) refl (falls-insert x ys h.1)
  where
    on : (b : Bool) → list_any (λ e. leb e.due x.due) (y ∷ ys) ≡ b → NeverFall (insert_after (λ e. leb e.due x.due) x ys)
        → NeverFall (cond b (y ∷ insert_after (λ e. leb e.due x.due) x ys) (x ∷ y ∷ ys))
    on true some more = (high-insert y.due (λ e. leb e.due x.due) x ys (found-low x y.due (y ∷ ys) some (omega arith, h.0)) h.0, more)
    on false none more = (none-low x (y ∷ ys) none, h)

falls-without : (f : Entry → Bool) (ys : List Entry) → NeverFall ys → NeverFall (without_first f ys)
falls-without f [] h = tt
falls-without f (y ∷ ys) h = on (f y) (falls-without f ys h.1)
  where
    on : (b : Bool) → NeverFall (without_first f ys) → NeverFall (cond b ys (y ∷ without_first f ys))
    on true more = h.1
    on false more = (high-without y.due f ys h.0, more)

falls-rest : (ys : List Entry) → NeverFall ys → NeverFall (drop 1 ys)
falls-rest [] h = tt
falls-rest (y ∷ ys) h = h.1

falls-after : (e : KernelEvent) (due : ℕ) (b : Ledger) → NeverFall (b clock) → NeverFall (after_event e due b clock)
falls-after (Accepted r p s) due b h =
    queue-ways (λ c. NeverFall (cond c (arrived r (entry_on r p s due) (b r)) (b clock))) clock r
    (λ is. subst (λ z. NeverFall (arrived z (entry_on z p s due) (b z))) is (falls-insert (entry_on clock p s due) (b clock) h)) (λ other. h)
falls-after (Taken r p s) due b h =
    queue-ways (λ c. NeverFall (cond c (drop 1 (b r)) (b clock))) clock r (λ is. subst (λ z. NeverFall (drop 1 (b z))) is (falls-rest (b clock) h)) (λ other. h)
falls-after (Dequeued r p) due b h =
    queue-ways (λ c. NeverFall (cond c (without_first (λ e. eqb p e.packet) (b r)) (b clock))) clock r
    (λ is. subst (λ z. NeverFall (without_first (λ e. eqb p e.packet) (b z))) is (falls-without (λ e. eqb p e.packet) (b clock) h)) (λ other. h)
falls-after (Runs t) due b h = h

pub follows-falls : (xs : List Timed) (b a : Ledger) → NeverFall (b clock) → Follows xs b a → NeverFall (a clock)
follows-falls [] b a h f = subst (λ z. NeverFall (z clock)) f h
follows-falls (x ∷ xs) b a h f = follows-falls xs (after_event x.event x.due b) a (falls-after x.event x.due b h) f.1
