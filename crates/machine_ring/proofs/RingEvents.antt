-- What happens in the rounds of a ring are events that may happen between two ends.
use Rattle.std.proofs.Common.{None, Option, Some, ◌≡◌, ℕ, zero, suc, ◌+◌, ◌≤◌, Bool, true, false, cond, List, [], ◌++◌, drop, length, refl, sym, ap, ◌∙◌, subst, arith}
use Rattle.std.specs.Prelude.{is_some, slice_get}
use Rattle.std.proofs.lemmas.List.{append-nil}
use Rattle.std.proofs.lemmas.List.Elements.{All-nil}
use Rattle.machine_ring.specs.RingLink.Senders.{Sender}
use Rattle.machine_ring.specs.RingLink.Transfers.{Event, IsPrefix, Transfer, after_events, new_transfer, transfer_after}
use Rattle.machine_ring.proofs.RingLink.InStep.{IsInStep, delivered-prefix, in_step, length-delivered}
use Rattle.machine_ring.proofs.RingLink.ListPlaces.{slice_get-drop}
use Rattle.tripos_machine.specs.State.{State, stop_of}
use Rattle.tripos_machine.specs.Step.{step}
use Rattle.machine_ring.specs.Links.{carried, carries_back, listed}
use Rattle.machine_ring.specs.Rings.{Left, Ring, first_ring}
use Rattle.machine_ring.specs.RoundEvents.{IsTransferOf}
use Rattle.machine_ring.specs.Rounds.{Rounded, after_answer, after_step, byte_in, first_of, has_room, left_steps, offered_by, round, stepped, with_step}
use Rattle.machine_ring.specs.Runs.{and_then, no_rounds, run}
use Rattle.machine_ring.specs.declared.terms.Terms.{Terms}
use Rattle.machine_ring.proofs.CarriedEvents.{Happens, IsBetween, happens-carried, happens-offers, happens-then, nothing-happens}

-- ---- a round

-- the left machine's bytes wait once they were offered
offered-wait : (most : ℕ) (x : Left) → x.waiting ++ offered_by most x ≡ (after_step most x).waiting
offered-wait most x = on (left_steps most x)
  where
    on : (b : Bool) → x.waiting ++ cond b (step x.state).bytes [] ≡ (cond b (with_step x) x).waiting
    on true = refl
    on false = append-nil x.waiting

-- and the first waits no longer once it is acknowledged
answered-wait : (b : Bool) (x : Left) → cond b (drop 1 x.waiting) x.waiting ≡ (after_answer b x).waiting
answered-wait true x = refl
answered-wait false x = refl

module _ (t : Transfer) (r : Ring) (h : IsBetween t r.link r.left.waiting) where
  happens-round : Happens t (round r).ring.link (round r).ring.left.waiting (round r).offered (round r).delivered
  unfolding round
  happens-round =
      let bytes = offered_by r.link.terms.left_steps r.left in
      let one = subst (λ w. Happens t r.link w bytes []) (offered-wait r.link.terms.left_steps r.left) (happens-offers bytes t r.link r.left.waiting h) in
      let room = has_room r.right in
      let next = happens-carried (after_events t one.events) r.link (stepped r).waiting one.between room in
      let both = happens-then t r.link (stepped r).waiting bytes [] one (carried (first_of r) room r.link) _ [] (listed (byte_in r)) next in
      subst (λ l. Happens t (carried (first_of r) room r.link) (after_answer (carries_back (first_of r) room r.link) (stepped r)).waiting l (listed (byte_in r))) (append-nil bytes)
      (subst (λ w. Happens t (carried (first_of r) room r.link) w (bytes ++ []) (listed (byte_in r))) (answered-wait (carries_back (first_of r) room r.link) (stepped r)) both)

-- ---- all of them

abbrev HappenIn : Transfer → Rounded → Type 0
HappenIn t x = Happens t x.ring.link x.ring.left.waiting x.offered x.delivered

-- there are some, or none
some-or-none : (t : Transfer) (r : Ring) (x : Rounded) → IsBetween t r.link r.left.waiting → HappenIn t x → (b : Bool) → HappenIn t (cond b (no_rounds r) x)
some-or-none t r x h happens true = nothing-happens t r.link r.left.waiting h
some-or-none t r x h happens false = happens

happens-run : (n : ℕ) (t : Transfer) (r : Ring) → IsBetween t r.link r.left.waiting → HappenIn t (run n r)
unfolding run
happens-run zero t r h = nothing-happens t r.link r.left.waiting h
happens-run (suc n) t r h =
    let one = happens-round t r h in
    let s : Ring = (round r).ring in
    let rest = happens-run n (after_events t one.events) s one.between in
    let all = happens-then t s.link s.left.waiting (round r).offered (round r).delivered one _ _ _ _ rest in
    some-or-none t r (and_then (round r) (run n)) h all (is_some (stop_of r.right))

-- ---- from the beginning

module _ (n : ℕ) (terms : Terms) (left right : State) where
  abbrev x : Rounded
  x = run n (first_ring terms left right)

  happens : Happens new_transfer x.ring.link x.ring.left.waiting x.offered x.delivered
  happens =
      happens-run n new_transfer (first_ring terms left right)
      (record { waiting = refl; sender = refl; received = refl; packets = All-nil _; counts = All-nil _ })

  transfer-of : IsTransferOf (transfer_after happens.events) x
  transfer-of = record {
    offered = happens.offered;
    delivered = happens.delivered;
    waiting = happens.between.waiting;
    sender = happens.between.sender;
    received = happens.between.received;
  }

  pub rounds-events : (events : List Event) × IsTransferOf (transfer_after events) x
  rounds-events = (happens.events, transfer-of)

  pub rounds-prefix : IsPrefix x.delivered x.offered
  rounds-prefix =
      let p = delivered-prefix happens.events in
      (p.0, sym (ap (λ l. l ++ p.0) transfer-of.delivered) ∙ p.1 ∙ transfer-of.offered)

  pub rounds-count : length x.delivered ≡ x.ring.link.received
  rounds-count = sym (ap length transfer-of.delivered) ∙ length-delivered happens.events ∙ transfer-of.received

  pub rounds-acknowledged : x.ring.link.sender.acknowledged ≤ x.ring.link.received
  rounds-acknowledged =
      let h = (in_step happens.events).least in
      omega (arith, h, ap (λ (s : Sender). s.acknowledged) transfer-of.sender, transfer-of.received)

  pub rounds-ahead : x.ring.link.received ≤ x.ring.link.sender.acknowledged + 1
  rounds-ahead =
      let h = (in_step happens.events).most in
      omega (arith, h, ap (λ (s : Sender). s.acknowledged) transfer-of.sender, transfer-of.received)

  pub rounds-waiting : x.ring.left.waiting ≡ drop x.ring.link.sender.acknowledged x.offered
  rounds-waiting =
      sym transfer-of.waiting ∙ (in_step happens.events).waiting
      ∙ (λ i. drop (transfer-of.sender i).acknowledged (transfer-of.offered i))

  pub rounds-outstanding : x.ring.left.waiting ≡ [] → x.ring.link.sender.outstanding ≡ None
  rounds-outstanding empty = on x.ring.link.sender.outstanding refl
    where
      h : IsInStep (transfer_after happens.events)
      h = in_step happens.events

      on : (o : Option ℕ) → x.ring.link.sender.outstanding ≡ o → x.ring.link.sender.outstanding ≡ None
      on None is = is
      on (Some byte) is =
          let a = (transfer_after happens.events).sender.acknowledged in
          let first = h.outstanding byte (ap (λ (s : Sender). s.outstanding) transfer-of.sender ∙ is) in
          let none = ap (λ l. slice_get l 0) (sym (transfer-of.waiting ∙ empty) ∙ h.waiting) ∙ slice_get-drop a (transfer_after happens.events).offered ∙ first in
          cc none
