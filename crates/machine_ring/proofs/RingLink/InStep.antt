-- The two ends stay in step, whatever happens.
use Rattle.std.proofs.Common.{◌≡◌, ℕ, suc, ◌+◌, ◌<◌, ◌≤◌, Bool, true, false, cond, eqb, ltb, Option, Some, None, List, [], ◌∷◌, ◌++◌, length, take, drop, refl, sym, ap, ◌∙◌, arith, add-one, eqb→eq, length-append}
use Rattle.std.specs.Prelude.{slice_get}
use Rattle.std.proofs.lemmas.Bool.{and_parts, ltb-true}
use Rattle.std.proofs.lemmas.List.{drop-append-le, length-take, take-append-drop, take-append-le}
use Rattle.std.proofs.lemmas.Option.{slice_get_within}
use Rattle.machine_ring.specs.RingLink.Receivers.{is_taken}
use Rattle.machine_ring.specs.RingLink.Senders.{Sender, sender_by, sent_by}
use Rattle.machine_ring.specs.RingLink.Transfers.{Event, IsPrefix, Transfer, after_acknowledgement, after_data, after_event, after_events, new_transfer, sent_after, transfer_after}
use Rattle.machine_ring.specs.RingLink.Transfers.Event.{Acknowledgement, Data, Offer, Turn}
use Rattle.machine_ring.proofs.RingLink.ListPlaces.{Each, drop-one, each-cons, slice_get-append, slice_get-drop, take-suc}

-- a byte that was sent is the offered one with its number, and of those before it all are acknowledged
pub record IsOffered (acknowledged : ℕ) (offered : List ℕ) (numbered : ℕ × ℕ) : Type 0 where
  -- its number is at most the count of those
  pub low : numbered.0 ≤ acknowledged
  -- it is in that place
  pub byte : slice_get offered numbered.0 ≡ Some numbered.1

-- what holds from the beginning on
pub record IsInStep (t : Transfer) : Type 0 where
  -- what is not acknowledged waits
  pub waiting : t.waiting ≡ drop t.sender.acknowledged t.offered
  -- what is counted is delivered
  pub delivered : t.delivered ≡ take t.received t.offered
  -- no more is counted than was offered
  pub within : t.received ≤ length t.offered
  -- what is acknowledged is counted
  pub least : t.sender.acknowledged ≤ t.received
  -- the receiver is at most one ahead
  pub most : t.received ≤ t.sender.acknowledged + 1
  -- the outstanding byte is the first that waits
  pub outstanding : (byte : ℕ) → t.sender.outstanding ≡ Some byte → slice_get t.offered t.sender.acknowledged ≡ Some byte
  -- only offered bytes were sent
  pub sent : Each (IsOffered t.sender.acknowledged t.offered) t.sent
  -- only counts that the receiver had were sent
  pub acknowledgements : Each (λ count. count ≤ t.received) t.acknowledgements

-- ---- each event

after_offer : (t : Transfer) (byte : ℕ) → IsInStep t → IsInStep (after_event t (Offer byte))
after_offer t byte h =
    let least = h.least in
    let within = h.within in
    record {
      waiting = ap (λ l. l ++ byte ∷ []) h.waiting ∙ sym (drop-append-le t.sender.acknowledged t.offered (byte ∷ []) (omega arith));
      delivered = h.delivered ∙ sym (take-append-le t.received t.offered (byte ∷ []) within);
      within = omega (arith, length-append t.offered (byte ∷ []));
      least = least;
      most = h.most;
      outstanding = λ b e. slice_get-append t.offered (byte ∷ []) t.sender.acknowledged b (h.outstanding b e);
      sent = λ k x e. let s = h.sent k x e in record { low = s.low; byte = slice_get-append t.offered (byte ∷ []) x.0 x.1 s.byte };
      acknowledgements = h.acknowledgements;
    }

module _ (t : Transfer) (h : IsInStep t) where
  -- a byte that waits first is sent or not, and is the one that is outstanding
  sent_or_not : (byte : ℕ) → slice_get t.offered t.sender.acknowledged ≡ Some byte → (quiet : Bool)
      → Each (IsOffered t.sender.acknowledged t.offered) (sent_after (cond quiet None (Some (t.sender.acknowledged, byte))) t.sent)
  sent_or_not byte first true = h.sent
  sent_or_not byte first false = each-cons (IsOffered t.sender.acknowledged t.offered) (t.sender.acknowledged, byte) t.sent (record { low = omega arith; byte = first }) h.sent

  after_sending : (s : Sender) → s.acknowledged ≡ t.sender.acknowledged → (byte : ℕ) → slice_get t.offered t.sender.acknowledged ≡ Some byte
      → s.outstanding ≡ Some byte → (quiet : Bool)
      → IsInStep (record t { sender = s; sent = sent_after (cond quiet None (Some (t.sender.acknowledged, byte))) t.sent })
  after_sending s same byte first out quiet = record {
    waiting = rw same h.waiting;
    delivered = h.delivered;
    within = h.within;
    least = rw same h.least;
    most = rw same h.most;
    outstanding = λ b e. let is : byte ≡ b = cc (out, e) in rw (same, ← is) first;
    sent = rw same (sent_or_not byte first quiet);
    acknowledgements = h.acknowledgements;
  }

  after_turn : (wait : ℕ) (outstanding first : Option ℕ) → t.sender.outstanding ≡ outstanding → slice_get t.waiting 0 ≡ first
      → IsInStep (record t { sender = sender_by outstanding first t.sender wait; sent = sent_after (sent_by outstanding first t.sender wait) t.sent })
  after_turn wait (Some byte) first e f =
      after_sending (sender_by (Some byte) first t.sender wait) refl byte (h.outstanding byte e) e (ltb (t.sender.timer + 1) wait)
  after_turn wait None (Some byte) e f =
      let first = sym (slice_get-drop t.sender.acknowledged t.offered) ∙ (ap (λ l. slice_get l 0) (sym h.waiting) ∙ f) in
      after_sending (sender_by None (Some byte) t.sender wait) refl byte first refl false
  after_turn wait None None e f = h

  -- data comes, and is taken or not
  after_one : (numbered : ℕ × ℕ) → IsOffered t.sender.acknowledged t.offered numbered → (taken : Bool) → (taken ≡ true → numbered.0 ≡ t.received)
      → IsInStep (record t {
        received = cond taken (t.received + 1) t.received;
        delivered = cond taken (t.delivered ++ numbered.1 ∷ []) t.delivered;
        acknowledgements = cond taken (t.received + 1) t.received ∷ t.acknowledgements;
      })
  after_one numbered is false next = record {
    waiting = h.waiting;
    delivered = h.delivered;
    within = h.within;
    least = h.least;
    most = h.most;
    outstanding = h.outstanding;
    sent = h.sent;
    acknowledgements = each-cons (λ count. count ≤ t.received) t.received t.acknowledgements (omega arith) h.acknowledgements;
  }
  after_one numbered is true next =
      let at = next refl in
      let here : slice_get t.offered t.received ≡ Some numbered.1 = rw (← at) is.byte in
      let inside = slice_get_within t.offered t.received numbered.1 here in
      let least = h.least in
      let low = is.low in
      record {
        waiting = h.waiting;
        delivered = rw add-one (ap (λ l. l ++ numbered.1 ∷ []) h.delivered ∙ sym (take-suc t.received t.offered numbered.1 here));
        within = omega arith;
        least = omega arith;
        most = omega arith;
        outstanding = h.outstanding;
        sent = h.sent;
        acknowledgements =
            each-cons (λ count. count ≤ t.received + 1) (t.received + 1) t.acknowledgements (omega arith)
            (λ k count e. let l = h.acknowledgements k count e in omega arith);
      }

  taken_next : (number : ℕ) (room : Bool) → is_taken t.received number room ≡ true → number ≡ t.received
  taken_next number room e = eqb→eq number t.received (rw (and_parts (eqb number t.received) room e).0 tt)

  after_any_data : (room : Bool) (o : Option (ℕ × ℕ)) → ((x : ℕ × ℕ) → o ≡ Some x → IsOffered t.sender.acknowledged t.offered x) → IsInStep (after_data t room o)
  after_any_data room None is = h
  after_any_data room (Some numbered) is = after_one numbered (is numbered refl) (is_taken t.received numbered.0 room) (taken_next numbered.0 room)

  -- an acknowledgement comes, and is a new one or not
  after_count : (count : ℕ) → count ≤ t.received → (new : Bool) → ltb t.sender.acknowledged count ≡ new
      → IsInStep (record t {
        sender = cond new (record t.sender { acknowledged = count; outstanding = None }) t.sender;
        waiting = cond new (drop 1 t.waiting) t.waiting;
      })
  after_count count low false e = h
  after_count count low true e =
      let more : t.sender.acknowledged < count = ltb-true t.sender.acknowledged count e in
      let most = h.most in
      let is : count ≡ suc t.sender.acknowledged = omega arith in
      record {
        waiting = ap (λ l. drop 1 l) h.waiting ∙ (drop-one t.sender.acknowledged t.offered ∙ ap (λ n. drop n t.offered) (sym is));
        delivered = h.delivered;
        within = h.within;
        least = low;
        most = omega arith;
        outstanding = λ b f. cc f;
        sent = λ k x f. let s = h.sent k x f in record { low = let l = s.low in omega arith; byte = s.byte };
        acknowledgements = h.acknowledgements;
      }

  after_any_count : (o : Option ℕ) → ((count : ℕ) → o ≡ Some count → count ≤ t.received) → IsInStep (after_acknowledgement t o)
  after_any_count None is = h
  after_any_count (Some count) is = after_count count (is count refl) (ltb t.sender.acknowledged count) refl

  in_step-event : (event : Event) → IsInStep (after_event t event)
  in_step-event (Offer byte) = after_offer t byte h
  in_step-event (Turn wait) = after_turn wait t.sender.outstanding (slice_get t.waiting 0) refl refl
  in_step-event (Data place room) = after_any_data room (slice_get t.sent place) (h.sent place)
  in_step-event (Acknowledgement place) = after_any_count (slice_get t.acknowledgements place) (h.acknowledgements place)

-- ---- all of them

in_step-events : (events : List Event) (t : Transfer) → IsInStep t → IsInStep (after_events t events)
in_step-events [] t h = h
in_step-events (event ∷ events) t h = in_step-events events (after_event t event) (in_step-event t h event)

in_step-new : IsInStep new_transfer
in_step-new = record {
  waiting = refl;
  delivered = refl;
  within = omega arith;
  least = omega arith;
  most = omega arith;
  outstanding = λ b e. cc e;
  sent = λ k x e. cc e;
  acknowledgements = λ k count e. cc e;
}

pub in_step : (events : List Event) → IsInStep (transfer_after events)
in_step events = in_step-events events new_transfer in_step-new

-- ---- what follows of the delivered bytes

pub delivered-prefix : (events : List Event) → IsPrefix (transfer_after events).delivered (transfer_after events).offered
delivered-prefix events =
    let t = transfer_after events in
    let h = in_step events in
    (drop t.received t.offered, ap (λ l. l ++ drop t.received t.offered) h.delivered ∙ take-append-drop t.received t.offered)

pub length-delivered : (events : List Event) → length (transfer_after events).delivered ≡ (transfer_after events).received
length-delivered events =
    let t = transfer_after events in
    let h = in_step events in
    let within = h.within in
    ap length h.delivered ∙ omega (arith, length-take t.received t.offered)
