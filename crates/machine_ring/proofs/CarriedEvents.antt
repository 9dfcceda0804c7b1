-- What the link does in a round are events that may happen between two ends.
use Rattle.std.proofs.Common.{◌≡◌, ℕ, suc, ◌+◌, ◌-◌, ◌==◌, ◌||◌, Bool, true, false, cond, Option, Some, None, List, [], ◌∷◌, ◌++◌, length, map, drop, refl, sym, ap, ◌∙◌, subst}
use Rattle.std.specs.Prelude.{nat_lt, slice_get, unwrap_or}
use Rattle.std.specs.List.{All}
use Rattle.std.proofs.lemmas.List.{append-nil, append_assoc}
use Rattle.std.proofs.lemmas.List.Elements.{All-append, All-cons, All-drop, All-get_or, All-nil, All-take, All-weaker}
use Rattle.std.proofs.lemmas.Option.{slice_get_within, unwrap_or-slice_get}
use Rattle.machine_ring.specs.RingLink.Receivers.{count_after, is_taken}
use Rattle.machine_ring.specs.RingLink.Senders.{Sender, is_new_count, sender_after_count, sender_after_turn, sent_in_turn}
use Rattle.machine_ring.specs.RingLink.Transfers.{Event, Transfer, after_acknowledgement, after_data as data_after, after_event, after_events, sent_after}
use Rattle.machine_ring.specs.RingLink.Transfers.Event.{Acknowledgement, Data, Offer, Turn}
use Rattle.machine_ring.specs.Flights.{coming, staying, with_any_packet, with_packet}
use Rattle.machine_ring.specs.Links.{Link, after_count, after_data, after_turn, byte_taken, carried, carried_byte, carries_back, coming_count, coming_data, counts_after, is_new, letter_after, listed, received_after, sender_after_answer, staying_counts, staying_data}

-- ---- packets in flight

module _ {P : Type 0} (Q : P → Type 0) (ps : List P) (all : All Q ps) where
  all-if : (b : Bool) (xs ys : List P) → All Q xs → All Q ys → All Q (cond b xs ys)
  all-if true xs ys one other = one
  all-if false xs ys one other = other

  all-staying : (letter : ℕ) → All Q (staying letter ps)
  all-staying letter =
      all-if ((letter == 68) || (letter == 88)) _ _ (All-drop Q 1 ps all)
      (all-if (letter == 82) _ _ (All-append Q _ _ (All-drop Q 1 ps all) (All-take Q 1 ps all))
      (all-if (letter == 79) _ _ (All-take Q (length ps - 1) ps all) all))

  all-at : (n : ℕ) (p : P) → slice_get ps n ≡ Some p → Q p
  all-at n p is =
      let there = sym (unwrap_or-slice_get ps n p) ∙ ap (λ o. unwrap_or o p) is in
      subst Q there (All-get_or Q ps n p (slice_get_within ps n p is) all)

  one-coming : (a b : Bool) (p : P) → cond a (slice_get ps 0) (cond b (slice_get ps (length ps - 1)) None) ≡ Some p → Q p
  one-coming true b p is = all-at 0 p is
  one-coming false true p is = all-at (length ps - 1) p is
  one-coming false false p is = cc is

  all-coming : (letter : ℕ) (p : P) → coming letter ps ≡ Some p → Q p
  all-coming letter p is = one-coming ((letter == 68) || (letter == 82)) (letter == 79) p is

  all-with : (p : P) → Q p → All Q (with_packet p ps)
  all-with p q = all-if (nat_lt (length ps) 64) _ _ (All-append Q ps (p ∷ []) all (All-cons Q p [] q (All-nil Q))) all

-- it is among what was sent
abbrev WasSent : {P : Type 0} → List P → P → Type 0
WasSent sent p = (place : ℕ) × (slice_get sent place ≡ Some p)

module _ {P : Type 0} (sent : List P) where
  more-sent : (p : P) (ps : List P) → All (WasSent sent) ps → All (WasSent (p ∷ sent)) ps
  more-sent p ps = All-weaker (WasSent sent) (WasSent (p ∷ sent)) (λ x h. (suc h.0, h.1)) ps

  with-sent : (p : P) (ps : List P) → All (WasSent sent) ps → All (WasSent (p ∷ sent)) (with_packet p ps)
  with-sent p ps all = all-with (WasSent (p ∷ sent)) ps (more-sent p ps all) p (0, refl)

with-any : (o : Option (ℕ × ℕ)) (sent ps : List (ℕ × ℕ)) → All (WasSent sent) ps → All (WasSent (sent_after o sent)) (with_any_packet o ps)
with-any None sent ps all = all
with-any (Some p) sent ps all = with-sent sent p ps all

-- ---- the two ends

-- they are those of the link, these bytes wait, and only what was sent is in flight
pub record IsBetween (t : Transfer) (k : Link) (bytes : List ℕ) : Type 0 where
  pub waiting : t.waiting ≡ bytes
  pub sender : t.sender ≡ k.sender
  pub received : t.received ≡ k.received
  pub packets : All (WasSent t.sent) k.packets
  pub counts : All (WasSent t.acknowledgements) k.counts

-- Events lead to this link and these bytes that wait. In them some bytes were offered, and some delivered.
pub record Happens (t : Transfer) (k : Link) (bytes more taken : List ℕ) : Type 0 where
  -- these are the events
  pub events : List Event
  -- they lead there
  pub between : IsBetween (after_events t events) k bytes
  -- the bytes that were offered in them
  pub offered : (after_events t events).offered ≡ t.offered ++ more
  -- those that were delivered
  pub delivered : (after_events t events).delivered ≡ t.delivered ++ taken

events-more : (xs ys : List Event) (t : Transfer) → after_events t (xs ++ ys) ≡ after_events (after_events t xs) ys
events-more [] ys t = refl
events-more (x ∷ xs) ys t = events-more xs ys (after_event t x)

-- nothing happens
pub nothing-happens : (t : Transfer) (k : Link) (waiting : List ℕ) → IsBetween t k waiting → Happens t k waiting [] []
nothing-happens t k waiting h = record { events = []; between = h; offered = sym (append-nil t.offered); delivered = sym (append-nil t.delivered) }

-- one after another
module _ (t : Transfer) (k : Link) (w o d : List ℕ) (one : Happens t k w o d) (j : Link) (v p q : List ℕ) (next : Happens (after_events t one.events) j v p q) where
  pub happens-then : Happens t j v (o ++ p) (d ++ q)
  happens-then =
      let whole = events-more one.events next.events t in
      record {
        events = one.events ++ next.events;
        between = subst (λ (u : Transfer). IsBetween u j v) (sym whole) next.between;
        offered = ap (λ (u : Transfer). u.offered) whole ∙ next.offered ∙ ap (λ l. l ++ p) one.offered ∙ append_assoc t.offered o p;
        delivered = ap (λ (u : Transfer). u.delivered) whole ∙ next.delivered ∙ ap (λ l. l ++ q) one.delivered ∙ append_assoc t.delivered d q;
      }

-- ---- bytes are offered

offered-all : (bytes : List ℕ) (t : Transfer) → after_events t (map Offer bytes) ≡ record t { offered = t.offered ++ bytes; waiting = t.waiting ++ bytes }
offered-all [] t = λ i. record t { offered = sym (append-nil t.offered) i; waiting = sym (append-nil t.waiting) i }
offered-all (b ∷ bs) t =
    offered-all bs (after_event t (Offer b))
    ∙ (λ i. record t { offered = append_assoc t.offered (b ∷ []) bs i; waiting = append_assoc t.waiting (b ∷ []) bs i })

pub happens-offers : (bytes : List ℕ) (t : Transfer) (k : Link) (waiting : List ℕ) → IsBetween t k waiting → Happens t k (waiting ++ bytes) bytes []
happens-offers bytes t k waiting h =
    let is = offered-all bytes t in
    record {
      events = map Offer bytes;
      between = subst (λ (u : Transfer). IsBetween u k (waiting ++ bytes)) (sym is)
          (record { waiting = ap (λ l. l ++ bytes) h.waiting; sender = h.sender; received = h.received; packets = h.packets; counts = h.counts });
      offered = ap (λ (u : Transfer). u.offered) is;
      delivered = ap (λ (u : Transfer). u.delivered) is ∙ sym (append-nil t.delivered);
    }

module _ (t : Transfer) (k : Link) (waiting : List ℕ) (h : IsBetween t k waiting) where
  -- ---- the sender has a turn

  happens-turn : Happens t (after_turn (slice_get waiting 0) k) waiting [] []
  happens-turn =
      let sent : sent_in_turn t.sender (slice_get t.waiting 0) k.terms.wait ≡ sent_in_turn k.sender (slice_get waiting 0) k.terms.wait =
      λ i. sent_in_turn (h.sender i) (slice_get (h.waiting i) 0) k.terms.wait in
      record {
        events = Turn k.terms.wait ∷ [];
        between = record {
          waiting = h.waiting;
          sender = λ i. sender_after_turn (h.sender i) (slice_get (h.waiting i) 0) k.terms.wait;
          received = h.received;
          packets = subst (λ o. All (WasSent (sent_after o t.sent)) (with_any_packet (sent_in_turn k.sender (slice_get waiting 0) k.terms.wait) k.packets)) (sym sent)
              (with-any (sent_in_turn k.sender (slice_get waiting 0) k.terms.wait) t.sent k.packets h.packets);
          counts = h.counts;
        };
        offered = sym (append-nil t.offered);
        delivered = sym (append-nil t.delivered);
      }

  -- ---- data comes

  with-delivered : (b : Bool) (x : ℕ) (xs : List ℕ) → cond b (xs ++ x ∷ []) xs ≡ xs ++ listed (cond b (Some x) None)
  with-delivered true x xs = refl
  with-delivered false x xs = sym (append-nil xs)

  module _ (room : Bool) where
    -- the link once this came
    abbrev link-with : Option (ℕ × ℕ) → Link
    link-with o = record k { packets = staying_data k; received = received_after k.received room o; counts = counts_after k.received room o k.counts }

    left-packets : All (WasSent t.sent) (staying_data k)
    left-packets = all-staying (WasSent t.sent) k.packets h.packets (letter_after k.rounds k.terms.link)

    happens-data-of : (o : Option (ℕ × ℕ)) → coming_data k ≡ o → Happens t (link-with o) waiting [] (listed (byte_taken k.received room o))
    happens-data-of None is =
        nothing-happens t (link-with None) waiting (record { waiting = h.waiting; sender = h.sender; received = h.received; packets = left-packets; counts = h.counts })
    happens-data-of (Some numbered) is =
        let place : WasSent t.sent numbered = all-coming (WasSent t.sent) k.packets h.packets (letter_after k.rounds k.terms.link) numbered is in
        let here : data_after t room (slice_get t.sent place.0) ≡ data_after t room (Some numbered) = ap (data_after t room) place.1 in
        let u : Transfer = data_after t room (Some numbered) in
        let between : IsBetween u (link-with (Some numbered)) waiting = record {
          waiting = h.waiting;
          sender = h.sender;
          received = ap (λ n. count_after n numbered.0 room) h.received;
          packets = left-packets;
          counts = subst (λ n. All (WasSent (count_after t.received numbered.0 room ∷ t.acknowledgements)) (with_packet (count_after n numbered.0 room) k.counts)) h.received (with-sent t.acknowledgements _ k.counts h.counts);
        } in
        record {
          events = Data place.0 room ∷ [];
          between = subst (λ (v : Transfer). IsBetween v (link-with (Some numbered)) waiting) (sym here) between;
          offered = ap (λ (v : Transfer). v.offered) here ∙ sym (append-nil t.offered);
          delivered = ap (λ (v : Transfer). v.delivered) here
              ∙ with-delivered (is_taken t.received numbered.0 room) numbered.1 t.delivered
              ∙ ap (λ n. t.delivered ++ listed (byte_taken n room (Some numbered))) h.received;
        }

    happens-data : Happens t (after_data room k) waiting [] (listed (byte_taken k.received room (coming_data k)))
    happens-data = happens-data-of (coming_data k) refl

  -- ---- an acknowledgement comes

  abbrev link-answered : Option ℕ → Link
  link-answered o = record k { sender = sender_after_answer o k.sender; counts = staying_counts k }

  left-counts : All (WasSent t.acknowledgements) (staying_counts k)
  left-counts = all-staying (WasSent t.acknowledgements) k.counts h.counts (letter_after k.rounds k.terms.acks)

  happens-count-of : (o : Option ℕ) → coming_count k ≡ o → Happens t (link-answered o) (cond (is_new o k.sender) (drop 1 waiting) waiting) [] []
  happens-count-of None is =
      nothing-happens t (link-answered None) waiting (record { waiting = h.waiting; sender = h.sender; received = h.received; packets = h.packets; counts = left-counts })
  happens-count-of (Some count) is =
      let place : WasSent t.acknowledgements count = all-coming (WasSent t.acknowledgements) k.counts h.counts (letter_after k.rounds k.terms.acks) count is in
      let here : after_acknowledgement t (slice_get t.acknowledgements place.0) ≡ after_acknowledgement t (Some count) = ap (after_acknowledgement t) place.1 in
      let u : Transfer = after_acknowledgement t (Some count) in
      let left : List ℕ = cond (is_new_count k.sender count) (drop 1 waiting) waiting in
      let between : IsBetween u (link-answered (Some count)) left = record {
        waiting = λ i. cond (is_new_count (h.sender i) count) (drop 1 (h.waiting i)) (h.waiting i);
        sender = ap (λ (s : Sender). sender_after_count s count) h.sender;
        received = h.received;
        packets = h.packets;
        counts = left-counts;
      } in
      record {
        events = Acknowledgement place.0 ∷ [];
        between = subst (λ (v : Transfer). IsBetween v (link-answered (Some count)) left) (sym here) between;
        offered = ap (λ (v : Transfer). v.offered) here ∙ sym (append-nil t.offered);
        delivered = ap (λ (v : Transfer). v.delivered) here ∙ sym (append-nil t.delivered);
      }

  happens-count : Happens t (after_count k) (cond (is_new (coming_count k) k.sender) (drop 1 waiting) waiting) [] []
  happens-count = happens-count-of (coming_count k) refl

-- ---- a round of the link

-- the rounds of the link play no part
module _ (t : Transfer) (k : Link) (waiting o d : List ℕ) where
  pub happens-round : Happens t k waiting o d → (n : ℕ) → Happens t (record k { rounds = n }) waiting o d
  happens-round h n = record {
    events = h.events;
    between = record { waiting = h.between.waiting; sender = h.between.sender; received = h.between.received; packets = h.between.packets; counts = h.between.counts };
    offered = h.offered;
    delivered = h.delivered;
  }

module _ (t : Transfer) (k : Link) (waiting : List ℕ) (h : IsBetween t k waiting) (room : Bool) where
  abbrev first : Option ℕ
  first = slice_get waiting 0

  abbrev turned : Link
  turned = after_turn first k

  abbrev came : Link
  came = after_data room turned

  pub happens-carried : Happens t (carried first room k) (cond (carries_back first room k) (drop 1 waiting) waiting) [] (listed (carried_byte first room k))
  happens-carried =
      let one = happens-turn t k waiting h in
      let two = happens-data (after_events t one.events) turned waiting one.between room in
      let both = happens-then t turned waiting [] [] one came waiting [] _ two in
      let three = happens-count (after_events t both.events) came waiting both.between in
      let all = happens-then t came waiting [] _ both (after_count came) _ [] [] three in
      let round = happens-round t (after_count came) _ [] _ all (k.rounds + 1) in
      subst (λ l. Happens t (carried first room k) (cond (carries_back first room k) (drop 1 waiting) waiting) [] l) (append-nil (listed (carried_byte first room k))) round
