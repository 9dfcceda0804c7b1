-- Rounds in which nothing happens but that the two machines take their steps are these steps.
use Rattle.std.proofs.Common.{◌≡◌, ◌≢◌, ℕ, zero, suc, ◌+◌, ◌-◌, ◌<◌, ◌≤◌, ◌++◌, ◌&&◌, Bool, true, false, cond, Option, Some, None, List, [], length, inl, inr, refl, sym, ap, ◌∙◌, subst, arith}
use Rattle.std.specs.Prelude.{◌==◌, ◌||◌, is_none, nat_le, nat_lt, slice_get}
use Rattle.std.proofs.lemmas.Bool.{and_parts, eqb-true, ltb-true}
use Rattle.std.proofs.lemmas.List.{nil_from_length}
use Rattle.kernel_model.specs.declared.kernel_record.stops.Stop.{Stop}
use Rattle.tripos_machine.specs.Quiet.{AreQuiet}
use Rattle.tripos_machine.specs.State.{State, steps_of, stop_of}
use Rattle.tripos_machine.specs.Step.{Stepped, run as machine_run, step}
use Rattle.tripos_machine.proofs.StateRuns.{run-more as machine-run-more, run-stopped as machine-run-stopped}
use Rattle.tripos_machine.proofs.StepSizes.{step-count}
use Rattle.machine_ring.specs.Flights.{coming, staying}
use Rattle.machine_ring.specs.Private.IdleRounds.{AreIdle, IsStill, is_empty, later, left_after}
use Rattle.machine_ring.specs.Links.{Link, byte_taken, carried, carried_byte, carries_back, counts_after, is_new, letter_after, listed, received_after, sender_after_answer}
use Rattle.machine_ring.specs.Rings.{Left, Ring}
use Rattle.machine_ring.specs.Rounds.{Rounded, after_answer, after_step, can_step, has_room, left_steps, offered_by, right_after, round, shown_by, with_step, with_typing}
use Rattle.machine_ring.specs.Runs.{and_then, no_rounds, run}
use Rattle.machine_ring.proofs.QuietSteps.{can-now, goes-now, machine-bytes, machine-next, machine-none, no-back, quiet-behind, quiet-bytes}
use Rattle.machine_ring.proofs.RingRuns.{run-next, run-zero}

-- ---- the link

-- of none in flight none comes
none-coming : {P : Type 0} (letter : ℕ) → coming {P = P} letter [] ≡ None
none-coming {P = P} letter = on ((letter == 68) || (letter == 82)) (letter == 79)
  where
    on : (a b : Bool) → ◌≡◌ {A = Option P} (cond a None (cond b None None)) None
    on true b = refl
    on false true = refl
    on false false = refl

-- and none stays
none-staying : {P : Type 0} (letter : ℕ) → staying {P = P} letter [] ≡ []
none-staying {P} letter = on ((letter == 68) || (letter == 88)) (letter == 82) (letter == 79)
  where
    on : (a b d : Bool) → ◌≡◌ {A = List P} (cond a [] (cond b [] (cond d [] []))) []
    on true b d = refl
    on false true d = refl
    on false false true = refl
    on false false false = refl

-- a link on which nothing is
abbrev quiet : Link → Link
quiet k = record k { sender = record k.sender { outstanding = None }; packets = []; counts = [] }

module _ (k : Link) (room : Bool) where
  abbrev packet : Option (ℕ × ℕ)
  packet = coming (letter_after k.rounds k.terms.link) []

  none : packet ≡ None
  none = none-coming (letter_after k.rounds k.terms.link)

  no-count : counts_after k.received room packet [] ≡ []
  no-count = ap (λ o. counts_after k.received room o []) none

  no-answer : coming (letter_after k.rounds k.terms.acks) (counts_after k.received room packet []) ≡ None
  no-answer = ap (coming (letter_after k.rounds k.terms.acks)) no-count ∙ none-coming (letter_after k.rounds k.terms.acks)

  quiet-byte : carried_byte None room (quiet k) ≡ None
  quiet-byte = ap (byte_taken k.received room) none

  quiet-back : carries_back None room (quiet k) ≡ false
  quiet-back = ap (λ o. is_new o (quiet k).sender) no-answer

  quiet-carried : carried None room (quiet k) ≡ record (quiet k) { rounds = k.rounds + 1 }
  quiet-carried = λ i. record {
    terms = k.terms;
    sender = sender_after_answer (no-answer i) (quiet k).sender;
    packets = none-staying {P = ℕ × ℕ} (letter_after k.rounds k.terms.link) i;
    received = received_after k.received room (none i);
    counts = (ap (staying (letter_after k.rounds k.terms.acks)) no-count ∙ none-staying (letter_after k.rounds k.terms.acks)) i;
    rounds = k.rounds + 1;
  }

-- ---- a round

abbrev pub ring-with : Left → Link → State → Ring
ring-with x k s = record { left = x; link = k; right = s }

-- the round, by the left machine after its step, and what it wrote
abbrev round-by : Left → List ℕ → Link → State → Rounded
round-by x bytes k s =
    let byte = carried_byte (slice_get x.waiting 0) (has_room s) k in
    record {
      ring = record {
        left = after_answer (carries_back (slice_get x.waiting 0) (has_room s) k) x;
        link = carried (slice_get x.waiting 0) (has_room s) k;
        right = right_after k.terms.right_steps (with_typing byte s);
      };
      shown = shown_by k.terms.right_steps (with_typing byte s);
      offered = bytes;
      delivered = listed byte;
    }

-- what waits and what was written, of a left machine of which nothing waits behind its step
none-offered : (most : ℕ) (x : Left) → (after_step most x).waiting ≡ [] → offered_by most x ≡ []
none-offered most x none = on (left_steps most x) none
  where
    on : (b : Bool) → (cond b (with_step x) x).waiting ≡ [] → cond b (step x.state).bytes [] ≡ []
    on true none = no-back x.waiting (step x.state).bytes none
    on false none = refl

-- a quiet round: the left machine has taken its step, and nothing waits
module _ (x y : Left) (k : Link) (s : State) (stepped : after_step k.terms.left_steps x ≡ y) (waiting : y.waiting ≡ []) (outstanding : k.sender.outstanding ≡ None) (packets : k.packets ≡ []) (counts : k.counts ≡ []) where
  abbrev still : Left
  still = record y { waiting = [] }

  is-still : y ≡ still
  is-still = λ i. record { state = y.state; waiting = waiting i }

  is-quiet : k ≡ quiet k
  is-quiet = λ i. record {
    terms = k.terms;
    sender = record { acknowledged = k.sender.acknowledged; outstanding = outstanding i; timer = k.sender.timer };
    packets = packets i;
    received = k.received;
    counts = counts i;
    rounds = k.rounds;
  }

  nothing-offered : offered_by k.terms.left_steps x ≡ []
  nothing-offered = none-offered k.terms.left_steps x (ap (λ (z : Left). z.waiting) stepped ∙ waiting)

  quiet-round : round-by still [] (quiet k) s ≡ record {
    ring = ring-with still (record (quiet k) { rounds = k.rounds + 1 }) (right_after k.terms.right_steps s);
    shown = shown_by k.terms.right_steps s;
    offered = [];
    delivered = [];
  }
  quiet-round = λ i. record {
    ring = record {
      left = after_answer (quiet-back k (has_room s) i) still;
      link = quiet-carried k (has_room s) i;
      right = right_after k.terms.right_steps (with_typing (quiet-byte k (has_room s) i) s);
    };
    shown = shown_by k.terms.right_steps (with_typing (quiet-byte k (has_room s) i) s);
    offered = [];
    delivered = listed (quiet-byte k (has_room s) i);
  }

  idle-round : round (ring-with x k s) ≡ record {
    ring = ring-with y (later 1 k) (right_after k.terms.right_steps s);
    shown = shown_by k.terms.right_steps s;
    offered = [];
    delivered = [];
  }
  unfolding round
  idle-round =
      (λ i. round-by ((stepped ∙ is-still) i) (nothing-offered i) (is-quiet i) s) ∙ quiet-round
      ∙ (λ i. record {
        ring = ring-with (sym is-still i) (record (sym is-quiet i) { rounds = k.rounds + 1 }) (right_after k.terms.right_steps s);
        shown = shown_by k.terms.right_steps s;
        offered = [];
        delivered = [];
      })

-- ---- the left machine

-- a round more of a machine that is still
module _ (n most : ℕ) (x : Left) (none : x.waiting ≡ []) where
  -- it takes no step
  still-stays : can_step most x.state ≡ false → after_step most x ≡ x
  still-stays stays = ap (λ b. cond b (with_step x) x) (λ i. nat_le (length (none i)) 8192 && stays i)

  module _ (few : steps_of x.state + suc n ≤ most) (quiet : (i : ℕ) → i ≤ suc n → AreQuiet i x.state) where
    goes : stop_of x.state ≡ None
    goes = goes-now x.state (quiet 0 (omega arith))

    -- it takes one
    still-steps : after_step most x ≡ record { state = (step x.state).state; waiting = [] }
    still-steps =
        (λ i. cond (nat_le (length (none i)) 8192 && can-now most x.state goes (omega (arith, few)) i) (with_step x) x)
        ∙ (λ i. record { state = (step x.state).state; waiting = none i ++ quiet-bytes 0 x.state (quiet 1 (omega arith)) i })

    steps-behind : steps_of (step x.state).state + n ≤ most
    steps-behind = omega (arith, few, step-count x.state goes)

    quiet-later : (i : ℕ) → i ≤ n → AreQuiet i (step x.state).state
    quiet-later i low = quiet-behind i x.state (quiet (suc i) (omega (arith, low)))

-- nothing waits behind a round, and the machine is still in the others
pub still-next : (n most : ℕ) (x : Left) → x.waiting ≡ [] → IsStill (suc n) most x.state → ((after_step most x).waiting ≡ []) × IsStill n most (after_step most x).state
still-next n most x none (inl stays) =
    let same : x ≡ after_step most x = sym (still-stays n most x none stays) in
    subst (λ (y : Left). (y.waiting ≡ []) × IsStill n most y.state) same (none, inl stays)
still-next n most x none (inr both) =
    subst (λ (y : Left). (y.waiting ≡ []) × IsStill n most y.state) (sym (still-steps n most x none both.0 both.1))
    (refl, inr (steps-behind n most x none both.0 both.1, quiet-later n most x none both.0 both.1))

-- a machine that takes no step
pub left-stays : (n most : ℕ) (x : Left) → x.waiting ≡ [] → can_step most x.state ≡ false → x ≡ left_after n most x
left-stays zero most x none stays = refl
left-stays (suc n) most x none stays = left-stays n most x none stays ∙ ap (left_after n most) (sym (still-stays n most x none stays))

-- one that takes quiet ones
pub left-steps : (n most : ℕ) (x : Left) → x.waiting ≡ [] → steps_of x.state + n ≤ most → ((i : ℕ) → i ≤ n → AreQuiet i x.state)
    → record { state = (machine_run n x.state).state; waiting = [] } ≡ left_after n most x
left-steps zero most x none few quiet = λ i. record { state = ap (λ (y : Stepped). y.state) (machine-none x.state) i; waiting = sym none i }
left-steps (suc n) most x none few quiet =
    let y : Left = record { state = (step x.state).state; waiting = [] } in
    (λ i. record { state = sym (machine-next n x.state) i; waiting = [] })
    ∙ left-steps n most y refl (steps-behind n most x none few quiet) (quiet-later n most x none few quiet)
    ∙ ap (left_after n most) (sym (still-steps n most x none few quiet))

-- as the code takes them
pub left-passed : (n most : ℕ) (x : Left) → x.waiting ≡ [] → IsStill n most x.state → can_step most x.state ≡ true
    → (held out : List ℕ) (t : State) → held ≡ [] → out ≡ [] → t ≡ (machine_run n x.state).state → record { state = t; waiting = held ++ out } ≡ left_after n most x
left-passed n most x none (inl stays) can held out t no-held no-out is = (let other : true ≡ false = sym can ∙ stays in cc other)
left-passed n most x none (inr both) can held out t no-held no-out is = (λ i. record { state = is i; waiting = no-held i ++ no-out i }) ∙ left-steps n most x none both.0 both.1

-- ---- rounds

later-none : (k : Link) → k ≡ later 0 k
later-none k = (let same : k.rounds ≡ k.rounds + 0 = omega arith in λ i. record k { rounds = same i })

later-more : (n : ℕ) (k : Link) → later n (later 1 k) ≡ later (suc n) k
later-more n k = (let same : (k.rounds + 1) + n ≡ k.rounds + suc n = omega arith in λ i. record k { rounds = same i })

-- a round, and what holds behind it
module _ (n : ℕ) (x : Left) (k : Link) (idle : AreIdle (suc n) x k) (s : State) where
  abbrev y : Left
  y = after_step k.terms.left_steps x

  next : (y.waiting ≡ []) × IsStill n k.terms.left_steps y.state
  next = still-next n k.terms.left_steps x idle.waiting idle.still

  idle-next : AreIdle n y (later 1 k)
  idle-next = record { waiting = next.0; still = next.1; outstanding = idle.outstanding; packets = idle.packets; counts = idle.counts }

  round-next : round (ring-with x k s) ≡ record { ring = ring-with y (later 1 k) (right_after k.terms.right_steps s); shown = shown_by k.terms.right_steps s; offered = []; delivered = [] }
  round-next = idle-round x y k s refl next.0 idle.outstanding idle.packets idle.counts

-- the right machine takes no step any more
pub idle-waits : (n : ℕ) (x : Left) (k : Link) → AreIdle n x k → (s : State) → stop_of s ≡ None → can_step k.terms.right_steps s ≡ false
    → run n (ring-with x k s) ≡ no_rounds (ring-with (left_after n k.terms.left_steps x) (later n k) s)
idle-waits zero x k idle s goes stays = run-zero (ring-with x k s) ∙ ap (λ (j : Link). no_rounds (ring-with x j s)) (later-none k)
idle-waits (suc n) x k idle s goes stays =
    let y : Left = after_step k.terms.left_steps x in
    let same : ◌≡◌ {A = Rounded} (round (ring-with x k s)) (no_rounds (ring-with y (later 1 k) s)) =
    round-next n x k idle s ∙ (λ i. record { ring = ring-with y (later 1 k) (cond (stays i) (step s).state s); shown = cond (stays i) (step s).bytes []; offered = []; delivered = [] }) in
    run-next n (ring-with x k s) goes ∙ ap (λ z. and_then z (run n)) same
    ∙ idle-waits n y (later 1 k) (idle-next n x k idle s) s goes stays
    ∙ ap (λ (j : Link). no_rounds (ring-with (left_after n k.terms.left_steps y) j s)) (later-more n k)

-- a machine that goes on has gone on before
pub goes-before : (i m : ℕ) (s : State) → i ≤ m → stop_of (machine_run m s).state ≡ None → stop_of (machine_run i s).state ≡ None
goes-before i m s few goes = on (stop_of (machine_run i s).state) refl
  where
    on : (o : Option Stop) → stop_of (machine_run i s).state ≡ o → stop_of (machine_run i s).state ≡ None
    on None is = is
    on (Some stop) is =
        let stopped : stop_of (machine_run i s).state ≢ None = λ none. (let other : Some stop ≡ None = sym is ∙ none in cc other) in
        let whole : m ≡ i + (m - i) = omega (arith, few) in
        let t : State = (machine_run i s).state in
        let same : (machine_run m s).state ≡ (machine_run i s).state =
        ap (λ j. (machine_run j s).state) whole ∙ ap (λ (y : Stepped). y.state) (machine-run-more i (m - i) s) ∙ ap (λ (y : Stepped). y.state) (machine-run-stopped (m - i) t stopped) in
        sym (ap stop_of same) ∙ goes

-- the right machine takes so many steps
pub idle-steps : (n : ℕ) (x : Left) (k : Link) → AreIdle n x k → (s : State) → steps_of s + n ≤ k.terms.right_steps
    → ((i : ℕ) → i < n → stop_of (machine_run i s).state ≡ None)
    → run n (ring-with x k s) ≡ record { ring = ring-with (left_after n k.terms.left_steps x) (later n k) (machine_run n s).state; shown = (machine_run n s).bytes; offered = []; delivered = [] }
idle-steps zero x k idle s few goes =
    run-zero (ring-with x k s)
    ∙ (λ i. record { ring = ring-with x (later-none k i) (sym (machine-none s) i).state; shown = (sym (machine-none s) i).bytes; offered = []; delivered = [] })
idle-steps (suc n) x k idle s few goes =
    let y : Left = after_step k.terms.left_steps x in
    let now : stop_of s ≡ None = sym (ap (λ (z : Stepped). stop_of z.state) (machine-none s)) ∙ goes 0 (omega arith) in
    let can : can_step k.terms.right_steps s ≡ true = can-now k.terms.right_steps s now (omega (arith, few)) in
    let t : State = (step s).state in
    let one : ◌≡◌ {A = Rounded} (round (ring-with x k s)) (record { ring = ring-with y (later 1 k) t; shown = (step s).bytes; offered = []; delivered = [] }) =
    round-next n x k idle s ∙ (λ i. record { ring = ring-with y (later 1 k) (cond (can i) (step s).state s); shown = cond (can i) (step s).bytes []; offered = []; delivered = [] }) in
    let rest = idle-steps n y (later 1 k) (idle-next n x k idle s) t (omega (arith, few, step-count s now))
    (λ i low. ap stop_of (machine-next i s) ∙ goes (suc i) (omega (arith, low))) in
    run-next n (ring-with x k s) now ∙ ap (λ z. and_then z (run n)) one
    ∙ (λ i. record { ring = (rest i).ring; shown = (step s).bytes ++ (rest i).shown; offered = (rest i).offered; delivered = (rest i).delivered })
    ∙ (λ i. record { ring = ring-with (left_after n k.terms.left_steps y) (later-more n k i) (machine-next n s i); shown = machine-bytes n s i; offered = []; delivered = [] })

-- ---- whether they are such

nil-of : {P : Type 0} (ps : List P) → (length ps == 0) ≡ true → ps ≡ []
nil-of ps is = nil_from_length ps (eqb-true (length ps) 0 is)

-- where an outstanding byte waits
pub idle-from : (n : ℕ) (x : Left) (k : Link) → x.waiting ≡ [] → IsStill n k.terms.left_steps x.state → (x.waiting ≡ [] → k.sender.outstanding ≡ None) → is_empty k ≡ true → AreIdle n x k
idle-from n x k none still out is =
    let empty = and_parts (length k.packets == 0) (length k.counts == 0) is in
    record {
      waiting = none;
      still = still;
      outstanding = out none;
      packets = nil-of k.packets empty.0;
      counts = nil-of k.counts empty.1;
    }

-- ---- what such rounds leave

module _ (x y : Left) (k j : Link) (s : State) (n : ℕ) (idle : AreIdle n x k) (left : y ≡ left_after n k.terms.left_steps x) (is : j ≡ later n k) where
  count : j.rounds - k.rounds ≡ n
  count = (let more : j.rounds ≡ k.rounds + n = ap (λ (l : Link). l.rounds) is in omega (arith, more))

  pub rounds-waited : stop_of s ≡ None → can_step k.terms.right_steps s ≡ false → run (j.rounds - k.rounds) (ring-with x k s) ≡ no_rounds (ring-with y j s)
  rounds-waited goes stays = ap (λ m. run m (ring-with x k s)) count ∙ idle-waits n x k idle s goes stays ∙ (λ i. no_rounds (ring-with (sym left i) (sym is i) s))

  pub rounds-stepped : (t : State) → t ≡ (machine_run n s).state → can_step k.terms.right_steps s ≡ true → n ≤ k.terms.right_steps - steps_of s → stop_of (machine_run (n - 1) s).state ≡ None
      → run (j.rounds - k.rounds) (ring-with x k s) ≡ record { ring = ring-with y j t; shown = (machine_run n s).bytes; offered = []; delivered = [] }
  rounds-stepped t right can few goes =
      let less = ltb-true (steps_of s) k.terms.right_steps (and_parts (is_none (stop_of s)) (nat_lt (steps_of s) k.terms.right_steps) can).1 in
      ap (λ m. run m (ring-with x k s)) count
      ∙ idle-steps n x k idle s (omega (arith, few, less)) (λ i low. goes-before i (n - 1) s (omega (arith, low)) goes)
      ∙ (λ i. record { ring = ring-with (sym left i) (sym is i) (sym right i); shown = (machine_run n s).bytes; offered = []; delivered = [] })
