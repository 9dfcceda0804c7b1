-- Runs of a ring: one after another, of a ring whose right machine has stopped, and how many rounds they take.
use Rattle.std.proofs.Common.{◌≡◌, ◌≢◌, ℕ, zero, suc, ◌+◌, ◌-◌, ◌≤◌, true, false, cond, Option, Some, None, refl, sym, ap, ◌∙◌, arith}
use Rattle.std.specs.Prelude.{is_some}
use Rattle.std.proofs.lemmas.List.{append-nil, append_assoc}
use Rattle.kernel_model.specs.declared.kernel_record.stops.Stop.{Stop}
use Rattle.tripos_machine.specs.State.{stop_of}
use Rattle.machine_ring.specs.Rings.{Ring}
use Rattle.machine_ring.specs.Rounds.{Rounded, round}
use Rattle.machine_ring.specs.Runs.{and_then, no_rounds, run}
use Rattle.bare_machine.proofs.Runs.{has-stopped}

-- ---- one after another

then-assoc : (x : Rounded) (f g : Ring → Rounded) → and_then (and_then x f) g ≡ and_then x (λ r. and_then (f r) g)
then-assoc x f g =
    let y : Rounded = f x.ring in
    let z : Rounded = g y.ring in
    λ i. record {
      ring = z.ring;
      shown = append_assoc x.shown y.shown z.shown i;
      offered = append_assoc x.offered y.offered z.offered i;
      delivered = append_assoc x.delivered y.delivered z.delivered i;
    }

pub then-none : (x : Rounded) → and_then x no_rounds ≡ x
then-none x = λ i. record { ring = x.ring; shown = append-nil x.shown i; offered = append-nil x.offered i; delivered = append-nil x.delivered i }

-- ---- a ring whose right machine has stopped

is-none : (o : Option Stop) → o ≡ None → is_some o ≡ false
is-none o none = ap is_some none

pub run-stopped : (n : ℕ) (r : Ring) → stop_of r.right ≢ None → run n r ≡ no_rounds r
unfolding run
run-stopped zero r stopped = refl
run-stopped (suc n) r stopped = ap (λ b. cond b (no_rounds r) (and_then (round r) (run n))) (has-stopped (stop_of r.right) stopped)

pub run-next : (n : ℕ) (r : Ring) → stop_of r.right ≡ None → run (suc n) r ≡ and_then (round r) (run n)
unfolding run
run-next n r goes = ap (λ b. cond b (no_rounds r) (and_then (round r) (run n))) (is-none (stop_of r.right) goes)

pub run-zero : (r : Ring) → run 0 r ≡ no_rounds r
unfolding run
run-zero r = refl

-- a round
pub run-one : (r : Ring) → stop_of r.right ≡ None → run 1 r ≡ round r
unfolding run
run-one r goes = run-next 0 r goes ∙ then-none (round r)

pub run-more : (m n : ℕ) (r : Ring) → run (m + n) r ≡ and_then (run m r) (run n)
unfolding run
run-more zero n r = (let none : zero + n ≡ n = omega arith in ap (λ i. run i r) none)
run-more (suc m) n r = on (stop_of r.right) refl (run-more m n (round r).ring)
  where
    on : (o : Option Stop) → stop_of r.right ≡ o → run (m + n) (round r).ring ≡ and_then (run m (round r).ring) (run n) → run (suc m + n) r ≡ and_then (run (suc m) r) (run n)
    on (Some stop) is more =
        let stopped : stop_of r.right ≢ None = λ none. (let other : Some stop ≡ None = sym is ∙ none in cc other) in
        run-stopped (suc m + n) r stopped ∙ sym (ap (λ x. and_then x (run n)) (run-stopped (suc m) r stopped) ∙ run-stopped n r stopped)
    on None goes more =
        let next : suc m + n ≡ suc (m + n) = omega arith in
        let behind : Rounded → Rounded = λ (y : Rounded). and_then (round r) (λ s. y) in
        ap (λ i. run i r) next ∙ run-next (m + n) r goes ∙ ap behind more
        ∙ sym (then-assoc (round r) (run m) (run n)) ∙ sym (ap (λ x. and_then x (run n)) (run-next m r goes))

-- a run that ended early is the whole
pub run-ended : (i n : ℕ) (r : Ring) → i ≤ n → stop_of (run i r).ring.right ≢ None → run n r ≡ run i r
run-ended i n r few stopped =
    let whole : n ≡ i + (n - i) = omega arith in
    let behind : Rounded → Rounded = λ (y : Rounded). and_then (run i r) (λ s. y) in
    ap (λ m. run m r) whole ∙ run-more i (n - i) r ∙ ap behind (run-stopped (n - i) (run i r).ring stopped) ∙ then-none (run i r)
