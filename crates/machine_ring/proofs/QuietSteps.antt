-- Quiet steps of a machine.
use Rattle.std.proofs.Common.{◌≡◌, ℕ, suc, ◌+◌, ◌<◌, ◌++◌, ◌&&◌, true, None, List, [], ◌∷◌, refl, sym, ap, ◌∙◌}
use Rattle.std.specs.Prelude.{is_none}
use Rattle.std.proofs.lemmas.Bool.{lt-ltb}
use Rattle.tripos_machine.specs.Quiet.{AreQuiet}
use Rattle.tripos_machine.specs.State.{State, steps_of, stop_of}
use Rattle.tripos_machine.specs.Step.{Stepped, run as machine_run, step}
use Rattle.tripos_machine.proofs.StateRuns.{run-more}
use Rattle.machine_ring.specs.Rounds.{can_step}
use Rattle.kernel_machine.proofs.RunningMachine.RunParts.{no-front}

-- ---- joined lists of which nothing is left

pub no-back : {A : Type 0} (xs ys : List A) → xs ++ ys ≡ [] → ys ≡ []
no-back [] ys e = e
no-back (x ∷ xs) ys e = cc

-- ---- quiet steps

pub machine-next : (n : ℕ) (s : State) → (machine_run n (step s).state).state ≡ (machine_run (suc n) s).state
unfolding machine_run
machine-next n s = refl

pub machine-bytes : (n : ℕ) (s : State) → (step s).bytes ++ (machine_run n (step s).state).bytes ≡ (machine_run (suc n) s).bytes
unfolding machine_run
machine-bytes n s = refl

machine-events : (n : ℕ) (s : State) → (step s).events ++ (machine_run n (step s).state).events ≡ (machine_run (suc n) s).events
unfolding machine_run
machine-events n s = refl

pub machine-none : (s : State) → machine_run 0 s ≡ record { state = s; bytes = []; events = [] }
unfolding machine_run
machine-none s = refl

-- the bytes of a quiet step are none, and the steps behind it are quiet
module _ (n : ℕ) (s : State) (q : AreQuiet (suc n) s) where
  pub quiet-bytes : (step s).bytes ≡ []
  quiet-bytes = no-front (step s).bytes (machine_run n (step s).state).bytes (machine-bytes n s ∙ ap (λ (y : Stepped). y.bytes) q.quiet)

  pub quiet-behind : AreQuiet n (step s).state
  quiet-behind =
      let x : Stepped = machine_run n (step s).state in
      let bytes : x.bytes ≡ [] = no-back (step s).bytes x.bytes (machine-bytes n s ∙ ap (λ (y : Stepped). y.bytes) q.quiet) in
      let events : x.events ≡ [] = no-back (step s).events x.events (machine-events n s ∙ ap (λ (y : Stepped). y.events) q.quiet) in
      record { quiet = λ i. record { state = x.state; bytes = bytes i; events = events i }; goes = ap stop_of (machine-next n s) ∙ q.goes }

pub goes-now : (s : State) → AreQuiet 0 s → stop_of s ≡ None
goes-now s q = sym (ap (λ (y : Stepped). stop_of y.state) (machine-none s)) ∙ q.goes

pub can-now : (most : ℕ) (s : State) → stop_of s ≡ None → steps_of s < most → can_step most s ≡ true
can-now most s goes less = λ i. is_none (goes i) && lt-ltb (steps_of s) most less i

-- ---- some of them, and then more

pub none-taken : (s : State) → s ≡ (machine_run 0 s).state
none-taken s = sym (ap (λ (y : Stepped). y.state) (machine-none s))

module _ (a m : ℕ) (s t u : State) (bytes : List ℕ) (was : t ≡ (machine_run a s).state) where
  pub taken-then : u ≡ (machine_run m t).state → u ≡ (machine_run (a + m) s).state
  taken-then is = is ∙ ap (λ (r : State). (machine_run m r).state) was ∙ sym (ap (λ (y : Stepped). y.state) (run-more a m s))

  pub bytes-then : AreQuiet (a + m) s → bytes ≡ (machine_run m t).bytes → bytes ≡ []
  bytes-then q is =
      let x : Stepped = machine_run a s in
      is ∙ ap (λ (r : State). (machine_run m r).bytes) was
      ∙ no-back x.bytes (machine_run m x.state).bytes (sym (ap (λ (y : Stepped). y.bytes) (run-more a m s)) ∙ ap (λ (y : Stepped). y.bytes) q.quiet)
