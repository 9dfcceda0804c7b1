-- Steps behind others, of which none has stopped the machine.
use Rattle.std.proofs.Common.{◌≡◌, ℕ, ◌+◌, ◌-◌, ◌<◌, ◌≤◌, ◌++◌, Option, None, sym, ap, ◌∙◌, arith}
use Rattle.kernel_model.specs.declared.kernel_record.stops.Stop.{Stop}
use Rattle.bare_machine.specs.declared.parts.BareParts.{BareParts}
use Rattle.bare_machine.specs.Run.{run}
use Rattle.bare_machine.specs.State.{BareState, bare_state}
use Rattle.bare_machine.specs.Step.{BareStepped}
use Rattle.bare_machine.proofs.Runs.{run-more, run-steps}

module _ (n : ℕ) (s : BareState) (p : BareParts) (o : Option Stop) (goes : o ≡ None) (here : bare_state p o ≡ (run n s).state) where
  pub going-on : bare_state p None ≡ (run n s).state
  going-on = (λ i. bare_state p (sym goes i)) ∙ here

  pub few-steps : p.step ≤ s.steps + n
  few-steps = omega (arith, ap (λ (k : BareState). k.steps) going-on, run-steps n s)

  pub more-state : (m : ℕ) → (run m (bare_state p None)).state ≡ (run (n + m) s).state
  more-state m = ap (λ (k : BareState). (run m k).state) going-on ∙ sym (ap (λ (x : BareStepped). x.state) (run-more n m s))

  pub more-bytes : (m : ℕ) → (run n s).bytes ++ (run m (bare_state p None)).bytes ≡ (run (n + m) s).bytes
  more-bytes m = ap (λ (k : BareState). (run n s).bytes ++ (run m k).bytes) going-on ∙ sym (ap (λ (x : BareStepped). x.bytes) (run-more n m s))

  pub more-goes : (m : ℕ) → 0 < m → (run (m - 1) (bare_state p None)).state.stop ≡ None → (run (n + m - 1) s).state.stop ≡ None
  more-goes m some last =
      let same : n + m - 1 ≡ n + (m - 1) = omega (arith, some) in
      ap (λ j. (run j s).state.stop) same ∙ sym (ap (λ (k : BareState). k.stop) (more-state (m - 1))) ∙ last
