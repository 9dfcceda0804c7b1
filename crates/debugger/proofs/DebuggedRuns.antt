-- The steps of a call: how they add up, and that they stay within its limits.
use Rattle.std.proofs.Common.{◌≡◌, ℕ, ◌+◌, ◌-◌, ◌≤◌, Option, Some, None, [], refl, sym, ap, ◌∙◌, arith}
use Rattle.std.specs.Prelude.{is_some, if◌then◌else◌, unwrap_or}
use Rattle.kernel_model.specs.declared.kernel_record.stops.Stop.{Stop}
use Rattle.debugger.specs.MachineHistory.Pasts.{state_back}
use Rattle.tripos_machine.specs.State.{State, steps_of, stop_of}
use Rattle.tripos_machine.specs.Step.{Stepped, run}
use Rattle.tripos_machine.proofs.StateRuns.{run-counts, run-later, run-more, run-steps}
use Rattle.debugger.specs.declared.limits.Limits.{Limits}
use Rattle.debugger.specs.Debugged.{Debugging, HasDebugged, steps_left, went_back}
use Rattle.debugger.specs.Runs.{IsWithin}
use Rattle.debugger.proofs.StepsTo.{went-on}
use Rattle.tripos_machine.proofs.QuietSteps.{run-none}

-- no step was taken
pub debugged-none : (n : ℕ) (s : State) → HasDebugged n s s
debugged-none n s = record { steps = 0; few = omega arith; state = sym (ap (λ (x : Stepped). x.state) (run-none s)) }

-- more may be taken
pub debugged-more : (n m : ℕ) (s t : State) → n ≤ m → HasDebugged n s t → HasDebugged m s t
debugged-more n m s t few d = record { steps = d.steps; few = omega (arith, few, d.few); state = d.state }

-- all of them
pub debugged-all : (n m : ℕ) (s t : State) → n ≤ m → t ≡ (run n s).state → HasDebugged m s t
debugged-all n m s t few state = record { steps = n; few = few; state = state }

-- where no history is kept
pub back-stays : (n : ℕ) (d : Debugging) → d.past ≡ None → (went_back n d).state ≡ d.state
back-stays n d none = ap (λ p. state_back n (unwrap_or p []) d.state) none

-- ---- the steps that are left

module _ (c : Limits) where
  pub left-goes : (s : State) → stop_of s ≡ None → steps_left c s ≡ c.last - steps_of s
  left-goes s goes = ap (λ o. if is_some o then 0 else (c.last - steps_of s)) goes

  left-stopped : (s : State) (stop : Stop) → stop_of s ≡ Some stop → steps_left c s ≡ 0
  left-stopped s stop is = ap (λ o. if is_some o then 0 else (c.last - steps_of s)) is

  pub left-few : (s : State) → steps_left c s ≤ c.last - steps_of s
  left-few s = on (stop_of s) refl
    where
      on : (o : Option Stop) → stop_of s ≡ o → steps_left c s ≤ c.last - steps_of s
      on None is = omega (arith, left-goes s is)
      on (Some stop) is = omega (arith, left-stopped s stop is)

  -- first some steps, and then others
  pub debugged-then : (s t u : State) → HasDebugged (steps_left c s) s t → HasDebugged (steps_left c t) t u → HasDebugged (steps_left c s) s u
  debugged-then s t u one two =
      record {
        steps = one.steps + two.steps;
        few = few (stop_of t) refl;
        state = two.state ∙ ap (λ z. (run two.steps z).state) one.state ∙ sym (ap (λ (x : Stepped). x.state) (run-more one.steps two.steps s));
      }
    where
      few : (o : Option Stop) → stop_of t ≡ o → one.steps + two.steps ≤ steps_left c s
      few (Some stop) is = omega (arith, one.few, two.few, left-stopped t stop is)
      few None is =
          let there : stop_of (run one.steps s).state ≡ None = sym (ap stop_of one.state) ∙ is in
          let goes = went-on one.steps s there in
          let counted : steps_of t ≡ steps_of s + one.steps = ap steps_of one.state ∙ run-counts one.steps s there in
          omega (arith, one.few, two.few, left-goes t is, left-goes s goes, counted)

  -- the machine stays within the limits
  pub within-then : (s t : State) → IsWithin c s → HasDebugged (steps_left c s) s t → IsWithin c t
  within-then s t w d =
      let here : steps_of t ≡ steps_of (run d.steps s).state = ap steps_of d.state in
      record {
        begun = omega (arith, w.begun, here, run-later d.steps s);
        short = omega (arith, w.short, here, d.few, left-few s, run-steps d.steps s);
        most = w.most;
      }
