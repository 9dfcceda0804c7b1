-- The machine of a session, after as many steps as it has taken.
use Rattle.std.proofs.Common.{Result, Ok, Err, ◌≡◌, ℕ, zero, suc, ◌+◌, ◌-◌, ◌<◌, ◌≤◌, Option, Some, None, refl, sym, ap, ◌∙◌, arith}
use Rattle.std.specs.Prelude.{OnOk}
use Rattle.std.proofs.lemmas.Bool.{leb-true}
use Rattle.kernel_model.specs.KernelRecord.Ranges.{most_steps}
use Rattle.kernel_model.specs.declared.kernel_record.stops.Stop.{Stop}
use Rattle.session_text.specs.Canonical.{IsLawful}
use Rattle.session_text.specs.declared.sessions.Session.{Session}
use Rattle.tripos_machine.specs.Boot.{boot}
use Rattle.tripos_machine.specs.State.{State, steps_of, stop_of}
use Rattle.tripos_machine.specs.Step.{Stepped, run, step}
use Rattle.tripos_machine.proofs.QuietSteps.{run-none}
use Rattle.tripos_machine.proofs.RunParts.{no-stop}
use Rattle.tripos_machine.proofs.StateRuns.{run-counts, run-later, run-more, run-steps, run-stopped}
use Rattle.tripos_machine.proofs.StepSizes.{step-count}
use Rattle.debugger.specs.Debugged.{HasDebugged}
use Rattle.show_run.specs.TypedWords.Runs.{IsAfter, IsRun}

run-one : (s : State) → (run 1 s).state ≡ (step s).state
unfolding run
run-one s = refl

run-first : (n : ℕ) (s : State) → (run (suc n) s).state ≡ (run n (step s).state).state
unfolding run
run-first n s = refl

-- after a run of a machine that has taken no step, it is as it is after as many steps as it has taken then
module _ (k : ℕ) (s : State) (new : steps_of s ≡ 0) where
  abbrev count : ℕ
  count = steps_of (run k s).state

  abbrev there : State
  there = (run count s).state

  few : count ≤ k
  few = omega (arith, new, run-steps k s)

  rest : (run k s).state ≡ (run (k - count) there).state
  rest =
      let whole : k ≡ count + (k - count) = omega (arith, few) in
      ap (λ n. (run n s).state) whole ∙ ap (λ (x : Stepped). x.state) (run-more count (k - count) s)

  from-there : (o : Option Stop) → stop_of there ≡ o → (m : ℕ) → k - count ≡ m → (run k s).state ≡ there
  from-there (Some stop) is m left = rest ∙ ap (λ (x : Stepped). x.state) (run-stopped (k - count) there (no-stop (stop_of there) stop (sym is)))
  from-there None is zero left = rest ∙ ap (λ n. (run n there).state) left ∙ ap (λ (x : Stepped). x.state) (run-none there)
  from-there None is (suc m) left =
      let next : (run k s).state ≡ (run m (step there).state).state = rest ∙ ap (λ n. (run n there).state) left ∙ run-first m there in
      let at : steps_of there ≡ steps_of s + count = run-counts count s is in
      let more = step-count there is in
      let later = run-later m (step there).state in
      let all : count ≡ steps_of (run m (step there).state).state = ap steps_of next in
      absurd (omega (arith, new, at, more, later, all))

  pub run-counted : (run k s).state ≡ (run (steps_of (run k s).state) s).state
  run-counted = from-there (stop_of there) refl (k - count) refl

-- a machine of a session after some steps, no more than there may be
pub is-run : (session : Session) (k : ℕ) (s : State) → IsAfter session k s → k ≤ session.go → IsRun session s
is-run session k s a few =
    let x = a.first.state in
    let same : s ≡ (run (steps_of s) x).state = a.state ∙ run-counted k x a.none ∙ ap (λ (t : State). (run (steps_of t) x).state) (sym a.state) in
    record {
      after = record { first = a.first; none = a.none; boots = a.boots; state = same };
      few = omega (arith, few, a.none, ap steps_of a.state, run-steps k x);
    }

-- and after some more
pub run-debugged : (session : Session) (n : ℕ) (s t : State) → IsRun session s → steps_of s + n ≤ session.go → HasDebugged n s t → IsRun session t
run-debugged session n s t r room d =
    let a = r.after in
    let all : t ≡ (run (steps_of s + d.steps) a.first.state).state =
    d.state ∙ ap (λ (z : State). (run d.steps z).state) a.state ∙ sym (ap (λ (x : Stepped). x.state) (run-more (steps_of s) d.steps a.first.state)) in
    is-run session (steps_of s + d.steps) t (record { first = a.first; none = a.none; boots = a.boots; state = all }) (omega (arith, room, d.few))

-- as many as there may be yet
pub run-left : (session : Session) (s t : State) → IsRun session s → HasDebugged (session.go - steps_of s) s t → IsRun session t
run-left session s t r d = run-debugged session (session.go - steps_of s) s t r (omega (arith, r.few)) d

-- and one of them
pub run-stepped : (session : Session) (s t : State) → IsRun session s → steps_of s < session.go → t ≡ (step s).state → IsRun session t
run-stepped session s t r room is =
    run-debugged session 1 s t r (omega (arith, room)) (record { steps = 1; few = omega arith; state = is ∙ sym (run-one s) })

-- a machine may take the steps that its session has
pub session-steps : (session : Session) → IsLawful session → session.go ≤ most_steps
session-steps session lawful = leb-true session.go most_steps lawful.steps

-- n fewer steps are no more than there may be
pub steps-fewer : (session : Session) (n : ℕ) (s : State) → IsRun session s → steps_of s - n ≤ session.go
steps-fewer session n s r = omega (arith, r.few)

-- the machine of the boot has taken no step
pub after-none : (session : Session) (s : State) → IsAfter session 0 s → steps_of s ≡ 0
after-none session s a = ap steps_of (a.state ∙ ap (λ (x : Stepped). x.state) (run-none a.first.state)) ∙ a.none

-- the machine of the boot is a run of no steps
pub run-booted : (session : Session) (first : Stepped) (s : State) → boot session ≡ Ok first → steps_of first.state ≡ 0 → s ≡ first.state → IsRun session s
run-booted session first s boots none same =
    let there : s ≡ (run 0 first.state).state = same ∙ sym (ap (λ (x : Stepped). x.state) (run-none first.state)) in
    is-run session 0 s (record { first = first; none = none; boots = boots; state = there }) (omega arith)

-- what holds holds where a call is done
pub on-done : {T E : Type 0} (r : Result T E) {P : Type 0} → P → OnOk r P
on-done (Ok x) holds = holds
on-done (Err e) holds = tt
