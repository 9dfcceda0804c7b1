-- What the debugger's orders tell, and that they leave a machine in the run of its session.
use Rattle.std.proofs.Common.{◌≡◌, ℕ, ◌-◌, ◌++◌, List, [], None, Some, Ok, refl, sym, ap, ◌∙◌, arith}
use Rattle.byte_streams.specs.Pending.{IsGathered}
use Rattle.session_text.specs.Canonical.{IsLawful}
use Rattle.session_text.specs.declared.sessions.Session.{Session}
use Rattle.tripos_machine.specs.State.{State, steps_of}
use Rattle.tripos_machine.specs.Step.{run}
use Rattle.debugger.specs.declared.orders.Order.{Order}
use Rattle.debugger.specs.Debugged.{HasDebugged, obeyed, steps_left, steps_to}
use Rattle.debugger.specs.Runs.{IsWithin}
use Rattle.debugger.proofs.DebuggedRuns.{debugged-all, debugged-more, left-few}
use Rattle.debugger.proofs.StepsTo.{to-most}
use Rattle.debugger.proofs.ToldLines.{line-runs}
use Rattle.show_run.specs.TypedWords.Runs.{IsRun, limits_of}
use Rattle.show_run.proofs.TypedWords.SessionRuns.{run-left, session-steps}

-- a run is within the limits of its session
pub run-within : (session : Session) (s : State) → IsLawful session → IsRun session s → IsWithin (limits_of session) s
run-within session s lawful r = record { begun = omega arith; short = r.few; most = session-steps session lawful }

-- as many steps as are left, or fewer, leave it a run
run-few : (session : Session) (s t : State) → IsRun session s → HasDebugged (steps_left (limits_of session) s) s t → IsRun session t
run-few session s t r d =
    let c = limits_of session in
    run-left session s t r (debugged-more (steps_left c s) (session.go - steps_of s) s t (left-few c s) d)

-- so does an order
pub run-obeyed : (session : Session) (order : Order) (s : State) (stops : List ℕ) → IsRun session s
    → IsRun session (obeyed (limits_of session) order (record { state = s; stops = stops; past = None })).after.state
run-obeyed session order s stops r = run-few session s _ r (line-runs (limits_of session) (Ok order) (record { state = s; stops = stops; past = None }) refl)

-- and so does the way to a breakpoint
pub run-stopping : (session : Session) (stops : List ℕ) (s t : State) → IsRun session s
    → t ≡ (run (steps_to stops (steps_left (limits_of session) s) s) s).state → IsRun session t
run-stopping session stops s t r is =
    let left = steps_left (limits_of session) s in
    run-few session s t r (debugged-all (steps_to stops left s) left s t (to-most stops left s) is)

-- what is gathered where nothing was
pub gathered-all : (old new before after text : List ℕ) → old ≡ [] → before ≡ [] → IsGathered (Some old) (Some new) before after text → new ++ after ≡ text
gathered-all old new before after text none empty g =
    ap (λ v. v ++ after) (g.sent ∙ ap (λ v. v ++ g.front) none) ∙ sym g.whole ∙ ap (λ v. v ++ text) empty
