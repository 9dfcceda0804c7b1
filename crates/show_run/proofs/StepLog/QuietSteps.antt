-- Steps in which nothing happens but an instruction, or nothing at all.
use Rattle.std.proofs.Common.{◌≡◌, ◌∙◌, Bool, false, [], Option, Some, None, refl, sym, ap, append-nil}
use Rattle.std.specs.Option.{option_map}
use Rattle.std.specs.Prelude.{is_some}
use Rattle.instruction_set.specs.declared.places.Places.{Places}
use Rattle.tripos_machine.specs.Breakpoints.{IsPlainStep}
use Rattle.tripos_machine.specs.State.{State}
use Rattle.tripos_machine.specs.Step.{Stepped, quietly, run, step}
use Rattle.show_run.specs.declared.step_log.calls.Call.{Call as CallInCode}
use Rattle.show_run.specs.StepLog.Calls.{call_seen}

-- a quiet run of one step has no events
pub idle-events : (s : State) → run 1 s ≡ quietly (run 1 s).state → (step s).events ≡ []
unfolding run
idle-events s quiet = sym (append-nil (step s).events) ∙ ap (λ (x : Stepped). x.events) quiet

-- an instruction alone
module _ {p : Places} {s t : State} (plain : IsPlainStep p s t) where
  pub plain-state : t ≡ (step s).state
  plain-state = sym (ap (λ (x : Stepped). x.state) plain.step)

  pub plain-bytes : [] ≡ (step s).bytes
  plain-bytes = sym (ap (λ (x : Stepped). x.bytes) plain.step)

  pub plain-events : (step s).events ≡ []
  plain-events = ap (λ (x : Stepped). x.events) plain.step

-- a call is seen exactly where there is one
pub uncalled-seen : (call : Option CallInCode) (b : Bool) → b ≡ is_some call → b ≡ false → is_some (option_map call_seen call) ≡ false
uncalled-seen None b is none = refl
uncalled-seen (Some c) b is none = sym is ∙ none
