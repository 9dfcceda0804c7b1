-- Lines of a machine whose steps can be undone.
use Rattle.std.proofs.Common.{◌≡◌, ℕ, true, false, Option, Some, None, List, Result, Ok, Err, refl, ◌∙◌, inl, ◌⊎◌}
use Rattle.std.specs.Prelude.{is_err}
use Rattle.byte_streams.specs.Pending.{Gathers, IsCut, IsGathered}
use Rattle.debugger.specs.MachineHistory.Pasts.{state_back}
use Rattle.tripos_machine.specs.State.{State}
use Rattle.debugger.specs.declared.limits.Limits.{Limits}
use Rattle.debugger.specs.declared.orders.Order.{Order}
use Rattle.debugger.specs.declared.orders.Order.TheVariants.{Back, Blocks, Break, Continue, DeviceQueue, Instructions, Registers, Step, TaskQueue, Tasks, Unbreak, Words}
use Rattle.debugger.specs.Debugged.{Debugging, HasDebugged, Told, obeyed, past_of, steps_left}
use Rattle.debugger.specs.OrderLines.{is_back, takes_steps}
use Rattle.debugger.specs.Runs.{EndsTold, EndsToldBack}

-- ---- a line that neither takes nor undoes steps

abbrev pub here : State → List ℕ → Option (List State) → Debugging
here s stops past = record { state = s; stops = stops; past = past }

-- whether a history is kept is no matter of it
pub record IsShown (c : Limits) (o : Order) (s : State) (stops : List ℕ) (past : List State) : Type 0 where
  pub bytes : (obeyed c o (here s stops None)).bytes ≡ (obeyed c o (here s stops (Some past))).bytes
  pub state : (obeyed c o (here s stops None)).after.state ≡ (obeyed c o (here s stops (Some past))).after.state
  pub stops_are : (obeyed c o (here s stops None)).after.stops ≡ (obeyed c o (here s stops (Some past))).after.stops
  pub past_is : Some past ≡ (obeyed c o (here s stops (Some past))).after.past

pub is-shown : (c : Limits) (o : Order) (s : State) (stops : List ℕ) (past : List State) → takes_steps o ≡ false → is_back (Ok o) ≡ false → IsShown c o s stops past
is-shown c (Break a) s stops past on forward = record { bytes = refl; state = refl; stops_are = refl; past_is = refl }
is-shown c (Unbreak a) s stops past on forward = record { bytes = refl; state = refl; stops_are = refl; past_is = refl }
is-shown c (Step n) s stops past on forward = cc
is-shown c (Back n) s stops past on forward = cc
is-shown c Continue s stops past on forward = cc
is-shown c Registers s stops past on forward = record { bytes = refl; state = refl; stops_are = refl; past_is = refl }
is-shown c (Words a n) s stops past on forward = record { bytes = refl; state = refl; stops_are = refl; past_is = refl }
is-shown c Tasks s stops past on forward = record { bytes = refl; state = refl; stops_are = refl; past_is = refl }
is-shown c (TaskQueue id) s stops past on forward = record { bytes = refl; state = refl; stops_are = refl; past_is = refl }
is-shown c (DeviceQueue n) s stops past on forward = record { bytes = refl; state = refl; stops_are = refl; past_is = refl }
is-shown c Blocks s stops past on forward = record { bytes = refl; state = refl; stops_are = refl; past_is = refl }
is-shown c (Instructions a n) s stops past on forward = record { bytes = refl; state = refl; stops_are = refl; past_is = refl }

pub no-steps : (o : Order) → ((n : ℕ) → o ≡ Step n → ⊥) → (o ≡ Continue → ⊥) → takes_steps o ≡ false
no-steps (Break a) step on = refl
no-steps (Unbreak a) step on = refl
no-steps (Step n) step on = absurd (step n refl)
no-steps (Back n) step on = refl
no-steps Continue step on = absurd (on refl)
no-steps Registers step on = refl
no-steps (Words a n) step on = refl
no-steps Tasks step on = refl
no-steps (TaskQueue id) step on = refl
no-steps (DeviceQueue n) step on = refl
no-steps Blocks step on = refl
no-steps (Instructions a n) step on = refl

pub ends-kept : {T E : Type 0} (c : Limits) (o : Order) (s : State) (stops : List ℕ) (past : List State) (t : State) (left : List ℕ) (r : Result T E) → IsShown c o s stops past
    → EndsTold c (here s stops None) (obeyed c o (here s stops None)) t left r → EndsToldBack c (here s stops (Some past)) (obeyed c o (here s stops (Some past))) t left past r
ends-kept c o s stops past t left (Ok x) same end = (end.0 ∙ same.state, end.1 ∙ same.stops_are, same.past_is)
ends-kept c o s stops past t left (Err e) same end = inl end

-- ---- how a line ends

module _ {T E : Type 0} (c : Limits) (d : Debugging) (told : Told) (t : State) (stops : List ℕ) (past : List State) where
  pub ended-well : (r : Result T E) → is_err r ≡ false → EndsToldBack c d told t stops past r → (t ≡ told.after.state) × (stops ≡ told.after.stops) × (Some past ≡ told.after.past)
  ended-well (Ok x) well end = end
  ended-well (Err e) well end = cc

  pub ended-badly : (r : Result T E) → is_err r ≡ true → EndsToldBack c d told t stops past r → HasDebugged (steps_left c d.state) d.state t ⊎ ((n : ℕ) × (t ≡ state_back n (past_of d) d.state))
  ended-badly (Ok x) badly end = cc
  ended-badly (Err e) badly end = end

module _ {T E : Type 0} {old new : Option (List ℕ)} {before : List ℕ} (after : List ℕ) where
  pub gathered-well : (text : List ℕ) (r : Result T E) → is_err r ≡ false → Gathers old new before after text r → IsGathered old new before after text
  gathered-well text (Ok x) well gathers = gathers
  gathered-well text (Err e) well gathers = cc

  pub cut-badly : (text : List ℕ) (r : Result T E) → is_err r ≡ true → Gathers old new before after text r → IsCut old new before text
  cut-badly text (Ok x) badly gathers = cc
  cut-badly text (Err e) badly gathers = gathers

  pub gathers-badly : (text : List ℕ) (r : Result T E) → is_err r ≡ true → IsCut old new before text → Gathers old new before after text r
  gathers-badly text (Ok x) badly cut = cc
  gathers-badly text (Err e) badly cut = cut
