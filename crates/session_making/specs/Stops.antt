-- What a call gives that may find something wrong at a place of a request.
use Rattle.std.specs.Prelude.{◌≡◌, Result, Ok, Err}
use Rattle.session_making.specs.declared.ends.Hindered.{Hindered}
use Rattle.session_making.specs.declared.ends.Hindered.TheVariants.{Refused as Found, WantMemory as NoMemory}
use Rattle.session_making.specs.declared.stops.Place.{Place}
use Rattle.session_making.specs.declared.stops.Refusal.{Refusal}
use Rattle.session_making.specs.declared.stops.Stop.{Stop}
use Rattle.session_making.specs.declared.stops.Stop.TheVariants.{Refused, WantMemory}
use Rattle.session_making.specs.declared.wrongs.Wrong.{Wrong}

-- something is wrong at a place
abbrev pub refusal : Place → Wrong → Refusal
refusal place wrong = record { place = place; wrong = wrong }

-- what is wrong, with its place
abbrev pub stop_at : Place → Hindered → Stop
stop_at place (Found wrong) = Refused (refusal place wrong)
stop_at place NoMemory = WantMemory

-- what was made, or what is wrong at the place
abbrev pub at_place : {X : Type 0} → Place → Result X Wrong → Result X Refusal
at_place place (Ok x) = Ok x
at_place place (Err wrong) = Err (refusal place wrong)

-- an error is what the definition finds wrong, unless memory ran out
abbrev pub StopsAs : {X : Type 0} → Stop → Result X Refusal → Type 0
StopsAs (Refused refusal) made = made ≡ Err refusal
StopsAs WantMemory made = Unit {0}

-- what a call returned, seen by view, is what the definition gives, unless memory ran out
abbrev pub Stops : {X Y : Type 0} → (X → Y) → Result X Stop → Result Y Refusal → Type 0
Stops view (Ok x) made = made ≡ Ok (view x)
Stops view (Err e) made = StopsAs e made
