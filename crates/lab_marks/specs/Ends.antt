-- What a call gives that may find something wrong.
use Rattle.std.specs.Prelude.{◌≡◌, Result, Ok, Err}
use Rattle.lab_marks.specs.declared.ends.Hindered.{Hindered}
use Rattle.lab_marks.specs.declared.ends.Hindered.TheVariants.{Refused, WantMemory}
use Rattle.lab_marks.specs.declared.wrongs.Wrong.{Wrong}

-- an error is what the definition finds wrong, unless memory ran out
abbrev pub EndsAs : {X : Type 0} → Hindered → Result X Wrong → Type 0
EndsAs (Refused wrong) made = made ≡ Err wrong
EndsAs WantMemory made = Unit {0}

-- what a call returned, seen by view, is what the definition gives, unless memory ran out
abbrev pub Gives : {X Y : Type 0} → (X → Y) → Result X Hindered → Result Y Wrong → Type 0
Gives view (Ok x) made = made ≡ Ok (view x)
Gives view (Err e) made = EndsAs e made
