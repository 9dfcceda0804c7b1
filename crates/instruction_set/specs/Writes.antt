-- What the code keeps of a change, as the definitions see it.
use Rattle.std.specs.Prelude.{ℕ, List, [], ◌∷◌, Result, Ok, Err}
use Rattle.word_store.specs.Arithmetic.{add}
use Rattle.instruction_set.specs.declared.Fault.{Fault}
use Rattle.instruction_set.specs.declared.writes.Writes.{Writes}
use Rattle.instruction_set.specs.declared.writes.Writes.TheVariants.{Nothing, Word, Frame}
use Rattle.instruction_set.specs.declared.changes.Change.{Change as Made}
use Rattle.instruction_set.specs.Change.{Change}

-- the addresses and words of the writes that an instruction makes: none, one, or the four words of a new frame
abbrev pub list_of : Writes → List (ℕ × ℕ)
list_of Nothing = []
list_of (Word a w) = (a, w) ∷ []
list_of (Frame a p next function argument) = (a, p) ∷ (add a 1, next) ∷ (add a 2, function) ∷ (add a 3, argument) ∷ []

-- a change as the code keeps it, with its writes as a list
abbrev pub change_seen : Made → Change
change_seen c = record { regs = c.regs; writes = list_of c.writes }

-- the same of a change, or of the fault in its place
abbrev pub seen : Result Made Fault → Result Change Fault
seen (Ok c) = Ok (change_seen c)
seen (Err f) = Err f
