-- How a kernel call is refused.
use Rattle.std.specs.Prelude.{ℕ, Bool, if◌then◌else◌, Option, Some, None, Result, Ok, Err, List, [], ◌∷◌}

-- The tests of a call in their order, each with the code of its refusal: the first that does not hold refuses.
abbrev pub first_refusal : List (Bool × ℕ) → Option ℕ
first_refusal [] = None
first_refusal (test ∷ tests) = if test.0 then first_refusal tests else Some test.1

-- what a part of a call answers that has no answer of its own: the code of its refusal, if it has one
abbrev pub answer_of : Option ℕ → Result (Unit {0}) ℕ
answer_of None = Ok tt
answer_of (Some code) = Err code
