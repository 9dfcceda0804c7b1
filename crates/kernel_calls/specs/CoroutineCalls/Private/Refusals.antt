-- The codes of the refusals of calls on coroutines.
use Rattle.std.specs.Prelude.{ℕ, Result, Ok, Err}
use Rattle.kernel_lists.specs.declared.coroutine_lists.ends.CoEnd.{CoEnd}
use Rattle.kernel_lists.specs.declared.coroutine_lists.ends.CoEnd.TheVariants.{HasParent, NoParent, Unknown}

-- the code that a guest gets, of each reason for which a call on coroutines is refused
abbrev pub code_of : CoEnd → ℕ
code_of Unknown = 21
code_of HasParent = 22
code_of NoParent = 23

-- an answer with the code in place of the reason
abbrev pub coded : Result (Unit {0}) CoEnd → Result (Unit {0}) ℕ
coded (Ok u) = Ok tt
coded (Err reason) = Err (code_of reason)
