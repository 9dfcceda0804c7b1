-- The call that takes a block.
use Rattle.std.specs.Prelude.{ℕ, Bool, Ok, List, [], ◌∷◌}
use Rattle.kernel_model.specs.KernelRecord.Lists.{Lists}
use Rattle.kernel_calls.specs.CallAnswers.CallChange.{CallChange, unless_refused}
use Rattle.kernel_calls.specs.BlockCalls.FreeStore.{data_taken, has_room, with_taken}

-- some run is large enough (code 1)
abbrev pub getvec_tests : Lists → ℕ → List (Bool × ℕ)
getvec_tests l u = (has_room u l, 1) ∷ []

-- a block with the data words 0 to u is taken, and its data address is the answer
abbrev pub getvec : Lists → ℕ → CallChange
getvec l u = unless_refused (getvec_tests l u) l (record { answer = Ok (data_taken u l); lists = with_taken u l; plain = []; events = [] })
