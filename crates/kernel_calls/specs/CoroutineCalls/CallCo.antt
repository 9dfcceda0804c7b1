-- The call that calls a coroutine.
use Rattle.std.specs.Prelude.{ℕ, Bool, not, List, [], ◌∷◌}
use Rattle.word_store.specs.declared.registers.Regs.{Regs}
use Rattle.kernel_lists.specs.Coroutines.CoroutineExchanges.{TaskCoroutines, with_called}
use Rattle.kernel_model.specs.KernelRecord.Lists.{Lists}
use Rattle.kernel_calls.specs.CoroutineCalls.CallersCoroutines.{coroutines_of_caller, has_parent, is_one_of}
use Rattle.kernel_calls.specs.CoroutineCalls.SwitchChange.{SwitchChange, switched, unless_refused}

-- the tests of a coroutine that is to be called: it is one of the caller's (code 21), and has no parent (code 22)
abbrev pub idle_tests : ℕ → TaskCoroutines → List (Bool × ℕ)
idle_tests c k = (is_one_of c k, 21) ∷ (not (has_parent c k), 22) ∷ []

-- the current one becomes the parent of c, and c goes on with v
abbrev pub callco : Lists → Regs → ℕ → ℕ → SwitchChange
callco l r c v = unless_refused (idle_tests c (coroutines_of_caller l)) l r (switched (with_called c r.p r.pc) v l r)
