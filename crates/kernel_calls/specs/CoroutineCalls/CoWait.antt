-- The call by which a coroutine waits, and what happens where its function has returned.
use Rattle.std.specs.Prelude.{◌≡◌, ℕ, Bool, true, List, [], ◌∷◌}
use Rattle.word_store.specs.declared.registers.Regs.{Regs}
use Rattle.kernel_lists.specs.Coroutines.CoroutineExchanges.{TaskCoroutines, current_of, function_of, with_waiting}
use Rattle.kernel_lists.specs.Coroutines.CoroutineWords.{bottom}
use Rattle.kernel_model.specs.KernelRecord.Lists.{Lists}
use Rattle.kernel_calls.specs.CoroutineCalls.CallersCoroutines.{coroutines_of_caller, is_within}
use Rattle.kernel_calls.specs.CoroutineCalls.SwitchChange.{SwitchChange, switched, unless_refused}

-- the caller is not in its root (code 23)
abbrev pub wait_tests : TaskCoroutines → List (Bool × ℕ)
wait_tests k = (is_within k, 23) ∷ []

-- the current one has no parent any more, and its parent goes on with v
abbrev pub cowait : Lists → Regs → ℕ → SwitchChange
cowait l r v = unless_refused (wait_tests (coroutines_of_caller l)) l r (switched (with_waiting r.p r.pc) v l r)

-- the running task is not in its root
abbrev pub IsWithin : Lists → Type 0
IsWithin l = is_within (coroutines_of_caller l) ≡ true

-- the current one waits, and will start again at its function, on its bottom frame
abbrev pub with_ended : TaskCoroutines → TaskCoroutines
with_ended k = with_waiting (bottom (current_of k)) (function_of (current_of k) k.list) k

-- the function of the current coroutine has returned: its parent goes on with what A holds
abbrev pub ended : Lists → Regs → SwitchChange
ended l r = switched with_ended r.a l r
