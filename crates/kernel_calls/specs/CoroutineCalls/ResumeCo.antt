-- The call that resumes a coroutine.
use Rattle.std.specs.Prelude.{ℕ, ◌==◌, ◌||◌, if◌then◌else◌, Bool, not, Ok, List, [], ◌∷◌}
use Rattle.word_store.specs.declared.registers.Regs.{Regs}
use Rattle.kernel_lists.specs.Coroutines.CoroutineExchanges.{TaskCoroutines, current_of, with_resumed}
use Rattle.kernel_model.specs.KernelRecord.Lists.{Lists}
use Rattle.kernel_calls.specs.CoroutineCalls.CallersCoroutines.{coroutines_of_caller, has_parent, is_one_of, is_within}
use Rattle.kernel_calls.specs.CoroutineCalls.SwitchChange.{SwitchChange, handed, switched, unless_refused}

-- the tests of the call: the coroutine is one of the caller's (code 21), which is not in its root (code 23), and it has no
-- parent, or is the current one (code 22)
abbrev pub resume_tests : ℕ → TaskCoroutines → List (Bool × ℕ)
resume_tests c k = (is_one_of c k, 21) ∷ (is_within k, 23) ∷ (not (has_parent c k) || (current_of k == c), 22) ∷ []

-- the current one goes on as it is
abbrev pub resumed_itself : ℕ → Lists → Regs → SwitchChange
resumed_itself v l r = record { answer = Ok tt; lists = l; regs = handed v r }

-- c takes the place of the current one and goes on with v; where it is that one, no switch is made
abbrev pub resumeco : Lists → Regs → ℕ → ℕ → SwitchChange
resumeco l r c v =
    unless_refused (resume_tests c (coroutines_of_caller l)) l r
    (if current_of (coroutines_of_caller l) == c then resumed_itself v l r else switched (with_resumed c r.p r.pc) v l r)
