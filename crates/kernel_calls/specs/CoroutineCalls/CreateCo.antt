-- The call that makes a coroutine.
use Rattle.std.specs.Prelude.{ℕ, Bool, Ok, List, [], ◌∷◌}
use Rattle.kernel_calls.specs.BlockCalls.FreeStore.{data_taken, has_room, with_taken}
use Rattle.kernel_lists.specs.Coroutines.CoroutineExchanges.{TaskCoroutines, new_coroutine, with_list}
use Rattle.kernel_lists.specs.Coroutines.Creation.{highest}
use Rattle.kernel_model.specs.KernelRecord.Lists.{Lists}
use Rattle.kernel_calls.specs.CallAnswers.CallChange.{CallChange, unless_refused}
use Rattle.kernel_calls.specs.CoroutineCalls.CallersCoroutines.{with_callers}

-- some run is large enough for the data words 0 to u, or to 16 where u is less (code 20)
abbrev pub create_tests : Lists → ℕ → List (Bool × ℕ)
create_tests l u = (has_room (highest u) l, 20) ∷ []

-- the task's coroutines with a new one at c, which comes first
abbrev pub with_created : ℕ → ℕ → ℕ → TaskCoroutines → TaskCoroutines
with_created c entry u k = with_list (new_coroutine c entry u ∷ k.list) k

-- the lists with the coroutine at c, in a block that was taken for it
abbrev pub with_created_at : ℕ → ℕ → ℕ → Lists → Lists
with_created_at c entry u l = with_callers (with_created c entry u) (with_taken (highest u) l)

-- a coroutine is made at c, and c is the answer
abbrev pub created : ℕ → ℕ → ℕ → Lists → CallChange
created c entry u l = record { answer = Ok c; lists = with_created_at c entry u l; plain = []; events = [] }

-- A new coroutine of the running task, with its function at the byte address `entry`, and words up to the index u. Its address is
-- the answer, unless it is refused.
abbrev pub createco : Lists → ℕ → ℕ → CallChange
createco l entry u = unless_refused (create_tests l u) l (created (data_taken (highest u) l) entry u l)
