-- The call that gives a task another priority.
use Rattle.std.specs.Prelude.{ℕ, ◌==◌, ◌&&◌, Bool, not, Option, Some, None, find, List, [], ◌∷◌, ◌++◌, nat_le}
use Rattle.std.specs.List.{list_any}
use Rattle.kernel_lists.specs.LinkedList.Places.{without_first}
use Rattle.kernel_model.specs.KernelRecord.Lists.{Lists}
use Rattle.kernel_model.specs.KernelRecord.MovedTask.{with_moved_task}
use Rattle.kernel_model.specs.KernelRecord.Task.{Task}
use Rattle.kernel_calls.specs.CallAnswers.Guests.{guest_tests}
use Rattle.kernel_calls.specs.CallAnswers.CallChange.{CallChange, done, unless_refused}

-- a priority that a guest may have: from 1 to 10,000
abbrev pub is_priority : ℕ → Bool
is_priority pri = nat_le 1 pri && nat_le pri 10000

-- whether a task with another number has the priority
abbrev pub is_taken : Lists → ℕ → ℕ → Bool
is_taken l id pri = list_any (λ t. (t.priority == pri) && not (t.id == id)) l.tasks

-- the tests of a new priority: it is one (code 9), and no other task has it (code 8)
abbrev pub priority_tests : Lists → ℕ → ℕ → List (Bool × ℕ)
priority_tests l id pri = (is_priority pri, 9) ∷ (not (is_taken l id pri), 8) ∷ []

-- the task that was found is at the place that the priority gives it, and the others are as before
abbrev pub moved : ℕ → Option Task → List Task → Lists → Lists
moved pri None others l = l
moved pri (Some t) others l = with_moved_task pri t others l

-- the lists with the task of this number at the place that its new priority gives it in the chain
abbrev pub with_new_priority : ℕ → ℕ → Lists → Lists
with_new_priority id pri l = moved pri (find (λ t. t.id == id) l.tasks) (without_first (λ t. t.id == id) l.tasks) l

-- The guest with the number gets another priority, unless it is refused; the answer is -1.
abbrev pub change_pri : Lists → ℕ → ℕ → CallChange
change_pri l id pri = unless_refused (guest_tests l id ++ priority_tests l id pri) l (done (with_new_priority id pri l))
