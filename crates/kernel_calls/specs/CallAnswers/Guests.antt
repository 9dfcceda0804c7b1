-- The guest that a call is about, by its number.
use Rattle.std.specs.Prelude.{◌≡◌, ℕ, Bool, Some, None, Result, Ok, Err, List, [], ◌∷◌, ◌++◌}
use Rattle.kernel_model.specs.KernelRecord.Lists.{Lists, has_task}
use Rattle.kernel_model.specs.KernelRecord.Task.{Task, is_guest_id}
use Rattle.kernel_calls.specs.CallAnswers.Refusals.{first_refusal}

-- there is a task with the number (code 2), and it is no resident (code 14)
abbrev pub guest_tests : Lists → ℕ → List (Bool × ℕ)
guest_tests l id = (has_task id l.tasks, 2) ∷ (is_guest_id id, 14) ∷ []

-- the guest with the number is the task at the address
pub record GuestAt (l : Lists) (id address : ℕ) : Type 0 where
  -- the tasks before it in the chain
  pub front : List Task
  -- the guest
  pub task : Task
  -- the tasks after it
  pub back : List Task
  -- these are all tasks
  pub is : l.tasks ≡ front ++ task ∷ back
  -- it has the number
  pub number : task.id ≡ id
  -- its task block is at the address
  pub at : task.address ≡ address
  -- a call for it is not refused
  pub accepted : first_refusal (guest_tests l id) ≡ None

-- the address of the guest, or the code of the first of these tests that fails
abbrev pub IsGuestOf : Lists → ℕ → Result ℕ ℕ → Type 0
IsGuestOf l id (Ok address) = GuestAt l id address
IsGuestOf l id (Err code) = first_refusal (guest_tests l id) ≡ Some code
