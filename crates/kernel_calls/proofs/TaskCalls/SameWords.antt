-- The calls that change one task leave the same words owned.
use Rattle.std.proofs.Common.{◌≡◌, ℕ, ◌+◌, ◌++◌, not, true, false, List, [], ◌∷◌, Bool, Option, Some, None, refl, sym, ap, ◌∙◌}
use Rattle.kernel_lists.specs.OwnedWords.Exchange.{Exchange}
use Rattle.kernel_lists.specs.OwnedWords.LinkedWords.{first_of}
use Rattle.kernel_lists.specs.OwnedWords.Owned.{owners}
use Rattle.kernel_model.specs.KernelRecord.Changes.{with_task, with_tasks}
use Rattle.kernel_model.specs.KernelRecord.HoldsLists.{HoldsLists}
use Rattle.kernel_model.specs.KernelRecord.Lists.{Lists}
use Rattle.kernel_model.specs.KernelRecord.Owned.{owned}
use Rattle.kernel_model.specs.KernelRecord.Task.{Task, state_word, task_address, task_words}
use Rattle.kernel_model.proofs.KernelRecord.ChangedLists.{one_task-owned, owners-exchanged}
use Rattle.kernel_calls.specs.CallAnswers.Callers.{HasCaller}
use Rattle.kernel_calls.specs.CallAnswers.Guests.{GuestAt, guest_tests}
use Rattle.kernel_calls.specs.CallAnswers.CallChange.{CallChange, by_refusal, done}
use Rattle.kernel_calls.specs.CallAnswers.Refusals.{first_refusal}
use Rattle.kernel_calls.proofs.CallAnswers.Refusals.{first_refusal-front, first_refusal-passed, guest-at, guest-parts}
use Rattle.kernel_calls.proofs.CallAnswers.RunningTask.{caller-at, there-at}
use Rattle.kernel_calls.proofs.CallAnswers.GuestTask.{guest-changed}
use Rattle.kernel_calls.specs.TaskCalls.ChangePri.{change_pri, priority_tests, with_new_priority}
use Rattle.kernel_calls.specs.TaskCalls.HoldTask.{held, hold}
use Rattle.kernel_calls.specs.TaskCalls.OneTask.{is_held}
use Rattle.kernel_calls.specs.TaskCalls.ReleaseTask.{release, released}
use Rattle.kernel_calls.specs.TaskCalls.SetFlags.{flagged, set_flags}
use Rattle.kernel_calls.specs.TaskCalls.TestFlags.{cleared, test_flags}
use Rattle.kernel_calls.proofs.TaskCalls.ChangedPriority.{priority-owners}
use Rattle.kernel_calls.proofs.TaskCalls.Flagged.{flags-exchange}
use Rattle.kernel_calls.proofs.TaskCalls.Held.{state-exchange}

-- refused or not
refused-owners : (l : Lists) (made : CallChange) (a : ℕ) (o : Option ℕ) → (o ≡ None → owners a (owned made.lists) ≡ owners a (owned l)) → owners a (owned (by_refusal o l made).lists) ≡ owners a (owned l)
refused-owners l made a None same = same refl
refused-owners l made a (Some code) same = refl

guest-there : (l : Lists) (id : ℕ) → first_refusal (guest_tests l id) ≡ None → (address : ℕ) × GuestAt l id address
guest-there l id e = (let p = guest-parts l id e in (_, guest-at l id _ (there-at id l.tasks p.0) p.1))

module _ (s : List ℕ) (l : Lists) (h : HoldsLists s l) (a : ℕ) where
  word-owners : (id address : ℕ) (change : Task → Task) (b w x : ℕ) → (g : GuestAt l id address) → (change g.task).id ≡ g.task.id → (change g.task).address ≡ g.task.address
      → ((n : ℕ) → Exchange (task_words l.version g.task n) (task_words l.version (change g.task) n) ((b, w) ∷ []) ((b, x) ∷ []))
      → owners a (owned (with_task id change l)) ≡ owners a (owned l)
  word-owners id address change b w x g number place inner =
      ap (λ ts. owners a (owned (with_tasks ts l))) (guest-changed l id address change h.valid g)
      ∙ sym (owners-exchanged (owned l) (owned (with_tasks (g.front ++ change g.task ∷ g.back) l)) ((b, w) ∷ []) ((b, x) ∷ []) a
      (one_task-owned l g.front g.task (change g.task) g.back ((b, w) ∷ []) ((b, x) ∷ []) g.is (sym number) (sym place) (inner (first_of task_address g.back 0)))
      refl)

  -- of the guest that was found
  guest-owners : (id : ℕ) (rest : List (Bool × ℕ)) (made : CallChange) → ((address : ℕ) → GuestAt l id address → first_refusal rest ≡ None → owners a (owned made.lists) ≡ owners a (owned l))
      → owners a (owned (by_refusal (first_refusal (guest_tests l id ++ rest)) l made).lists) ≡ owners a (owned l)
  guest-owners id rest made same =
      refused-owners l made a (first_refusal (guest_tests l id ++ rest))
      (λ e. (let first : first_refusal (guest_tests l id) ≡ None = first_refusal-front (guest_tests l id) rest e in
      let g = guest-there l id first in
      same g.0 g.1 (sym (first_refusal-passed (guest_tests l id) rest first) ∙ e)))

  pub hold-owners : (id : ℕ) → owners a (owned (hold l id).lists) ≡ owners a (owned l)
  hold-owners id =
      guest-owners id ((not (is_held l id), 16) ∷ []) (done (with_task id held l))
      (λ address g e. word-owners id address held (g.task.address + 4) (state_word g.task) (state_word (held g.task)) g refl refl (state-exchange l.version g.task true))

  pub release-owners : (id : ℕ) → owners a (owned (release l id).lists) ≡ owners a (owned l)
  release-owners id =
      guest-owners id ((is_held l id, 15) ∷ []) (done (with_task id released l))
      (λ address g e. word-owners id address released (g.task.address + 4) (state_word g.task) (state_word (released g.task)) g refl refl (state-exchange l.version g.task false))

  pub set_flags-owners : (id flags : ℕ) → owners a (owned (set_flags l id flags).lists) ≡ owners a (owned l)
  set_flags-owners id flags =
      refused-owners l (done (with_task id (flagged flags) l)) a (first_refusal (guest_tests l id))
      (λ e. (let g = guest-there l id e in
      word-owners id g.0 (flagged flags) (g.1.task.address + 5) g.1.task.flags (flagged flags g.1.task).flags g.1 refl refl (flags-exchange l.version g.1.task (flagged flags g.1.task).flags)))

  pub test_flags-owners : (mask : ℕ) → HasCaller l → owners a (owned (test_flags l mask).lists) ≡ owners a (owned l)
  test_flags-owners mask caller =
      let g = caller-at s l h caller in
      word-owners l.running _ (cleared mask) (g.task.address + 5) g.task.flags (cleared mask g.task).flags g refl refl (flags-exchange l.version g.task (cleared mask g.task).flags)

  pub change_pri-owners : (id pri : ℕ) → owners a (owned (change_pri l id pri).lists) ≡ owners a (owned l)
  change_pri-owners id pri =
      guest-owners id (priority_tests l id pri) (done (with_new_priority id pri l))
      (λ address g e. priority-owners s l id address pri h g a)
