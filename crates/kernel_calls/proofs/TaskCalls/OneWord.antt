-- One word of one task is written, and the store holds the lists with the task changed.
use Rattle.std.proofs.Common.{◌≡◌, ℕ, List, [], ◌∷◌, ◌++◌, length, set, sym, ◌∙◌, subst, arith}
use Rattle.kernel_lists.specs.OwnedWords.Exchange.{Exchange}
use Rattle.kernel_lists.specs.OwnedWords.LinkedWords.{first_of}
use Rattle.kernel_lists.specs.OwnedWords.Written.{IsWritten}
use Rattle.kernel_lists.proofs.OwnedWords.WrittenWords.{writes-hold}
use Rattle.kernel_lists.proofs.OwnedWords.OwnedWords.{length-written}
use Rattle.kernel_model.specs.KernelRecord.ChangedStore.{IsChanged}
use Rattle.kernel_model.specs.KernelRecord.Changes.{SameTask, with_task, with_tasks}
use Rattle.kernel_model.specs.KernelRecord.HoldsLists.{HoldsLists}
use Rattle.kernel_model.specs.KernelRecord.Lists.{Lists}
use Rattle.kernel_model.specs.KernelRecord.Owned.{owned}
use Rattle.kernel_model.specs.KernelRecord.Task.{Task, task_address, task_words}
use Rattle.kernel_model.specs.KernelRecord.ValidLists.{AreValid}
use Rattle.kernel_model.specs.KernelRecord.ValidTasks.{AreValidCoroutines, IsTask}
use Rattle.kernel_model.proofs.KernelRecord.OneTask.{same_task-valid}
use Rattle.kernel_model.proofs.KernelRecord.OneTaskExchange.{one_task-exchange}
use Rattle.kernel_calls.specs.CallAnswers.Guests.{GuestAt}
use Rattle.kernel_calls.proofs.CallAnswers.GuestTask.{guest-changed}

pub one-word : (s : List ℕ) (l : Lists) (front : List Task) (t u : Task) (back : List Task) (a w x : ℕ) → HoldsLists s l → l.tasks ≡ front ++ t ∷ back
    → SameTask t u → IsTask l u → AreValidCoroutines l u
    → ((n : ℕ) → Exchange (task_words l.version t n) (task_words l.version u n) ((a, w) ∷ []) ((a, x) ∷ []))
    → IsChanged s (set s a x) (with_tasks (front ++ u ∷ back) l) []
one-word s l front t u back a w x h is same task coroutines inner =
    let m : Lists = with_tasks (front ++ u ∷ back) l in
    let v : AreValid m = same_task-valid l front back t u h.valid is same task coroutines in
    let size : length (set s a x) ≡ length s = length-written ((a, x) ∷ []) s in
    let exchange : Exchange (owned l) (owned m) ((a, w) ∷ []) ((a, x) ∷ []) =
    subst (λ ts. Exchange (owned (with_tasks ts l)) (owned m) ((a, w) ∷ []) ((a, x) ∷ [])) (sym is)
    (one_task-exchange l front t u back ((a, w) ∷ []) ((a, x) ∷ []) (sym same.id) (sym same.address) (inner (first_of task_address back 0)))
    in
    let now : IsWritten s (set s a x) (owned m) [] =
    writes-hold s (owned l) (owned m) ((a, w) ∷ []) ((a, x) ∷ []) [] []
    (record {
      holds = h.holds;
      exchange = exchange;
      there = tt;
      apart = v.owns.apart;
      inside = λ b some. omega (arith, h.size, v.owns.inside b some);
      unowned = λ b some. absurd (omega (arith, some));
    })
    in
    record { lists = record { valid = v; size = size ∙ h.size; holds = now.holds }; size = size; written = now }

-- the same of the task with a number
pub word-changed : (s : List ℕ) (l : Lists) (id address : ℕ) (change : Task → Task) (a w x : ℕ) → HoldsLists s l → (g : GuestAt l id address)
    → SameTask g.task (change g.task) → IsTask l (change g.task) → AreValidCoroutines l (change g.task)
    → ((n : ℕ) → Exchange (task_words l.version g.task n) (task_words l.version (change g.task) n) ((a, w) ∷ []) ((a, x) ∷ []))
    → IsChanged s (set s a x) (with_task id change l) []
word-changed s l id address change a w x h g same task coroutines inner =
    subst (λ ts. IsChanged s (set s a x) (with_tasks ts l) [])
    (sym (guest-changed l id address change h.valid g))
    (one-word s l g.front g.task (change g.task) g.back a w x h g.is same task coroutines inner)
