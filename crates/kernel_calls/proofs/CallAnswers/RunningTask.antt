-- The running task, by the root's word that leads to it.
use Rattle.std.proofs.Common.{◌≡◌, ℕ, List, [], ◌∷◌, get_or, cond, eqb, ◌||◌, Bool, true, false, refl, sym, ap, subst}
use Rattle.std.proofs.lemmas.Bool.{eqb-true}
use Rattle.kernel_lists.specs.TaskBlock.HeldTasks.{address_with}
use Rattle.kernel_model.specs.KernelRecord.HoldsLists.{HoldsLists}
use Rattle.kernel_model.specs.KernelRecord.Lists.{Lists, address_of_task, has_task}
use Rattle.kernel_model.specs.KernelRecord.Task.{Task, task_address, task_id}
use Rattle.kernel_calls.specs.CallAnswers.Callers.{HasCaller}
use Rattle.kernel_calls.specs.CallAnswers.Guests.{GuestAt}
use Rattle.kernel_calls.proofs.CallAnswers.FoundTask.{TaskAt}
use Rattle.kernel_calls.proofs.CallAnswers.Refusals.{guest-at}
use Rattle.kernel_calls.proofs.CallAnswers.RootTold.{running-word}

-- a task that is there is where the table leads to
pub there-at : (id : ℕ) (ts : List Task) → has_task id ts ≡ true → TaskAt ts id (address_with task_address task_id ts id)
there-at id [] e = cc
there-at id (t ∷ ts) e = on (eqb t.id id) refl e (there-at id ts)
  where
    behind : (a : ℕ) → TaskAt ts id a → TaskAt (t ∷ ts) id a
    behind a m = record { front = t ∷ m.front; task = m.task; back = m.back; is = ap (λ z. t ∷ z) m.is; number = m.number; at = m.at }

    on : (b : Bool) → eqb t.id id ≡ b → (b || has_task id ts) ≡ true → (has_task id ts ≡ true → TaskAt ts id (address_with task_address task_id ts id))
        → TaskAt (t ∷ ts) id (cond b t.address (address_with task_address task_id ts id))
    on true f e more = record { front = []; task = t; back = ts; is = refl; number = eqb-true t.id id f; at = refl }
    on false f e more = behind (address_with task_address task_id ts id) (more e)

pub caller-at : (s : List ℕ) (l : Lists) → HoldsLists s l → HasCaller l → GuestAt l l.running (get_or s 102 0)
caller-at s l h c = subst (GuestAt l l.running) (sym (running-word s l h)) (guest-at l l.running (address_of_task l l.running) (there-at l.running l.tasks c.there) c.guest)
