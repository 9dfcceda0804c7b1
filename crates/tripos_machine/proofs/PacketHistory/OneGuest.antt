-- One guest has another state or other flags, and the lists stay valid.
use Rattle.std.proofs.Common.{◌≡◌, ℕ, Bool, ◌∷◌, ◌++◌, true, refl, sym, ap, ◌∙◌, subst}
use Rattle.std.specs.List.{AllByRecursion}
use Rattle.std.proofs.lemmas.Bool.{false≢true}
use Rattle.kernel_model.specs.KernelRecord.Changes.{with_task, with_tasks}
use Rattle.kernel_model.specs.KernelRecord.Lists.{Lists}
use Rattle.kernel_model.specs.KernelRecord.Task.{Task, is_guest_id}
use Rattle.kernel_model.specs.KernelRecord.ValidLists.{AreValid}
use Rattle.kernel_model.specs.KernelRecord.ValidTasks.{AreValidCoroutines, IsField, IsTask}
use Rattle.kernel_model.proofs.KernelRecord.AllThings.{all-here}
use Rattle.kernel_model.proofs.KernelRecord.OneTask.{same_task-valid}
use Rattle.kernel_calls.specs.CallAnswers.Guests.{GuestAt}
use Rattle.kernel_calls.proofs.CallAnswers.GuestTask.{guest-changed}
use Rattle.kernel_calls.proofs.CallAnswers.Refusals.{accepted-guest}

-- the task in another state, with other flags
abbrev pub in_state : ℕ → ℕ → Bool → Task → Task
in_state field flags held t = record t { field = field; flags = flags; held = held }

module _ (l : Lists) (id address : ℕ) (v : AreValid l) (g : GuestAt l id address) where
  pub guest-valid : IsTask l g.task
  guest-valid = all-here (IsTask l) g.front g.task g.back (subst (AllByRecursion (IsTask l)) g.is v.tasks.each)

  coroutines : AreValidCoroutines l g.task
  coroutines = all-here (AreValidCoroutines l) g.front g.task g.back (subst (AllByRecursion (AreValidCoroutines l)) g.is v.coroutines)

  guest : is_guest_id g.task.id ≡ true
  guest = ap is_guest_id g.number ∙ accepted-guest l id address g

  pub state-valid : (change : Task → Task) (field flags : ℕ) (held : Bool) → change g.task ≡ in_state field flags held g.task → IsField field → AreValid (with_task id change l)
  state-valid change field flags held is fits =
      subst (λ ts. AreValid (with_tasks ts l)) (sym (guest-changed l id address change v g ∙ (λ i. g.front ++ is i ∷ g.back)))
      (same_task-valid l g.front g.back g.task (in_state field flags held g.task) v g.is (record { id = refl; address = refl; priority = refl; queue = refl; coroutines = refl }) task
      (record { each = coroutines.each; members = coroutines.members; distinct = coroutines.distinct }))
    where
      task : IsTask l (in_state field flags held g.task)
      task =
          let t : IsTask l g.task = guest-valid in
          record {
            low = t.low;
            high = t.high;
            maker = t.maker;
            field = fits;
            byte = t.byte;
            guest = λ is.
                let q = t.guest is in
                record { high = q.high; block = q.block; some_module = q.some_module; most = q.most; modules = q.modules; fault = q.fault; unreported = q.unreported };
            resident = λ is. absurd (false≢true (sym is ∙ guest));
          }
