use Rattle.std.proofs.Common.{◌+◌, ◌-◌, [], ◌∷◌, set, true, false, Ok, refl, sym, ap, ◌∙◌, subst}
use Rattle.std.proofs.lemmas.Result.{err_from_is_err_and}
use Rattle.kernel_model.specs.KernelRecord.ChangedStore.{IsChanged}
use Rattle.kernel_model.specs.KernelRecord.Changes.{with_task}
use Rattle.kernel_calls.specs.CallAnswers.CallChange.{done, minus_one}
use Rattle.kernel_calls.specs.CallAnswers.Guests.{guest_tests}
use Rattle.kernel_calls.proofs.CallAnswers.Refusals.{first_refusal-failed}
use Rattle.kernel_calls.proofs.CallAnswers.MadeCalls.{leaves-accepted, leaves-refused}
use Rattle.kernel_calls.specs.TaskCalls.OneTask.{is_held}
use Rattle.kernel_calls.specs.TaskCalls.ReleaseTask.{release_tests, released}
use Rattle.kernel_calls.proofs.TaskCalls.Held.{held-bit, release-accepted, release-changed, release-refused}
use Rattle.kernel_calls.proofs.task_calls.release.release_task.Goals as goal

pub returns-in_err-task : goal.returns-in_err-task
returns-in_err-task c = λ l h.
    let p = err_from_is_err_and c.from_residual.result c.from_residual.ensures.1 in
    rw (p.1, p.2)
    (leaves-refused c.args.store.now l (release_tests l c.args.id) (done (with_task c.args.id released l)) c.in_err-task.field-0.0 h
    (first_refusal-failed (guest_tests l c.args.id) ((is_held l c.args.id, 15) ∷ []) c.in_err-task.field-0.0 (c.in_err-task.ensures l h)))

pub returns-then-not-is_held_state : goal.returns-then-not-is_held_state
returns-then-not-is_held_state c = λ l h.
    leaves-refused c.args.store.now l (release_tests l c.args.id) (done (with_task c.args.id released l)) 15 h
    (release-refused c.args.store.now l c.args.id c.in_ok-task.task h (c.in_ok-task.ensures l h) (held-bit _ _ _ false c.field-state.ensures c.is_held_state.ensures c.if-not-is_held_state.true))

pub returns : goal.returns
returns c = λ l h.
    let held = held-bit _ _ _ true c.field-state.ensures c.is_held_state.ensures c.if-not-is_held_state.false in
    leaves-accepted c.args.store.now l (release_tests l c.args.id) (done (with_task c.args.id released l)) c.set_field.new.store (Ok minus_one)
    (release-accepted c.args.store.now l c.args.id c.in_ok-task.task h (c.in_ok-task.ensures l h) held)
    (record {
      lists =
          subst (λ t. IsChanged c.args.store.now t (with_task c.args.id released l) [])
          (sym (c.set_field.ensures ∙ ap (λ w. set c.args.store.now (c.in_ok-task.task + 4) (w - 2)) c.field-state.ensures))
          (release-changed c.args.store.now l c.args.id c.in_ok-task.task h (c.in_ok-task.ensures l h) held);
      answered = refl;
    })
