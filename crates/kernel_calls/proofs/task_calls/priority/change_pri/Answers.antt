use Rattle.std.proofs.Common.{◌≡◌, ◌++◌, None, [], Ok, refl, sym, ◌∙◌, subst}
use Rattle.std.proofs.lemmas.Result.{err_from_is_err_and}
use Rattle.kernel_model.specs.KernelRecord.ChangedStore.{IsChanged}
use Rattle.kernel_calls.specs.CallAnswers.Guests.{GuestAt, guest_tests}
use Rattle.kernel_calls.specs.CallAnswers.CallChange.{done, minus_one}
use Rattle.kernel_calls.specs.CallAnswers.Refusals.{first_refusal}
use Rattle.kernel_calls.proofs.CallAnswers.FoundTask.{reads}
use Rattle.kernel_calls.proofs.CallAnswers.MadeCalls.{leaves-accepted, leaves-refused}
use Rattle.kernel_calls.proofs.CallAnswers.Refusals.{answer_of-err, answer_of-ok, first_refusal-failed}
use Rattle.kernel_calls.specs.TaskCalls.ChangePri.{priority_tests, with_new_priority}
use Rattle.kernel_calls.proofs.TaskCalls.ChangedPriority.{guest-in_chain, priority-changed, refusal-is}
use Rattle.kernel_calls.proofs.task_calls.priority.change_pri.Goals as goal

pub move_task-requires-clause-tasks : goal.move_task-requires-clause-tasks
move_task-requires-clause-tasks c = (reads c.args.store.now c.requires.0 c.requires.1).tasks.tasks

pub move_task-requires-clause-task : goal.move_task-requires-clause-task
move_task-requires-clause-task c =
    guest-in_chain c.args.store.now c.requires.0 c.args.id c.in_ok-task.task c.args.pri c.requires.1 (c.in_ok-task.ensures c.requires.0 c.requires.1)

pub returns-in_err-task : goal.returns-in_err-task
returns-in_err-task c = λ l h.
    let p = err_from_is_err_and c.from_residual.result c.from_residual.ensures.1 in
    rw (p.1, p.2)
    (leaves-refused c.args.store.now l (guest_tests l c.args.id ++ priority_tests l c.args.id c.args.pri) (done (with_new_priority c.args.id c.args.pri l)) c.in_err-task.field-0.0 h
    (first_refusal-failed (guest_tests l c.args.id) (priority_tests l c.args.id c.args.pri) c.in_err-task.field-0.0 (c.in_err-task.ensures l h)))

pub returns-in_err-check_priority : goal.returns-in_err-check_priority
returns-in_err-check_priority c = λ l h.
    let p = err_from_is_err_and c.from_residual-in_err-check_priority.result c.from_residual-in_err-check_priority.ensures.1 in
    rw (p.1, p.2)
    (leaves-refused c.args.store.now l (guest_tests l c.args.id ++ priority_tests l c.args.id c.args.pri) (done (with_new_priority c.args.id c.args.pri l)) c.in_err-check_priority.field-0.0 h
    (refusal-is c.args.store.now l c.args.id c.in_ok-task.task c.args.pri h (c.in_ok-task.ensures l h)
    ∙ answer_of-err (first_refusal (priority_tests l c.args.id c.args.pri)) c.in_err-check_priority.field-0.0 (c.in_err-check_priority.ensures l h)))

pub returns : goal.returns
returns c = λ l h.
    let g : GuestAt l c.args.id c.in_ok-task.task = c.in_ok-task.ensures l h in
    let none : first_refusal (priority_tests l c.args.id c.args.pri) ≡ None = answer_of-ok (first_refusal (priority_tests l c.args.id c.args.pri)) _ (c.in_ok-check_priority.ensures l h) in
    leaves-accepted c.args.store.now l (guest_tests l c.args.id ++ priority_tests l c.args.id c.args.pri) (done (with_new_priority c.args.id c.args.pri l)) c.move_task.new.store (Ok minus_one)
    (refusal-is c.args.store.now l c.args.id c.in_ok-task.task c.args.pri h g ∙ none)
    (record {
      lists =
          subst (λ t. IsChanged c.args.store.now t (with_new_priority c.args.id c.args.pri l) []) (sym c.move_task.ensures)
          (priority-changed c.args.store.now l c.args.id c.in_ok-task.task c.args.pri h g none);
      answered = refl;
    })
