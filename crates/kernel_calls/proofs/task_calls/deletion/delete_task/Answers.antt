use Rattle.std.proofs.Common.{◌≡◌, ◌++◌, ℕ, List, Some, None, Ok, sym, ap, ◌∙◌}
use Rattle.std.proofs.lemmas.Result.{err_from_is_err_and}
use Rattle.kernel_calls.specs.CallAnswers.Guests.{GuestAt, guest_tests}
use Rattle.kernel_calls.specs.CallAnswers.CallChange.{done, minus_one}
use Rattle.kernel_calls.specs.CallAnswers.Refusals.{first_refusal}
use Rattle.kernel_calls.proofs.CallAnswers.MadeCalls.{handed-plain, made-accepted, made-refused}
use Rattle.kernel_calls.proofs.CallAnswers.Refusals.{answer_of-err, answer_of-ok, first_refusal-failed, first_refusal-passed}
use Rattle.kernel_model.specs.KernelRecord.Lists.{Lists}
use Rattle.kernel_calls.specs.TaskCalls.DeleteTask.{delete_task, deletion_tests, without_task}
use Rattle.kernel_calls.proofs.TaskCalls.EndTests.{may-go}
use Rattle.kernel_calls.proofs.task_calls.deletion.delete_task.Goals as goal

pub returns-in_err-task-clause-made : goal.returns-in_err-task-clause-made
returns-in_err-task-clause-made g c = λ l k runs.
    let s : List ℕ = c.args.store.now in
    let id : ℕ = c.args.id in
    let tells = g.Q.KindKeeper.tells c.args.kinds.now in
    let p = err_from_is_err_and c.from_residual.result c.from_residual.ensures.1 in
    handed-plain s s tells c.from_residual.result p.0 (delete_task l id) p.1
    (made-refused s l (guest_tests l id ++ deletion_tests l id) (done (without_task l id)) tells p.0 k.lists k.knows
    (first_refusal-failed (guest_tests l id) (deletion_tests l id) p.0 (c.in_err-task.ensures l k.lists ∙ ap Some (sym p.2))))

pub returns-in_err-check_deletion-clause-made : goal.returns-in_err-check_deletion-clause-made
returns-in_err-check_deletion-clause-made g c = λ l k runs.
    let s : List ℕ = c.args.store.now in
    let id : ℕ = c.args.id in
    let tells = g.Q.KindKeeper.tells c.args.kinds.now in
    let x : GuestAt l id c.in_ok-task.task = c.in_ok-task.ensures l k.lists in
    let p = err_from_is_err_and c.from_residual-in_err-check_deletion.result c.from_residual-in_err-check_deletion.ensures.1 in
    handed-plain s s tells c.from_residual-in_err-check_deletion.result p.0 (delete_task l id) p.1
    (made-refused s l (guest_tests l id ++ deletion_tests l id) (done (without_task l id)) tells p.0 k.lists k.knows
    (first_refusal-passed (guest_tests l id) (deletion_tests l id) x.accepted ∙ answer_of-err _ c.in_err-check_deletion.field-0.0 (c.in_err-check_deletion.ensures l k runs x) ∙ ap Some (sym p.2)))

pub remove_task-requires : goal.remove_task-requires
remove_task-requires g c =
    let l : Lists = c.requires.0 in
    let k = c.requires.1 in
    let x : GuestAt l c.args.id c.in_ok-task.task = c.in_ok-task.ensures l k.lists in
    let go = may-go c.args.store.now l c.args.id c.in_ok-task.task k.lists c.requires.2 x (answer_of-ok _ _ (c.in_ok-check_deletion.ensures l k c.requires.2 x)) in
    (l, c.args.id, k, go.0, go.1)

pub returns-clause-made : goal.returns-clause-made
returns-clause-made g c = λ l k runs.
    let s : List ℕ = c.args.store.now in
    let id : ℕ = c.args.id in
    let x : GuestAt l id c.in_ok-task.task = c.in_ok-task.ensures l k.lists in
    let none : first_refusal (deletion_tests l id) ≡ None = answer_of-ok _ _ (c.in_ok-check_deletion.ensures l k runs x) in
    let go = may-go s l id c.in_ok-task.task k.lists runs x none in
    made-accepted s l (guest_tests l id ++ deletion_tests l id) (done (without_task l id)) c.remove_task.new.store (g.Q.KindKeeper.tells c.remove_task.new.kinds) (Ok minus_one)
    (first_refusal-passed (guest_tests l id) (deletion_tests l id) x.accepted ∙ none) (c.remove_task.ensures.made l id k go.0 go.1)
