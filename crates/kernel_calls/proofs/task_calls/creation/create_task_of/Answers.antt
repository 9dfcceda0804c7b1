use Rattle.std.proofs.Common.{ℕ, List}
use Rattle.std.proofs.lemmas.Result.{err_from_is_err_and}
use Rattle.kernel_calls.proofs.CallAnswers.Refusals.{answer_of-err, answer_of-ok}
use Rattle.kernel_calls.proofs.CallAnswers.MadeCalls.{handed-on}
use Rattle.kernel_model.specs.KernelRecord.Lists.{Lists}
use Rattle.kernel_model.proofs.KernelRecord.WalkedLists.{can-walk}
use Rattle.kernel_calls.specs.TaskCalls.CreateTask.{create_task}
use Rattle.kernel_calls.proofs.TaskCalls.CreationTests.{by-globals, by-modules, by-number, by-priority, by-room, listed-in, may-place, refused-made}
use Rattle.kernel_calls.proofs.TaskCalls.ModuleGlobals.{has-modules}
use Rattle.kernel_calls.proofs.task_calls.creation.create_task_of.Goals as goal

pub check_modules-requires : goal.check_modules-requires
check_modules-requires g c = (can-walk c.args.store.now c.requires.0 c.requires.1.lists).modules

pub returns-in_err-check_modules-clause-made : goal.returns-in_err-check_modules-clause-made
returns-in_err-check_modules-clause-made g c = λ l k may.
    let s : List ℕ = c.args.store.now in
    let ms : List ℕ = c.args.modules.now in
    let tells = g.Q.KindKeeper.tells c.args.kinds.now in
    let code : ℕ = c.in_err-check_modules.field-0.0 in
    let p = err_from_is_err_and c.from_residual.result c.from_residual.ensures.1 in
    handed-on s s tells c.from_residual.result p.0 code (create_task s l c.args.id ms c.args.u c.args.pri c.args.maker) p.1 p.2
    (refused-made s l c.args.id ms c.args.u c.args.pri c.args.maker k.lists tells code k.knows
    (by-modules s l c.args.id ms c.args.u c.args.pri c.args.maker k.lists code (answer_of-err _ code c.in_err-check_modules.ensures)))

pub returns-in_err-check_priority-clause-made : goal.returns-in_err-check_priority-clause-made
returns-in_err-check_priority-clause-made g c = λ l k may.
    let s : List ℕ = c.args.store.now in
    let ms : List ℕ = c.args.modules.now in
    let tells = g.Q.KindKeeper.tells c.args.kinds.now in
    let code : ℕ = c.in_err-check_priority.field-0.0 in
    let p = err_from_is_err_and c.from_residual-in_err-check_priority.result c.from_residual-in_err-check_priority.ensures.1 in
    handed-on s s tells c.from_residual-in_err-check_priority.result p.0 code (create_task s l c.args.id ms c.args.u c.args.pri c.args.maker) p.1 p.2
    (refused-made s l c.args.id ms c.args.u c.args.pri c.args.maker k.lists tells code k.knows
    (by-priority s l c.args.id ms c.args.u c.args.pri c.args.maker k.lists (answer_of-ok _ _ c.in_ok-check_modules.ensures) code (answer_of-err _ code (c.in_err-check_priority.ensures l k.lists))))

pub returns-in_err-number-clause-made : goal.returns-in_err-number-clause-made
returns-in_err-number-clause-made g c = λ l k may.
    let s : List ℕ = c.args.store.now in
    let ms : List ℕ = c.args.modules.now in
    let tells = g.Q.KindKeeper.tells c.args.kinds.now in
    let code : ℕ = c.in_err-number.field-0.0 in
    let p = err_from_is_err_and c.from_residual-in_err-number.result c.from_residual-in_err-number.ensures.1 in
    handed-on s s tells c.from_residual-in_err-number.result p.0 code (create_task s l c.args.id ms c.args.u c.args.pri c.args.maker) p.1 p.2
    (refused-made s l c.args.id ms c.args.u c.args.pri c.args.maker k.lists tells code k.knows
    (by-number s l c.args.id ms c.args.u c.args.pri c.args.maker k.lists (answer_of-ok _ _ c.in_ok-check_modules.ensures) (answer_of-ok _ _ (c.in_ok-check_priority.ensures l k.lists)) code
    (c.in_err-number.ensures l k.lists)))

pub check_globals-requires-clause-modules : goal.check_globals-requires-clause-modules
check_globals-requires-clause-modules g c = has-modules c.args.store.now c.requires.0 c.requires.1.lists

pub check_globals-requires-clause-listed : goal.check_globals-requires-clause-listed
check_globals-requires-clause-listed g c =
    listed-in c.args.store.now c.requires.0 c.args.id c.args.modules.now c.args.u c.args.pri c.args.maker c.requires.1.lists (answer_of-ok _ _ c.in_ok-check_modules.ensures)

pub returns-in_err-check_globals-clause-made : goal.returns-in_err-check_globals-clause-made
returns-in_err-check_globals-clause-made g c = λ l k may.
    let s : List ℕ = c.args.store.now in
    let ms : List ℕ = c.args.modules.now in
    let tells = g.Q.KindKeeper.tells c.args.kinds.now in
    let code : ℕ = c.in_err-check_globals.field-0.0 in
    let p = err_from_is_err_and c.from_residual-in_err-check_globals.result c.from_residual-in_err-check_globals.ensures.1 in
    handed-on s s tells c.from_residual-in_err-check_globals.result p.0 code (create_task s l c.args.id ms c.args.u c.args.pri c.args.maker) p.1 p.2
    (refused-made s l c.args.id ms c.args.u c.args.pri c.args.maker k.lists tells code k.knows
    (by-globals s l c.args.id ms c.args.u c.args.pri c.args.maker k.lists (answer_of-ok _ _ c.in_ok-check_modules.ensures) (answer_of-ok _ _ (c.in_ok-check_priority.ensures l k.lists))
    c.in_ok-number.number (c.in_ok-number.ensures l k.lists) code (answer_of-err _ code c.in_err-check_globals.ensures)))

pub place_task-requires : goal.place_task-requires
place_task-requires g c =
    let l : Lists = c.requires.0 in
    let k = c.requires.1 in (
      l,
      k,
      may-place c.args.store.now l c.args.id c.args.modules.now c.args.u c.args.pri c.args.maker k.lists (answer_of-ok _ _ c.in_ok-check_modules.ensures) (answer_of-ok _ _ (c.in_ok-check_priority.ensures l k.lists))
          c.in_ok-number.number (c.in_ok-number.ensures l k.lists) c.requires.2,
    )

pub returns-clause-made : goal.returns-clause-made
returns-clause-made g c = λ l k may.
    let one = answer_of-ok _ _ c.in_ok-check_modules.ensures in
    let two = answer_of-ok _ _ (c.in_ok-check_priority.ensures l k.lists) in
    by-room c.args.store.now l c.args.id c.args.modules.now c.args.u c.args.pri c.args.maker k.lists one two c.in_ok-number.number (c.in_ok-number.ensures l k.lists) c.place_task.new.store
    (g.Q.KindKeeper.tells c.place_task.new.kinds) c.place_task.result (answer_of-ok _ _ c.in_ok-check_globals.ensures)
    (c.place_task.ensures.made l k (may-place c.args.store.now l c.args.id c.args.modules.now c.args.u c.args.pri c.args.maker k.lists one two c.in_ok-number.number (c.in_ok-number.ensures l k.lists) may))
