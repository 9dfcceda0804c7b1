use Rattle.std.proofs.Common.{ℕ, List, Err, refl, subst, arith}
use Rattle.std.proofs.lemmas.Result.{err_from_is_err_and}
use Rattle.kernel_calls.specs.CallAnswers.CallChange.{IsMade}
use Rattle.kernel_calls.proofs.CallAnswers.MadeCalls.{handed-on}
use Rattle.kernel_calls.specs.BlockCalls.FreeStore.{data_taken, with_taken}
use Rattle.kernel_calls.specs.BlockCalls.Getvec.{getvec, getvec_tests}
use Rattle.kernel_model.specs.KernelRecord.Lists.{Lists}
use Rattle.kernel_calls.specs.TaskCalls.CreateTask.{last_word_of, new_task, with_created}
use Rattle.kernel_calls.specs.TaskCalls.Private.NewTasks.{place_task}
use Rattle.kernel_calls.proofs.TaskCalls.PlacedTask.{head-fits, head-room, insert-task, insert-tasks, placed, set-holds, set-may, write-inside, write-most}
use Rattle.kernel_calls.proofs.task_calls.new_tasks.place_task.Goals as goal
use Rattle.kernel_calls.proofs.TaskCalls.TestsInTurn.{refused-alike}

pub returns-in_err-t-clause-made : goal.returns-in_err-t-clause-made
returns-in_err-t-clause-made g c = λ l k may.
    let s : List ℕ = c.args.store.now in
    let v : List ℕ = c.getvec.new.store in
    let tells = g.Q.KindKeeper.tells c.getvec.new.kinds in
    let x = new_task l c.args.number c.args.modules.now c.args.u c.args.pri c.args.maker in
    let p = err_from_is_err_and c.from_residual-in_err-t.result c.from_residual-in_err-t.ensures.1 in
    let made : IsMade s v tells (Err c.in_err-t.field-0.0) (getvec l (last_word_of l.version c.args.u)) =
    subst (λ z. IsMade s v tells (Err c.in_err-t.field-0.0) (getvec l z)) (c.in_ok-last.ensures l k.lists) (c.in_err-t.ensures.made l k)
    in
    handed-on s v tells c.from_residual-in_err-t.result p.0 c.in_err-t.field-0.0 (place_task s l x) p.1 p.2
    (refused-alike s v tells l (getvec_tests l (last_word_of l.version c.args.u)) c.in_err-t.field-0.0 (data_taken (last_word_of l.version c.args.u) l) _ (with_created s l x) refl made)

pub write_head-requires-clause-inside : goal.write_head-requires-clause-inside
write_head-requires-clause-inside g c =
    let l : Lists = c.requires.0 in
    let k = c.requires.1 in
    write-inside l c.args.number c.args.modules.now c.args.u c.args.pri c.args.maker c.args.store.now c.getvec.new.store c.in_ok-t.t c.in_ok-last.last c.head_words-head.result
    (g.Q.KindKeeper.tells c.getvec.new.kinds) k.lists c.requires.2 (c.in_ok-last.ensures l k.lists) c.head_words-head.ensures (c.in_ok-t.ensures.made l k) c.clear_words.new.store c.clear_words.ensures

pub write_head-requires-clause-most : goal.write_head-requires-clause-most
write_head-requires-clause-most g c =
    let l : Lists = c.requires.0 in
    let k = c.requires.1 in
    write-most l c.args.number c.args.modules.now c.args.u c.args.pri c.args.maker c.args.store.now c.getvec.new.store c.in_ok-t.t c.in_ok-last.last c.head_words-head.result
    (g.Q.KindKeeper.tells c.getvec.new.kinds) k.lists c.requires.2 (c.in_ok-last.ensures l k.lists) c.head_words-head.ensures (c.in_ok-t.ensures.made l k) c.clear_words.new.store c.clear_words.ensures

pub overflow_add-t : goal.overflow_add-t
overflow_add-t g c =
    let l : Lists = c.requires.0 in
    let k = c.requires.1 in
    omega (
      arith,
      head-fits l c.args.number c.args.modules.now c.args.u c.args.pri c.args.maker c.args.store.now c.getvec.new.store c.in_ok-t.t c.in_ok-last.last c.head_words-head.result
          (g.Q.KindKeeper.tells c.getvec.new.kinds) k.lists c.requires.2 (c.in_ok-last.ensures l k.lists) c.head_words-head.ensures (c.in_ok-t.ensures.made l k),
    )

pub set_globals-requires : goal.set_globals-requires
set_globals-requires g c =
    let l : Lists = c.requires.0 in
    let k = c.requires.1 in (
      with_taken (last_word_of l.version c.args.u) l,
      set-holds l c.args.number c.args.modules.now c.args.u c.args.pri c.args.maker c.args.store.now c.getvec.new.store c.in_ok-t.t c.in_ok-last.last c.head_words-head.result
          (g.Q.KindKeeper.tells c.getvec.new.kinds) k.lists c.requires.2 (c.in_ok-last.ensures l k.lists) c.head_words-head.ensures (c.in_ok-t.ensures.made l k) c.clear_words.new.store c.clear_words.ensures
          c.write_head.new.store c.write_head.ensures,
      set-may l c.args.number c.args.modules.now c.args.u c.args.pri c.args.maker c.args.store.now c.getvec.new.store c.in_ok-t.t c.in_ok-last.last c.head_words-head.result
          (g.Q.KindKeeper.tells c.getvec.new.kinds) k.lists c.requires.2 (c.in_ok-last.ensures l k.lists) c.head_words-head.ensures (c.in_ok-t.ensures.made l k) c.clear_words.new.store c.clear_words.ensures
          c.write_head.new.store c.write_head.ensures,
    )

pub insert-requires-clause-tasks : goal.insert-requires-clause-tasks
insert-requires-clause-tasks g c =
    let l : Lists = c.requires.0 in
    let k = c.requires.1 in
    insert-tasks l c.args.number c.args.modules.now c.args.u c.args.pri c.args.maker c.args.store.now c.getvec.new.store c.in_ok-t.t c.in_ok-last.last c.head_words-head.result
    (g.Q.KindKeeper.tells c.getvec.new.kinds) k.lists c.requires.2 (c.in_ok-last.ensures l k.lists) c.head_words-head.ensures (c.in_ok-t.ensures.made l k) c.clear_words.new.store c.clear_words.ensures
    c.write_head.new.store c.write_head.ensures c.set_globals.new.store c.set_globals.ensures

pub insert-requires-clause-task : goal.insert-requires-clause-task
insert-requires-clause-task g c =
    let l : Lists = c.requires.0 in
    let k = c.requires.1 in
    insert-task l c.args.number c.args.modules.now c.args.u c.args.pri c.args.maker c.args.store.now c.getvec.new.store c.in_ok-t.t c.in_ok-last.last c.head_words-head.result
    (g.Q.KindKeeper.tells c.getvec.new.kinds) k.lists c.requires.2 (c.in_ok-last.ensures l k.lists) c.head_words-head.ensures (c.in_ok-t.ensures.made l k) c.clear_words.new.store c.clear_words.ensures
    c.write_head.new.store c.write_head.ensures c.set_globals.new.store c.set_globals.ensures

pub claim-requires : goal.claim-requires
claim-requires g c =
    let l : Lists = c.requires.0 in
    let k = c.requires.1 in
    head-room l c.args.number c.args.modules.now c.args.u c.args.pri c.args.maker c.args.store.now c.getvec.new.store c.in_ok-t.t c.in_ok-last.last c.head_words-head.result
    (g.Q.KindKeeper.tells c.getvec.new.kinds) k.lists c.requires.2 (c.in_ok-last.ensures l k.lists) c.head_words-head.ensures (c.in_ok-t.ensures.made l k)
    (g.Q.KindKeeper.room c.getvec.new.kinds) (omega (arith, k.enough, c.in_ok-t.ensures.room))

pub returns-clause-made : goal.returns-clause-made
returns-clause-made g c = λ l k may.
    placed l c.args.number c.args.modules.now c.args.u c.args.pri c.args.maker c.args.store.now c.getvec.new.store c.in_ok-t.t c.in_ok-last.last c.head_words-head.result
    (g.Q.KindKeeper.tells c.getvec.new.kinds) k.lists may (c.in_ok-last.ensures l k.lists) c.head_words-head.ensures (c.in_ok-t.ensures.made l k) c.clear_words.new.store c.clear_words.ensures
    c.write_head.new.store c.write_head.ensures c.set_globals.new.store c.set_globals.ensures c.insert.new.store (g.Q.KindKeeper.tells c.claim.new.self) c.insert.ensures.words c.claim.ensures.tells
