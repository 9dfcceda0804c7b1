use Rattle.std.proofs.Common.{sym, ◌∙◌, arith}
use Rattle.kernel_calls.specs.CallAnswers.CallChange.{plain_answer}
use Rattle.kernel_model.specs.KernelRecord.Lists.{Lists}
use Rattle.kernel_model.specs.KernelRecord.StoreWithLists.{store_with_lists}
use Rattle.shell.specs.ShellPrograms.StartedProgram.{creation}
use Rattle.shell.proofs.ShellPrograms.ProgramNumbers.{may-create_program}
use Rattle.shell.proofs.ShellPrograms.StartedParts.{created-keeper, program-created, program-refused}
use Rattle.shell.proofs.shell_programs.programs.create_program.Goals as goal

pub unload_module-refusal-requires : goal.unload_module-refusal-requires
unload_module-refusal-requires g c =
    let l : Lists = c.requires.0 in
    let k = c.requires.1 in (
      (creation c.args.priority c.args.module (store_with_lists c.args.store.now l)).lists,
      created-keeper c.args.priority c.args.module c.args.store.now c.create_task-created.new.store l (g.Q.KindKeeper.tells c.create_task-created.new.kinds) (g.Q.KindKeeper.room c.create_task-created.new.kinds)
          c.priority_of-pri.result (c.priority_of-pri.ensures l k.lists) c.create_task-created.result (c.create_task-created.ensures.made l k (may-create_program l c.args.module))
          (omega (arith, k.enough, c.create_task-created.ensures.room)),
    )

pub returns-then-is_err-clause-started : goal.returns-then-is_err-clause-started
returns-then-is_err-clause-started g c = λ l k.
    let pri = c.priority_of-pri.ensures l k.lists in
    let made = c.create_task-created.ensures.made l k (may-create_program l c.args.module) in
    let keeper =
    created-keeper c.args.priority c.args.module c.args.store.now c.create_task-created.new.store l (g.Q.KindKeeper.tells c.create_task-created.new.kinds) (g.Q.KindKeeper.room c.create_task-created.new.kinds)
    c.priority_of-pri.result pri c.create_task-created.result made (omega (arith, k.enough, c.create_task-created.ensures.room))
    in
    program-refused c.args.priority c.args.module c.args.store.now c.create_task-created.new.store l (g.Q.KindKeeper.tells c.create_task-created.new.kinds) (g.Q.KindKeeper.room c.args.kinds.now)
    c.priority_of-pri.result pri c.create_task-created.result made k.enough c.unload_module-refusal.new.store (g.Q.KindKeeper.tells c.unload_module-refusal.new.kinds)
    (g.Q.KindKeeper.room c.unload_module-refusal.new.kinds) (plain_answer c.unload_module-refusal.result) (c.unload_module-refusal.ensures.room ∙ c.create_task-created.ensures.room)
    (sym c.is_err.ensures.value ∙ c.if-is_err.true)
    (c.unload_module-refusal.ensures.made (creation c.args.priority c.args.module (store_with_lists c.args.store.now l)).lists keeper)

pub returns-else-is_err-clause-started : goal.returns-else-is_err-clause-started
returns-else-is_err-clause-started g c = λ l k.
    program-created c.args.priority c.args.module c.args.store.now c.create_task-created.new.store l (g.Q.KindKeeper.tells c.create_task-created.new.kinds) (g.Q.KindKeeper.room c.create_task-created.new.kinds)
    c.priority_of-pri.result (c.priority_of-pri.ensures l k.lists) c.create_task-created.result (c.create_task-created.ensures.made l k (may-create_program l c.args.module))
    (omega (arith, k.enough, c.create_task-created.ensures.room)) (sym c.is_err.ensures.value ∙ c.if-is_err.false)
