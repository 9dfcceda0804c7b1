use Rattle.std.proofs.Common.{sym, ◌∙◌}
use Rattle.kernel_model.proofs.KernelRecord.WalkedLists.{can-walk}
use Rattle.kernel_calls.proofs.CallAnswers.ListedModules.{module-told}
use Rattle.kernel_calls.proofs.BlockCalls.BlockUses.{coroutines-told, residents-told, tasks-told, use-coroutine, use-module, use-residents, use-task, use-user}
use Rattle.kernel_calls.proofs.block_calls.uses.use_of_data.Goals as goal

pub returns-then-is_of_residents : goal.returns-then-is_of_residents
returns-then-is_of_residents c = λ l h.
    use-residents l c.args.v (sym (residents-told c.args.store.now l c.args.v h) ∙ sym c.is_of_residents.ensures ∙ c.if-is_of_residents.true)

pub is_task-requires : goal.is_task-requires
is_task-requires c = (can-walk c.args.store.now c.requires.0 c.requires.1).chain

pub returns-then-is_task : goal.returns-then-is_task
returns-then-is_task c = λ l h.
    use-task l c.args.v (sym (residents-told c.args.store.now l c.args.v h) ∙ sym c.is_of_residents.ensures ∙ c.if-is_of_residents.false)
    (sym (tasks-told c.args.store.now l c.args.v h) ∙ sym c.is_task.ensures ∙ c.if-is_task.true)

pub is_module-requires : goal.is_module-requires
is_module-requires c = (can-walk c.args.store.now c.requires.0 c.requires.1).modules

pub returns-then-is_module : goal.returns-then-is_module
returns-then-is_module c = λ l h.
    use-module l c.args.v (sym (residents-told c.args.store.now l c.args.v h) ∙ sym c.is_of_residents.ensures ∙ c.if-is_of_residents.false)
    (sym (tasks-told c.args.store.now l c.args.v h) ∙ sym c.is_task.ensures ∙ c.if-is_task.false)
    (sym (module-told c.args.store.now l c.args.v h) ∙ sym c.is_module.ensures ∙ c.if-is_module.true)

pub is_coroutine-requires-clause-chain : goal.is_coroutine-requires-clause-chain
is_coroutine-requires-clause-chain c = (can-walk c.args.store.now c.requires.0 c.requires.1).chain

pub is_coroutine-requires-clause-tasks : goal.is_coroutine-requires-clause-tasks
is_coroutine-requires-clause-tasks c = (can-walk c.args.store.now c.requires.0 c.requires.1).tasks

pub returns-then-is_coroutine : goal.returns-then-is_coroutine
returns-then-is_coroutine c = λ l h.
    use-coroutine l c.args.v (sym (residents-told c.args.store.now l c.args.v h) ∙ sym c.is_of_residents.ensures ∙ c.if-is_of_residents.false)
    (sym (tasks-told c.args.store.now l c.args.v h) ∙ sym c.is_task.ensures ∙ c.if-is_task.false)
    (sym (module-told c.args.store.now l c.args.v h) ∙ sym c.is_module.ensures ∙ c.if-is_module.false)
    (sym (coroutines-told c.args.store.now l c.args.v h) ∙ sym c.is_coroutine.ensures ∙ c.if-is_coroutine.true)

pub returns : goal.returns
returns c = λ l h.
    use-user l c.args.v (sym (residents-told c.args.store.now l c.args.v h) ∙ sym c.is_of_residents.ensures ∙ c.if-is_of_residents.false)
    (sym (tasks-told c.args.store.now l c.args.v h) ∙ sym c.is_task.ensures ∙ c.if-is_task.false)
    (sym (module-told c.args.store.now l c.args.v h) ∙ sym c.is_module.ensures ∙ c.if-is_module.false)
    (sym (coroutines-told c.args.store.now l c.args.v h) ∙ sym c.is_coroutine.ensures ∙ c.if-is_coroutine.false)
