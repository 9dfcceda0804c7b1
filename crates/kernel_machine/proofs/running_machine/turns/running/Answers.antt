use Rattle.std.proofs.Common.{◌∙◌, ap, sym}
use Rattle.kernel_lists.specs.TaskBlock.TaskChain.{id_in}
use Rattle.kernel_machine.proofs.RunningMachine.RunningTask.{nobody-runs, somebody-runs}
use Rattle.kernel_machine.proofs.running_machine.turns.running.Goals as goal

pub returns-then-task-eq0 : goal.returns-then-task-eq0
returns-then-task-eq0 c = λ l h. nobody-runs c.args.store.now l h (sym c.root-task.ensures ∙ c.if-task-eq0.true)

pub returns : goal.returns
returns c = λ l h. c.field.ensures ∙ ap (id_in c.args.store.now) c.root-task.ensures ∙ somebody-runs c.args.store.now l h (λ none. c.if-task-eq0.false (c.root-task.ensures ∙ none))
