use Rattle.std.proofs.Common.{◌≡◌, ℕ, ◌+◌, List, set, true, sym, ap, ◌∙◌, subst}
use Rattle.kernel_lists.specs.LinkedList.Places.{has}
use Rattle.kernel_lists.specs.TaskBlock.Moves.{HasNewPriority, without_task}
use Rattle.kernel_lists.specs.TaskBlock.TaskChain.{HasTasks, tasks_in}
use Rattle.kernel_lists.proofs.TaskBlock.NewTask.{new-priority}
use Rattle.kernel_calls.proofs.task_calls.priority.move_task.Goals as goal

after : (s u v : List ℕ) (t pri : ℕ) → HasTasks s → has t (tasks_in s) ≡ true → u ≡ without_task s t → v ≡ set u (t + 2) pri → HasNewPriority s v t pri
after s u v t pri h some out is = subst (λ z. HasNewPriority s z t pri) (sym (is ∙ ap (λ z. set z (t + 2) pri) out)) (new-priority s t pri h some)

pub insert-requires-clause-tasks : goal.insert-requires-clause-tasks
insert-requires-clause-tasks c = (after _ _ _ c.args.task c.args.pri c.requires.tasks c.requires.task c.unlink.ensures.words c.set_field.ensures).tasks

pub insert-requires-clause-task : goal.insert-requires-clause-task
insert-requires-clause-task c = (after _ _ _ c.args.task c.args.pri c.requires.tasks c.requires.task c.unlink.ensures.words c.set_field.ensures).task
