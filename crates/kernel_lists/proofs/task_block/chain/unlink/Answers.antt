use Rattle.std.proofs.Common.{◌≡◌, ◌∙◌, ap, set, subst, sym, ℕ, List, ◌+◌}
use Rattle.kernel_lists.specs.LinkedList.Places.{without_node}
use Rattle.kernel_lists.proofs.LinkedList.UnlinkAnswer.{unlink-words}
use Rattle.kernel_lists.proofs.LinkedList.Walks.{no_offset}
use Rattle.kernel_lists.specs.TaskBlock.Moves.{without_task}
use Rattle.kernel_lists.specs.TaskBlock.TaskChain.{Fall, HasTasks, IsNewTask, task_link, tasks_in}
use Rattle.kernel_lists.proofs.TaskBlock.TaskRemoval.{fall-out, task-out}
use Rattle.kernel_lists.proofs.task_block.chain.unlink.Goals as goal

words : (c : goal.After-set_word_at) → c.set_word_at.new.store ≡ without_task c.args.store.now c.args.t
words c =
    let s : List ℕ = c.args.store.now in
    c.set_word_at.ensures
    ∙ ap (λ z. set z (120 + c.field-id.result) 0) (unlink-words s c.unlink.new.store c.args.t c.unlink.result no_offset c.address.ensures c.unlink.ensures.found c.requires.task c.unlink.ensures.words)
    ∙ ap (λ i. set (without_node s task_link 101 c.args.t) (120 + i) 0) c.field-id.ensures

pub returns-clause-words : goal.returns-clause-words
returns-clause-words c = words c

pub returns-clause-chain : goal.returns-clause-chain
returns-clause-chain c = ap tasks_in (words c) ∙ (task-out c.args.store.now c.args.t c.requires.tasks c.requires.task).list

pub returns-clause-tasks : goal.returns-clause-tasks
returns-clause-tasks c = subst HasTasks (sym (words c)) (task-out c.args.store.now c.args.t c.requires.tasks c.requires.task).tasks

pub returns-clause-task : goal.returns-clause-task
returns-clause-task c = subst (λ v. IsNewTask v c.args.t) (sym (words c)) (task-out c.args.store.now c.args.t c.requires.tasks c.requires.task).task

pub returns-clause-order : goal.returns-clause-order
returns-clause-order c = λ fall. subst (λ v. Fall v (tasks_in v)) (sym (words c)) (fall-out c.args.store.now c.args.t c.requires.tasks c.requires.task fall)
