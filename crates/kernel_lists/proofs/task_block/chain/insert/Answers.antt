use Rattle.std.proofs.Common.{◌≡◌, ◌∙◌, ap, set, subst, sym, ℕ, List, ◌+◌}
use Rattle.kernel_lists.specs.LinkedList.Places.{linked_in}
use Rattle.kernel_lists.proofs.LinkedList.Walks.{no_offset}
use Rattle.kernel_lists.specs.TaskBlock.Moves.{with_task}
use Rattle.kernel_lists.specs.TaskBlock.TaskChain.{Fall, HasTasks, task_link, tasks_in}
use Rattle.kernel_lists.proofs.TaskBlock.TaskInsertion.{fall-in, task-in}
use Rattle.kernel_lists.proofs.task_block.chain.insert.Goals as goal

words : (c : goal.After-set_word_at) → c.set_word_at.new.store ≡ with_task c.args.store.now c.args.t
words c =
    let s : List ℕ = c.args.store.now in
    let t : ℕ = c.args.t in
    c.set_word_at.ensures ∙ ap (λ z. set z (120 + c.field-id.result) t) (c.link_in.ensures ∙ ap (λ f. linked_in s f c.link_above-cell.result t) no_offset)
    ∙ (λ i. set (linked_in s task_link (c.link_above-cell.ensures i) t) (120 + c.field-id.ensures i) t)

pub returns-clause-words : goal.returns-clause-words
returns-clause-words c = words c

pub returns-clause-chain : goal.returns-clause-chain
returns-clause-chain c = ap tasks_in (words c) ∙ (task-in c.args.store.now c.args.t c.requires.tasks c.requires.task).list

pub returns-clause-tasks : goal.returns-clause-tasks
returns-clause-tasks c = subst HasTasks (sym (words c)) (task-in c.args.store.now c.args.t c.requires.tasks c.requires.task).tasks

pub returns-clause-order : goal.returns-clause-order
returns-clause-order c = λ fall other.
    subst (λ v. Fall v (tasks_in v)) (sym (words c))
    (subst (Fall (with_task c.args.store.now c.args.t)) (sym (task-in c.args.store.now c.args.t c.requires.tasks c.requires.task).list)
    (fall-in c.args.store.now c.args.t c.requires.tasks c.requires.task fall other))
