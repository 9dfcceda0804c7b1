use Rattle.std.proofs.Common.{◌∙◌, ap, subst, sym}
use Rattle.std.specs.List.{AllByRecursion, list_any}
use Rattle.kernel_model.specs.KernelRecord.KernelRanges.{CanWalkTask}
use Rattle.kernel_model.specs.KernelRecord.Recovered.{task_in}
use Rattle.kernel_lists.specs.TaskBlock.TaskChain.{tasks_in}
use Rattle.state_text.specs.Deadlock.{is_stuck}
use Rattle.state_text.proofs.ListedWords.{any-map, listed-tasks}
use Rattle.state_text.proofs.deadlock.is_any_stuck.Goals as goal

pub loop-t-init : goal.loop-t-init
loop-t-init c =
    let s = c.args.store.now in
    let is = c.into_iter-t-iterator.ensures.into_iter_gives ∙ c.tasks-t-items.ensures in
    record {
      same = ap (list_any is_stuck) (sym (listed-tasks s)) ∙ any-map is_stuck (task_in s) (tasks_in s) ∙ ap (list_any (λ t. is_stuck (task_in s t))) (sym is);
      walk = subst (AllByRecursion (CanWalkTask s)) (sym is) c.requires.tasks;
    }
