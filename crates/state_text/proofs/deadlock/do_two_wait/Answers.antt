use Rattle.std.proofs.Common.{◌∙◌, ap, subst, sym}
use Rattle.std.specs.List.{AllByRecursion}
use Rattle.kernel_model.specs.KernelRecord.KernelRanges.{CanWalkTask}
use Rattle.kernel_model.specs.KernelRecord.Recovered.{task_in}
use Rattle.kernel_lists.specs.TaskBlock.TaskChain.{tasks_in}
use Rattle.state_text.specs.Deadlock.{is_waiting, two_pass}
use Rattle.state_text.proofs.ListedWords.{listed-tasks, two-map}
use Rattle.state_text.proofs.deadlock.do_two_wait.Goals as goal

pub loop-t-init : goal.loop-t-init
loop-t-init c =
    let s = c.args.store.now in
    let is = c.into_iter-t-iterator.ensures.into_iter_gives ∙ c.tasks-t-items.ensures in
    record {
      same = ap (two_pass is_waiting) (sym (listed-tasks s)) ∙ two-map is_waiting (task_in s) (tasks_in s) ∙ ap (two_pass (λ t. is_waiting (task_in s t))) (sym is);
      walk = subst (AllByRecursion (CanWalkTask s)) (sym is) c.requires.tasks;
    }
