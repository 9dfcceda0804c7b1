use Rattle.std.proofs.Common.{◌∙◌, ap, subst, sym}
use Rattle.std.specs.List.{AllByRecursion, list_any}
use Rattle.kernel_model.specs.KernelRecord.KernelRanges.{CanWalkTask}
use Rattle.kernel_model.specs.KernelRecord.Recovered.{task_in}
use Rattle.kernel_lists.specs.TaskBlock.TaskChain.{tasks_in}
use Rattle.state_text.specs.AwaitedPackets.{is_from}
use Rattle.state_text.proofs.ListedWords.{any-map, listed-tasks}
use Rattle.state_text.proofs.sent.is_at_tasks.Goals as goal

pub loop-t-init : goal.loop-t-init
loop-t-init c =
    let s = c.args.store.now in
    let is = c.into_iter-t-iterator.ensures.into_iter_gives ∙ c.tasks-t-items.ensures in
    record {
      same = ap (list_any (λ t. list_any (is_from c.args.id) t.queue)) (sym (listed-tasks s)) ∙ any-map (λ t. list_any (is_from c.args.id) t.queue) (task_in s) (tasks_in s)
          ∙ ap (list_any (λ t. list_any (is_from c.args.id) (task_in s t).queue)) (sym is);
      walk = subst (AllByRecursion (CanWalkTask s)) (sym is) c.requires.tasks;
    }
