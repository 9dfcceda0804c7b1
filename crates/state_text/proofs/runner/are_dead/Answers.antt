use Rattle.std.proofs.Common.{◌∙◌, ap, sym}
use Rattle.std.specs.List.{list_all}
use Rattle.std.proofs.lemmas.List.Folds.{list_all-map}
use Rattle.kernel_model.specs.KernelRecord.Recovered.{task_in}
use Rattle.kernel_lists.specs.TaskBlock.TaskChain.{tasks_in}
use Rattle.state_text.specs.Runner.{is_dead}
use Rattle.state_text.proofs.ListedWords.{listed-tasks}
use Rattle.state_text.proofs.runner.are_dead.Goals as goal

pub loop-t-init : goal.loop-t-init
loop-t-init c =
    let s = c.args.store.now in
    let is = c.into_iter-t-iterator.ensures.into_iter_gives ∙ c.tasks-t-items.ensures in
    ap (list_all is_dead) (sym (listed-tasks s)) ∙ list_all-map is_dead (task_in s) (tasks_in s) ∙ ap (list_all (λ t. is_dead (task_in s t))) (sym is)
