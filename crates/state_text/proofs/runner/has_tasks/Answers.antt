use Rattle.std.proofs.Common.{◌∙◌, ap, map}
use Rattle.kernel_model.specs.KernelRecord.Recovered.{task_in}
use Rattle.state_text.specs.Runner.{has_member}
use Rattle.state_text.proofs.ListedWords.{first-member, listed-tasks}
use Rattle.state_text.proofs.runner.has_tasks.Goals as goal

pub returns : goal.returns
returns c =
    let s = c.args.store.now in
    c.is_some.ensures ∙ first-member (task_in s) c.tasks.result c.next.new.self c.next.result c.next.ensures.steps
    ∙ ap (λ ts. has_member (map (task_in s) ts)) c.tasks.ensures ∙ ap has_member (listed-tasks s)
