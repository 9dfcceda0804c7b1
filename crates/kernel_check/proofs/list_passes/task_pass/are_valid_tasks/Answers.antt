use Rattle.std.proofs.Common.{◌∙◌, sym}
use Rattle.std.proofs.lemmas.Bool.{false≢true}
use Rattle.kernel_check.proofs.ListPasses.TaskWalks.{few-lists}
use Rattle.kernel_check.proofs.list_passes.task_pass.are_valid_tasks.Goals as goal

pub returns-then-not-are_few : goal.returns-then-not-are_few
returns-then-not-are_few c = (λ t. absurd (false≢true t), λ h. sym c.if-not-are_few.true ∙ c.are_few.ensures.1 (few-lists c.args.store.now h))
