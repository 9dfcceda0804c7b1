use Rattle.std.proofs.Common.{sym, ap, ◌∙◌}
use Rattle.std.specs.Option.{ok_or}
use Rattle.kernel_calls.proofs.CallAnswers.FoundTask.{reads}
use Rattle.kernel_calls.proofs.TaskCalls.ReadNumbers.{number-free}
use Rattle.kernel_calls.proofs.task_calls.creation.number.Goals as goal

pub free_id-requires : goal.free_id-requires
free_id-requires c = (reads c.args.store.now c.requires.0 c.requires.1).tasks.tasks

pub returns : goal.returns
returns c = λ l h. c.ok_or.ensures.value ∙ ap (λ o. ok_or o 10) (c.free_id.ensures ∙ sym (number-free c.args.store.now l h c.args.id c.if-id-ne0.false))
