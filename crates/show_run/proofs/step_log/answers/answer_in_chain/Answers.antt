use Rattle.std.proofs.Common.{◌∙◌, sym}
use Rattle.debugger.proofs.KernelLists.{has-tasks}
use Rattle.show_run.proofs.StepLog.KeptParts.{answer-found}
use Rattle.show_run.proofs.step_log.answers.answer_in_chain.Goals as goal

pub answer_of_block-requires : goal.answer_of_block-requires
answer_of_block-requires c = has-tasks _ c.requires.0 c.requires.1

pub returns : goal.returns
returns c = λ l h. c.answer_of_block.ensures ∙ sym (answer-found c.args.store.now l h c.args.id)
