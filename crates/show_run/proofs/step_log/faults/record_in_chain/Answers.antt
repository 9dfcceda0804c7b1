use Rattle.std.proofs.Common.{◌∙◌, sym}
use Rattle.debugger.proofs.KernelLists.{has-tasks}
use Rattle.show_run.proofs.StepLog.KeptParts.{record-found}
use Rattle.show_run.proofs.step_log.faults.record_in_chain.Goals as goal

pub record_of_block-requires : goal.record_of_block-requires
record_of_block-requires c = has-tasks _ c.requires.0 c.requires.1

pub returns : goal.returns
returns c = λ l h. c.record_of_block.ensures ∙ sym (record-found c.args.store.now l h c.args.id)
