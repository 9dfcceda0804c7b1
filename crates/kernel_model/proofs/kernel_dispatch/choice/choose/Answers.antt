use Rattle.std.proofs.Common.{◌∙◌}
use Rattle.kernel_model.proofs.KernelRecord.WalkedLists.{can-walk}
use Rattle.kernel_model.proofs.KernelDispatch.ReadyChoice.{first-ready}
use Rattle.kernel_model.proofs.kernel_dispatch.choice.choose.Goals as goal

pub first_by_state-requires : goal.first_by_state-requires
first_by_state-requires c = (can-walk c.args.store.now c.requires.0 c.requires.1).chain

pub returns : goal.returns
returns c = λ l h. c.first_by_state.ensures ∙ first-ready c.args.store.now l h
