use Rattle.std.proofs.Common.{◌∙◌, sym}
use Rattle.std.proofs.lemmas.Bool.{false≢true}
use Rattle.kernel_model.specs.KernelRecord.Recovered.{lists_in}
use Rattle.kernel_model.proofs.KernelRecord.WalkedLists.{can-walk}
use Rattle.kernel_check.proofs.RunningTask.{first-tells, runs-first}
use Rattle.kernel_check.proofs.between.first_runs.Goals as goal

pub returns-then-running-first_ready : goal.returns-then-running-first_ready
returns-then-running-first_ready c = (
  λ t. absurd (false≢true t),
  λ h. absurd (c.if-running-first_ready.true (c.running_of-running.ensures ∙ h.running ∙ sym c.first_ready.ensures)),
)

pub states_tell-requires : goal.states_tell-requires
states_tell-requires c = (can-walk c.args.store.now (lists_in c.args.store.now) c.requires).chain

pub returns : goal.returns
returns c = (
  λ t. runs-first (lists_in c.args.store.now) c.running_of-running.result c.running_of-running.ensures (c.if-running-first_ready.false ∙ c.first_ready.ensures) (c.states_tell.ensures.0 t),
  λ h. c.states_tell.ensures.1 (first-tells (lists_in c.args.store.now) c.running_of-running.result c.running_of-running.ensures h),
)
