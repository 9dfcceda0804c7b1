use Rattle.std.proofs.Common.{◌≡◌, ◌∙◌, refl, sym}
use Rattle.std.proofs.lemmas.Bool.{false≢true}
use Rattle.kernel_lists.specs.TaskBlock.TaskChain.{tasks_in}
use Rattle.kernel_model.specs.KernelRecord.Recovered.{lists_in, task_in}
use Rattle.kernel_model.specs.KernelRecord.ValidTasks.{IsTask}
use Rattle.kernel_check.specs.ListPasses.Private.CanPass.{CanPass}
use Rattle.kernel_check.proofs.ListPasses.ClaimedWalks.{can-pass, chain-walk, first, going, gone, of-tasks}
use Rattle.kernel_check.proofs.list_passes.task_pass.is_each_valid.Goals as goal

pub tasks-t-items-requires : goal.tasks-t-items-requires
tasks-t-items-requires c = chain-walk c.args.store.now c.requires.claimed

pub loop-t-init : goal.loop-t-init
loop-t-init c =
    let is : c.into_iter-t-iterator.result ≡ tasks_in c.args.store.now = cc in
    going (λ t. IsTask (lists_in c.args.store.now) (task_in c.args.store.now t)) (CanPass c.args.store.now) c.into_iter-t-iterator.result (tasks_in c.args.store.now) is (can-pass c.args.store.now c.requires.claimed)

pub returns-then-not-is_valid_task : goal.returns-then-not-is_valid_task
returns-then-not-is_valid_task c = (
  λ t. absurd (false≢true t),
  λ h. sym c.if-not-is_valid_task.true
      ∙ c.is_valid_task.ensures.1
      (first (λ t. IsTask (lists_in c.args.store.now) (task_in c.args.store.now t)) (CanPass c.args.store.now) c.loop-t.t-iterator (tasks_in c.args.store.now) c.in-Some.t c.next.new.self c.loop-t.invariant
      c.in-Some.ensures.steps ((of-tasks c.args.store.now (IsTask (lists_in c.args.store.now))).1 h)),
)

pub returns : goal.returns
returns c = (
  λ t. (of-tasks c.args.store.now (IsTask (lists_in c.args.store.now))).0
      (gone (λ t. IsTask (lists_in c.args.store.now) (task_in c.args.store.now t)) (CanPass c.args.store.now) c.loop-t.t-iterator (tasks_in c.args.store.now) c.loop-t.invariant c.in-None.ensures.steps.0),
  λ h. refl,
)
