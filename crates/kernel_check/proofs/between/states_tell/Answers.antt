use Rattle.std.proofs.Common.{◌≡◌, ◌∙◌, refl, sym}
use Rattle.std.proofs.lemmas.Bool.{false≢true}
use Rattle.kernel_lists.specs.TaskBlock.TaskChain.{tasks_in}
use Rattle.kernel_model.specs.KernelRecord.Recovered.{task_in}
use Rattle.kernel_check.proofs.ListPasses.ClaimedWalks.{all-any, first, goes, going, gone, of-tasks}
use Rattle.kernel_check.proofs.RunningTask.{Tells}
use Rattle.kernel_check.proofs.between.states_tell.Goals as goal

pub loop-t-init : goal.loop-t-init
loop-t-init c =
    let is : c.into_iter-t-iterator.result ≡ tasks_in c.args.store.now = cc in
    going (λ t. Tells c.args.running (task_in c.args.store.now t)) (λ t. Unit {0}) c.into_iter-t-iterator.result (tasks_in c.args.store.now) is (all-any (tasks_in c.args.store.now))

pub returns-then-not-state_tells : goal.returns-then-not-state_tells
returns-then-not-state_tells c = (
  λ t. absurd (false≢true t),
  λ h. sym c.if-not-state_tells.true
      ∙ c.state_tells.ensures.1
      (first (λ t. Tells c.args.running (task_in c.args.store.now t)) (λ t. Unit {0}) c.loop-t.t-iterator (tasks_in c.args.store.now) c.in-Some.t c.next.new.self c.loop-t.invariant c.in-Some.ensures.steps
      ((of-tasks c.args.store.now (Tells c.args.running)).1 h)),
)

pub loop-t-preserved : goal.loop-t-preserved
loop-t-preserved c =
    goes (λ t. Tells c.args.running (task_in c.args.store.now t)) (λ t. Unit {0}) c.loop-t.t-iterator (tasks_in c.args.store.now) c.in-Some.t c.next.new.self c.loop-t.invariant c.in-Some.ensures.steps
    (c.state_tells.ensures.0 c.if-not-state_tells.false)

pub returns : goal.returns
returns c = (
  λ t. (of-tasks c.args.store.now (Tells c.args.running)).0
      (gone (λ t. Tells c.args.running (task_in c.args.store.now t)) (λ t. Unit {0}) c.loop-t.t-iterator (tasks_in c.args.store.now) c.loop-t.invariant c.in-None.ensures.steps.0),
  λ h. refl,
)
