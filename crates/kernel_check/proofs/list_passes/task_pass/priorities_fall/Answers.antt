use Rattle.std.proofs.Common.{◌≡◌, refl}
use Rattle.std.proofs.lemmas.Bool.{false≢true}
use Rattle.kernel_lists.specs.TaskBlock.TaskChain.{tasks_in}
use Rattle.kernel_check.proofs.ListPasses.ClaimedWalks.{chain-walk}
use Rattle.kernel_check.proofs.ListPasses.TaskWalks.{all-fall, below-all, falling, falls-lists, falls-not, falls-on}
use Rattle.kernel_check.proofs.list_passes.task_pass.priorities_fall.Goals as goal

pub tasks-t-items-requires : goal.tasks-t-items-requires
tasks-t-items-requires c = chain-walk c.args.store.now c.requires.claimed

pub loop-t-init : goal.loop-t-init
loop-t-init c =
    let is : c.into_iter-t-iterator.result ≡ tasks_in c.args.store.now = cc in
    falling c.args.store.now 10001 c.into_iter-t-iterator.result (tasks_in c.args.store.now) is (below-all c.args.store.now c.requires.each)

pub returns-then-priority-above : goal.returns-then-priority-above
returns-then-priority-above c = (
  λ t. absurd (false≢true t),
  λ h. absurd (falls-not c.args.store.now c.loop-t.above c.loop-t.t-iterator (tasks_in c.args.store.now) c.in-Some.t c.next.new.self c.field-priority.result c.loop-t.invariant c.in-Some.ensures.steps c.field-priority.ensures
      c.if-priority-above.true ((falls-lists c.args.store.now).1 h)),
)

pub returns : goal.returns
returns c = (
  λ t. (falls-lists c.args.store.now).0 (all-fall c.args.store.now c.loop-t.above c.loop-t.t-iterator (tasks_in c.args.store.now) c.loop-t.invariant c.in-None.ensures.steps.0),
  λ h. refl,
)

pub loop-t-preserved : goal.loop-t-preserved
loop-t-preserved c = falls-on c.args.store.now c.loop-t.above c.loop-t.t-iterator (tasks_in c.args.store.now) c.in-Some.t c.next.new.self c.field-priority.result c.loop-t.invariant c.in-Some.ensures.steps c.field-priority.ensures c.if-priority-above.false
