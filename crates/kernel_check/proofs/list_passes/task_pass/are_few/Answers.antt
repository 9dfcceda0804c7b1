use Rattle.std.proofs.Common.{◌≡◌, arith, refl}
use Rattle.std.proofs.lemmas.Bool.{false≢true}
use Rattle.kernel_lists.specs.TaskBlock.TaskChain.{tasks_in}
use Rattle.kernel_check.proofs.ListPasses.ClaimedWalks.{chain-walk}
use Rattle.kernel_check.proofs.ListPasses.TaskWalks.{all-counted, counted-none, counts-on, too-many}
use Rattle.kernel_check.proofs.list_passes.task_pass.are_few.Goals as goal

pub tasks-t-items-requires : goal.tasks-t-items-requires
tasks-t-items-requires c = chain-walk c.args.store.now c.requires.claimed

pub loop-t-init : goal.loop-t-init
loop-t-init c = (let is : c.into_iter-t-iterator.result ≡ tasks_in c.args.store.now = cc in counted-none c.args.store.now c.into_iter-t-iterator.result is)

pub returns-then-count-ge-MOST_TASKS : goal.returns-then-count-ge-MOST_TASKS
returns-then-count-ge-MOST_TASKS c = (
  λ t. absurd (false≢true t),
  λ h. absurd (too-many c.args.store.now c.loop-t.count c.loop-t._t-iterator c.in-Some._t c.next.new.self c.loop-t.invariant c.in-Some.ensures.steps c.if-count-ge-MOST_TASKS.true h),
)

pub loop-t-preserved : goal.loop-t-preserved
loop-t-preserved c = counts-on c.args.store.now c.loop-t.count c.loop-t._t-iterator c.in-Some._t c.next.new.self c.loop-t.invariant c.in-Some.ensures.steps (omega (arith, c.if-count-ge-MOST_TASKS.false))

pub returns : goal.returns
returns c = (λ t. all-counted c.args.store.now c.loop-t.count c.loop-t._t-iterator c.loop-t.invariant c.in-None.ensures.steps.0, λ h. refl)
