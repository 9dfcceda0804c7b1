use Rattle.std.proofs.Common.{◌≡◌, ◌∙◌, refl, sym}
use Rattle.std.specs.List.{AllByRecursion}
use Rattle.std.proofs.lemmas.Bool.{false≢true}
use Rattle.kernel_lists.specs.TaskBlock.TaskChain.{tasks_in}
use Rattle.kernel_model.specs.KernelRecord.Recovered.{lists_in}
use Rattle.kernel_model.specs.KernelRecord.ValidQueues.{IsValidPacket}
use Rattle.kernel_model.specs.KernelRecord.ValidQueues.Place.{Work}
use Rattle.kernel_check.proofs.ListPasses.ClaimedWalks.{chain-walk, first, goes, going, gone, known-first, of-tasks}
use Rattle.kernel_check.proofs.QueueRules.{AreValidWork, IsKnown, all-known}
use Rattle.kernel_check.proofs.queue_pass.are_valid_work_queues.Goals as goal

pub tasks-t-items-requires : goal.tasks-t-items-requires
tasks-t-items-requires c = chain-walk c.args.store.now c.requires.claimed

pub loop-t-init : goal.loop-t-init
loop-t-init c =
    let is : c.into_iter-t-iterator.result ≡ tasks_in c.args.store.now = cc in
    going (AreValidWork c.args.store.now) (IsKnown c.args.store.now) c.into_iter-t-iterator.result (tasks_in c.args.store.now) is (all-known c.args.store.now c.requires.claimed)

pub is_valid_task_queue-requires-clause-queue : goal.is_valid_task_queue-requires-clause-queue
is_valid_task_queue-requires-clause-queue c =
    (known-first (AreValidWork c.args.store.now) (IsKnown c.args.store.now) c.loop-t.t-iterator (tasks_in c.args.store.now) c.in-Some.t c.next.new.self c.loop-t.invariant c.in-Some.ensures.steps).0

pub is_valid_task_queue-requires-clause-block : goal.is_valid_task_queue-requires-clause-block
is_valid_task_queue-requires-clause-block c =
    (known-first (AreValidWork c.args.store.now) (IsKnown c.args.store.now) c.loop-t.t-iterator (tasks_in c.args.store.now) c.in-Some.t c.next.new.self c.loop-t.invariant c.in-Some.ensures.steps).1

pub returns-then-not-is_valid_task_queue : goal.returns-then-not-is_valid_task_queue
returns-then-not-is_valid_task_queue c = (
  λ t. absurd (false≢true t),
  λ h. sym c.if-not-is_valid_task_queue.true
      ∙ c.is_valid_task_queue.ensures.1
      (first (AreValidWork c.args.store.now) (IsKnown c.args.store.now) c.loop-t.t-iterator (tasks_in c.args.store.now) c.in-Some.t c.next.new.self c.loop-t.invariant c.in-Some.ensures.steps
      ((of-tasks c.args.store.now (λ t. AllByRecursion (IsValidPacket (lists_in c.args.store.now) (Work t.id)) t.queue)).1 h)),
)

pub loop-t-preserved : goal.loop-t-preserved
loop-t-preserved c =
    goes (AreValidWork c.args.store.now) (IsKnown c.args.store.now) c.loop-t.t-iterator (tasks_in c.args.store.now) c.in-Some.t c.next.new.self c.loop-t.invariant c.in-Some.ensures.steps
    (c.is_valid_task_queue.ensures.0 c.if-not-is_valid_task_queue.false)

pub returns : goal.returns
returns c = (
  λ t. (of-tasks c.args.store.now (λ t. AllByRecursion (IsValidPacket (lists_in c.args.store.now) (Work t.id)) t.queue)).0
      (gone (AreValidWork c.args.store.now) (IsKnown c.args.store.now) c.loop-t.t-iterator (tasks_in c.args.store.now) c.loop-t.invariant c.in-None.ensures.steps.0),
  λ h. refl,
)
