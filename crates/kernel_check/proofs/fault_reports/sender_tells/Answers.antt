use Rattle.std.proofs.Common.{◌≡◌, ◌∙◌, ◌+◌, ap, refl, subst, sym}
use Rattle.kernel_lists.specs.PacketQueue.Queue.{HasQueue}
use Rattle.kernel_lists.specs.TaskBlock.TaskChain.{tasks_in}
use Rattle.kernel_model.specs.KernelRecord.Changes.{work_of}
use Rattle.kernel_model.specs.KernelRecord.Recovered.{lists_in}
use Rattle.kernel_model.specs.KernelRecord.Task.{queue_head}
use Rattle.kernel_model.proofs.KernelRecord.WalkedLists.{can-walk}
use Rattle.kernel_check.proofs.FaultReports.{its-queue, next-walk, no-queue, queue-tells, seeking, seeks-on}
use Rattle.kernel_check.proofs.fault_reports.sender_tells.Goals as goal

pub tasks-t-items-requires : goal.tasks-t-items-requires
tasks-t-items-requires c = (can-walk c.args.store.now (lists_in c.args.store.now) c.requires).chain

pub loop-t-init : goal.loop-t-init
loop-t-init c = (let is : c.into_iter-t-iterator.result ≡ tasks_in c.args.store.now = cc in seeking c.args.store.now c.into_iter-t-iterator.result is c.requires)

pub packets_tell-requires-clause-walk : goal.packets_tell-requires-clause-walk
packets_tell-requires-clause-walk c = (can-walk c.args.store.now (lists_in c.args.store.now) c.requires).chain

pub packets_tell-requires-clause-queue : goal.packets_tell-requires-clause-queue
packets_tell-requires-clause-queue c =
    subst (HasQueue c.args.store.now) (sym (c.address_of.ensures ∙ ap (λ i. c.in-Some.t + i) c.index.ensures))
    (next-walk c.args.store.now c.loop-t.t-iterator c.in-Some.t c.next.new.self c.field.result c.loop-t.invariant c.in-Some.ensures.steps c.field.ensures).queue

pub returns-then-field-eq-REPORTER : goal.returns-then-field-eq-REPORTER
returns-then-field-eq-REPORTER c =
    queue-tells c.args.store.now c.packets_tell.result c.address_of.result (queue_head c.in-Some.t) (work_of 2 (lists_in c.args.store.now).tasks)
    (c.address_of.ensures ∙ ap (λ i. c.in-Some.t + i) c.index.ensures)
    (its-queue c.args.store.now c.loop-t.t-iterator c.in-Some.t c.next.new.self c.field.result c.loop-t.invariant c.in-Some.ensures.steps c.field.ensures c.if-field-eq-REPORTER.true) c.packets_tell.ensures

pub loop-t-preserved : goal.loop-t-preserved
loop-t-preserved c = seeks-on c.args.store.now c.loop-t.t-iterator c.in-Some.t c.next.new.self c.field.result c.loop-t.invariant c.in-Some.ensures.steps c.field.ensures c.if-field-eq-REPORTER.false

pub returns : goal.returns
returns c = (λ t. no-queue c.args.store.now c.loop-t.t-iterator c.loop-t.invariant c.in-None.ensures.steps.0, λ h. refl)
