use Rattle.std.proofs.Common.{sym, subst}
use Rattle.byte_streams.specs.Pending.{Gathers}
use Rattle.debugger.specs.Texts.{task_queue_text}
use Rattle.debugger.specs.Views.{Leads, task_queue}
use Rattle.debugger.proofs.KernelLists.{has-tasks, leads-task}
use Rattle.debugger.proofs.KernelParts.{held-lists, on-bare, on-full}
use Rattle.debugger.proofs.queues.gather_task_queue.Goals as goal

pub queue_of_task-queue-requires : goal.queue_of_task-queue-requires
queue_of_task-queue-requires g c =
    let held = held-lists _ c.args.machine.now.state c.in-Some.ensures.represents in
    has-tasks _ held.0 held.1

pub gather_queue-requires : goal.gather_queue-requires
gather_queue-requires g c =
    let held = held-lists _ c.args.machine.now.state c.in-Some.ensures.represents in
    (task_queue c.args.id held.0.tasks, subst (λ q. Leads c.in-Some.parts.now.store q (task_queue c.args.id held.0.tasks)) (sym c.queue_of_task-queue.ensures) (leads-task c.in-Some.parts.now.store held.0 held.1 c.args.id))

pub returns-in-Some-clause-text : goal.returns-in-Some-clause-text
returns-in-Some-clause-text g c =
    let holds = g.K.Sink.holds in
    let end = c.gather_queue in
    on-full _ c.args.machine.now.state (λ s. Gathers (holds c.args.out.now) (holds end.new.out) c.args.pending.now end.new.pending (task_queue_text c.args.id s) end.result) c.in-Some.ensures.represents
    (λ k h. end.ensures.text (task_queue c.args.id k.lists.tasks) (subst (λ q. Leads c.in-Some.parts.now.store q (task_queue c.args.id k.lists.tasks)) (sym c.queue_of_task-queue.ensures) (leads-task c.in-Some.parts.now.store k.lists h c.args.id)))

pub returns-in-None-clause-text : goal.returns-in-None-clause-text
returns-in-None-clause-text g c =
    let holds = g.K.Sink.holds in
    let end = c.gather_none in
    on-bare c.args.machine.now.state (λ s. Gathers (holds c.args.out.now) (holds end.new.out) c.args.pending.now end.new.pending (task_queue_text c.args.id s) end.result) c.in-None.ensures.represents
    (λ m. end.ensures.text)
