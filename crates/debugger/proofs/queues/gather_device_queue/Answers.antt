use Rattle.byte_streams.specs.Pending.{Gathers}
use Rattle.debugger.specs.Texts.{device_queue_text}
use Rattle.debugger.specs.Views.{device_queue}
use Rattle.debugger.proofs.KernelParts.{held-lists, on-bare, on-full}
use Rattle.debugger.proofs.queues.gather_device_queue.Goals as goal

pub queue_of_device-queue-requires : goal.queue_of_device-queue-requires
queue_of_device-queue-requires g c = held-lists _ c.args.machine.now.state c.in-Some.ensures.represents

pub gather_queue-requires : goal.gather_queue-requires
gather_queue-requires g c =
    let held = held-lists _ c.args.machine.now.state c.in-Some.ensures.represents in
    (device_queue c.args.number held.0, c.queue_of_device-queue.ensures held.0 held.1)

pub returns-in-Some-clause-text : goal.returns-in-Some-clause-text
returns-in-Some-clause-text g c =
    let holds = g.K.Sink.holds in
    let end = c.gather_queue in
    on-full _ c.args.machine.now.state (λ s. Gathers (holds c.args.out.now) (holds end.new.out) c.args.pending.now end.new.pending (device_queue_text c.args.number s) end.result) c.in-Some.ensures.represents
    (λ k h. end.ensures.text (device_queue c.args.number k.lists) (c.queue_of_device-queue.ensures k.lists h))

pub returns-in-None-clause-text : goal.returns-in-None-clause-text
returns-in-None-clause-text g c =
    let holds = g.K.Sink.holds in
    let end = c.gather_none in
    on-bare c.args.machine.now.state (λ s. Gathers (holds c.args.out.now) (holds end.new.out) c.args.pending.now end.new.pending (device_queue_text c.args.number s) end.result) c.in-None.ensures.represents
    (λ m. end.ensures.text)
