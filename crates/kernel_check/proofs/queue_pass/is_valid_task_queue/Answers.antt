use Rattle.std.proofs.Common.{◌∙◌, ◌+◌, ap}
use Rattle.kernel_model.specs.KernelRecord.Task.{queue_head}
use Rattle.kernel_check.proofs.QueuedPackets.{queue-at}
use Rattle.kernel_check.proofs.QueueRules.{work-at}
use Rattle.kernel_check.proofs.queue_pass.is_valid_task_queue.Goals as goal

pub are_valid_packets-requires-clause-queue : goal.are_valid_packets-requires-clause-queue
are_valid_packets-requires-clause-queue c = queue-at c.args.store.now c.address_of.result (queue_head c.args.t) (c.address_of.ensures ∙ ap (λ i. c.args.t + i) c.index.ensures) c.requires.queue

pub returns : goal.returns
returns c =
    work-at c.args.store.now c.args.t c.field.result c.address_of.result c.are_valid_packets.result c.field.ensures (c.address_of.ensures ∙ ap (λ i. c.args.t + i) c.index.ensures) c.are_valid_packets.ensures
