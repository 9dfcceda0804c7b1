use Rattle.std.proofs.Common.{◌∙◌, sym}
use Rattle.std.proofs.lemmas.Bool.{false≢true}
use Rattle.kernel_check.proofs.ClaimedQueues.{clock-queue}
use Rattle.kernel_check.proofs.QueuedPackets.{queue-at}
use Rattle.kernel_check.proofs.QueueRules.{pending-none, rise-at, runs-one}
use Rattle.kernel_check.proofs.queue_pass.are_valid_queues.Goals as goal

pub ticks_rise-requires : goal.ticks_rise-requires
ticks_rise-requires c = (queue-at c.args.store.now c.address.result 105 c.address.ensures (clock-queue c.args.store.now c.requires.known.claimed)).queue

pub returns-then-not-ticks_rise : goal.returns-then-not-ticks_rise
returns-then-not-ticks_rise c = (
  λ t. absurd (false≢true t),
  λ h. sym c.if-not-ticks_rise.true ∙ (rise-at c.args.store.now c.ticks_rise.result c.address.result c.address.ensures c.ticks_rise.ensures).1 h.due,
)

pub returns : goal.returns
returns c = (
  λ t. record {
    tasks = c.are_valid_work_queues.ensures.0 c.if-not-are_valid_work_queues.false;
    clock = (c.are_valid_device_queues.ensures.0 c.if-not-are_valid_device_queues.false).0;
    keyboard = (c.are_valid_device_queues.ensures.0 c.if-not-are_valid_device_queues.false).1;
    output = (c.are_valid_device_queues.ensures.0 c.if-not-are_valid_device_queues.false).2;
    pending = c.is_valid_pending.ensures.0 c.if-not-is_valid_pending.false;
    due = (rise-at c.args.store.now c.ticks_rise.result c.address.result c.address.ensures c.ticks_rise.ensures).0 c.if-not-ticks_rise.false;
    no_console = pending-none c.args.store.now;
    key = c.key_packet_is_told.ensures.0 c.if-not-key_packet_is_told.false;
    fault = c.fault_packet_is_told.ensures.0 t;
    running = runs-one c.args.store.now c.requires.known c.requires.running;
  },
  λ h. c.fault_packet_is_told.ensures.1 h.fault,
)
