use Rattle.std.proofs.Common.{◌∙◌, ap, sym}
use Rattle.std.specs.List.{list_any}
use Rattle.kernel_model.specs.KernelRecord.Recovered.{packet_in}
use Rattle.kernel_lists.specs.PacketQueue.Queue.{queue_at}
use Rattle.state_text.specs.AwaitedPackets.{is_from}
use Rattle.state_text.proofs.ListedWords.{any-map}
use Rattle.state_text.proofs.sent.is_on_queue.Goals as goal

pub loop-p-init : goal.loop-p-init
loop-p-init c =
    let s = c.args.store.now in
    let is = c.into_iter-p-iterator.ensures.into_iter_gives ∙ c.packets-p-items.ensures in
    any-map (is_from c.args.id) (packet_in s) (queue_at s c.args.head) ∙ ap (list_any (λ p. is_from c.args.id (packet_in s p))) (sym is)
