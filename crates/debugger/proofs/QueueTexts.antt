-- The text of a queue that is in a store.
use Rattle.std.proofs.Common.{◌≡◌, ℕ, Option, Some, None, List, refl, ap}
use Rattle.kernel_model.specs.KernelRecord.Recovered.{packets_at}
use Rattle.kernel_calls.specs.PacketCalls.QueueWords.{head_of}
use Rattle.kernel_calls.specs.declared.packet_calls.queues.Queue.{Queue}
use Rattle.kernel_lists.specs.PacketQueue.Queue.{HasQueue}
use Rattle.kernel_lists.specs.PacketQueue.QueueWords.{QueuedPacket}
use Rattle.debugger.specs.Texts.{packet_lines, queue_text}
use Rattle.debugger.specs.Views.{Leads}

pub leads-valid : (s : List ℕ) (queue : Queue) (ps : Option (List QueuedPacket)) → Leads s (Some queue) ps → HasQueue s (head_of queue)
leads-valid s queue None x = absurd x
leads-valid s queue (Some ps) x = x.0
