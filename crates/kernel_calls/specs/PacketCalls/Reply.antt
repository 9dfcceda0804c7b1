-- A packet is returned to the task that sent it.
use Rattle.std.specs.Prelude.{◌≡◌, ℕ, ◌+◌, true, Ok, List, [], ◌∷◌, slice_index}
use Rattle.word_store.specs.Arithmetic.{signed}
use Rattle.kernel_lists.specs.PacketQueue.QueueWords.{QueuedPacket}
use Rattle.kernel_lists.specs.declared.packet_queue.events.KernelEvent.TheVariants.{Accepted}
use Rattle.kernel_model.specs.KernelRecord.Changes.{AreUnowned}
use Rattle.kernel_model.specs.KernelRecord.Lists.{Lists, has_task}
use Rattle.kernel_model.specs.KernelRecord.ValidBlocks.{AreData}
use Rattle.kernel_model.specs.KernelRecord.ValidQueues.{HasSender}
use Rattle.kernel_model.specs.KernelRecord.ValidQueues.Place.{Work}
use Rattle.kernel_calls.specs.CallAnswers.CallChange.{CallChange, minus_one}
use Rattle.kernel_calls.specs.PacketCalls.PacketMoves.{packet_at, with_arrived}

-- the packet's sender is there, its words are data of one used block, nobody owns them, and who returns it may send to its sender
pub record CanReply (s : List ℕ) (l : Lists) (p from : ℕ) : Type 0 where
  -- the task that sent it is there
  pub there : has_task (slice_index s (p + 1)) l.tasks ≡ true
  -- its words are data of one used block
  pub lodged : AreData l.blocks p 5
  -- nobody owns them
  pub plain : AreUnowned l p (p + 5)
  -- the task that returns it may send there
  pub sender : HasSender l (Work (slice_index s (p + 1))) from

-- the packet with these results, from its new sender
abbrev pub returned : List ℕ → ℕ → ℕ → ℕ → ℕ → QueuedPacket
returned s p from res1 res2 = record (packet_at s p) { sender = from; res1 = res1; last = res2 }

-- The packet at p goes back to the work queue of the task that its word 1 names, with these results.
abbrev pub reply : List ℕ → Lists → ℕ → ℕ → ℕ → ℕ → CallChange
reply s l p from res1 res2 = record {
  answer = Ok minus_one;
  lists = with_arrived (Work (slice_index s (p + 1))) (returned s p from res1 res2) l;
  plain = [];
  events = Accepted (signed (slice_index s (p + 1))) p (signed from) ∷ [];
}
