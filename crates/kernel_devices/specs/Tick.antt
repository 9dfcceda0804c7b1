-- A tick of the clock.
use Rattle.std.specs.Prelude.{ℕ, ◌+◌, Bool, false, not, List, [], ◌∷◌, filter, nat_le}
use Rattle.std.specs.List.{flat_map}
use Rattle.kernel_lists.specs.PacketQueue.QueueWords.{QueuedPacket}
use Rattle.kernel_lists.specs.declared.packet_queue.events.KernelEvent.{KernelEvent}
use Rattle.kernel_model.specs.KernelRecord.Changes.{with_queue}
use Rattle.kernel_model.specs.KernelRecord.Lists.{Lists}
use Rattle.kernel_model.specs.KernelRecord.ValidQueues.Place.{Clock}
use Rattle.kernel_calls.specs.PacketCalls.Returned.{DeviceChange, return_events, returned_by, with_work_for}
use Rattle.kernel_calls.specs.declared.packet_calls.returns.Device.TheVariants as devices

-- the packets that are due at this tick or before
abbrev pub due_packets : ℕ → List QueuedPacket → List QueuedPacket
due_packets now ps = filter (λ q. nat_le q.last now) ps

-- the packets that are due at a later tick
abbrev pub later_packets : ℕ → List QueuedPacket → List QueuedPacket
later_packets now ps = filter (λ q. not (nat_le q.last now)) ps

-- whether the first packet at the clock is due: due ticks never fall along its queue, so without it none is
abbrev pub is_first_due : ℕ → List QueuedPacket → Bool
is_first_due now [] = false
is_first_due now (q ∷ qs) = nat_le q.last now

-- each of these packets comes from the clock to the end of its sender's work queue, one after the other, with results of 0
abbrev pub with_returned : List QueuedPacket → Lists → Lists
with_returned [] l = l
with_returned (q ∷ qs) l = with_returned qs (with_work_for q.sender (returned_by devices.Clock 0 q) l)

-- the events of these returns, in their order
abbrev pub events_of_return : List QueuedPacket → List KernelEvent
events_of_return qs = flat_map (return_events devices.Clock) qs

-- the packets that are due at this tick are returned, and the others stay at the clock
abbrev pub due_returned : ℕ → Lists → DeviceChange
due_returned now l = record {
  lists = with_returned (due_packets now l.clock) (with_queue Clock (later_packets now l.clock) l);
  events = events_of_return (due_packets now l.clock);
}

-- the lists once the clock has ticked so often
abbrev pub with_tick : ℕ → Lists → Lists
with_tick now l = record l { tick = now }

-- the ticks are one more
abbrev pub ticked : Lists → DeviceChange
ticked l = due_returned (l.tick + 1) (with_tick (l.tick + 1) l)
