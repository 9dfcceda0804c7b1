-- Which queue a number names: a task's number its work queue, and -1, -2 and -3 the queues of the clock, the keyboard and the
-- output.
use Rattle.std.specs.Prelude.{ℕ, ◌==◌, ◌||◌, Bool, if◌then◌else◌, Option, Some, None}
use Rattle.kernel_model.specs.KernelRecord.Lists.{Lists, address_of_task, has_task}
use Rattle.kernel_model.specs.KernelRecord.Residents.{device}
use Rattle.kernel_model.specs.KernelRecord.ValidQueues.{Place}
use Rattle.kernel_model.specs.KernelRecord.ValidQueues.Place.{Clock, Keyboard, Output, Pending, Work}
use Rattle.kernel_calls.specs.declared.packet_calls.queues.Queue.{Queue}
use Rattle.kernel_calls.specs.declared.packet_calls.queues.Queue.TheVariants as queues

-- the queue that a number names
abbrev pub place_of : ℕ → Place
place_of n =
    if n == device 1 then Clock else
    if n == device 2 then Keyboard else
    if n == device 3 then Output else
    Work n

-- a device, or a task that is there
abbrev pub is_destination : Lists → ℕ → Bool
is_destination l n = (n == device 1) || ((n == device 2) || ((n == device 3) || has_task n l.tasks))

-- the queue that is at a place
abbrev pub queue_for : Lists → Place → Queue
queue_for l (Work id) = queues.Work (address_of_task l id)
queue_for l Clock = queues.Clock
queue_for l Keyboard = queues.Keyboard
queue_for l Output = queues.Output
queue_for l Pending = queues.Pending

-- the queue that the number names
abbrev pub destination_of : Lists → ℕ → Option Queue
destination_of l n = if is_destination l n then Some (queue_for l (place_of n)) else None
