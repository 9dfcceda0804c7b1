-- The words that are written where a packet comes into a queue, and where it goes out.
use Rattle.std.specs.Prelude.{ℕ, ◌+◌, ◌-◌, ◌%◌, ◌^◌, ◌==◌, if◌then◌else◌, List, min, slice_index, slice_set}
use Rattle.kernel_lists.specs.PacketQueue.Due.{with_due}
use Rattle.kernel_lists.specs.PacketQueue.Queue.{appended, unlinked}
use Rattle.kernel_lists.specs.TaskBlock.RootWords.{root_address}
use Rattle.kernel_lists.specs.TaskBlock.TaskWords.{word_index}
use Rattle.kernel_lists.specs.declared.task_block.fields.TcbField.TheVariants.{State}
use Rattle.kernel_lists.specs.declared.task_block.roots.RootField.TheVariants.{Tick}
use Rattle.kernel_model.specs.KernelRecord.Owned.{clock_head, keyboard_head, output_head}
use Rattle.kernel_model.specs.KernelRecord.Residents.{pending_head}
use Rattle.kernel_model.specs.KernelRecord.Task.{queue_head}
use Rattle.kernel_calls.specs.declared.packet_calls.queues.Queue.{Queue}
use Rattle.kernel_calls.specs.declared.packet_calls.queues.Queue.TheVariants.{Clock, Keyboard, Output, Pending, Work}
use Rattle.kernel_model.specs.KernelDispatch.Private.DispatchWords.{state_of}

-- the word that leads to its first packet
abbrev pub head_of : Queue → ℕ
head_of (Work t) = queue_head t
head_of Clock = clock_head
head_of Keyboard = keyboard_head
head_of Output = output_head
head_of Pending = pending_head

-- a state is odd where packets wait
abbrev pub state_with_packets : ℕ → ℕ
state_with_packets w = if w % 2 == 0 then w + 1 else w

-- the state once a packet went out, where the head holds the next one, or 0
abbrev pub state_left : ℕ → ℕ → ℕ
state_left w next = if next == 0 then w - w % 2 else w

-- the store in which the packet came into the queue: at the clock by its due tick, and else at the end
abbrev pub enqueued : List ℕ → Queue → ℕ → ℕ → List ℕ
enqueued s (Work t) p due = slice_set (appended s (queue_head t) p) (t + word_index State) (state_with_packets (state_of s t))
enqueued s Clock p due = with_due s clock_head p due
enqueued s Keyboard p due = appended s keyboard_head p
enqueued s Output p due = appended s output_head p
enqueued s Pending p due = appended s pending_head p

-- the store in which the packet went out of the queue
abbrev pub unqueued : List ℕ → Queue → ℕ → List ℕ
unqueued s (Work t) p =
    slice_set (unlinked s (queue_head t) p) (t + word_index State) (state_left (state_of s t) (slice_index (unlinked s (queue_head t) p) (queue_head t)))
unqueued s Clock p = unlinked s clock_head p
unqueued s Keyboard p = unlinked s keyboard_head p
unqueued s Output p = unlinked s output_head p
unqueued s Pending p = unlinked s pending_head p

-- the tick that comes so many ticks after this one, or the last tick that there is
abbrev pub due_tick : ℕ → ℕ → ℕ
due_tick tick delay = min (tick + delay) (2 ^ 32 - 1)

-- the tick at which a packet would be due that is sent to the clock now, with its delay in word 5
abbrev pub due_in : List ℕ → ℕ → ℕ
due_in s p = due_tick (slice_index s (root_address Tick)) (slice_index s (p + 5))

-- the store in which the packet at p was sent by a task or a device to the queue
abbrev pub sent_words : List ℕ → Queue → ℕ → ℕ → List ℕ
sent_words s q p sender = enqueued (slice_set s (p + 1) sender) q p (due_in s p)

-- the packet at p with another sender, and with other results
abbrev pub with_results : List ℕ → ℕ → ℕ → ℕ → ℕ → List ℕ
with_results s p sender res1 res2 = slice_set (slice_set (slice_set s (p + 1) sender) (p + 3) res1) (p + 4) res2
