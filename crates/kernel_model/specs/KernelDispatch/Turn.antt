-- What a dispatch did to the store, the registers, the keeper of kinds and the log.
use Rattle.std.specs.Prelude.{◌≡◌, ◌≢◌, ℕ, ◌+◌, Bool, Option, Some, List, map, slice_index}
use Rattle.word_store.specs.declared.registers.Regs.{Regs}
use Rattle.kernel_lists.specs.OwnedWords.LinkedWords.{first_of}
use Rattle.kernel_lists.specs.OwnedWords.Owned.{written}
use Rattle.kernel_lists.specs.PacketQueue.QueueWords.{address_of}
use Rattle.kernel_lists.specs.declared.packet_queue.events.KernelEvent.{KernelEvent}
use Rattle.kernel_lists.specs.TaskBlock.TaskWords.{word_index}
use Rattle.kernel_lists.specs.declared.task_block.fields.TcbField.TheVariants.{State}
use Rattle.kernel_model.specs.KernelRecord.ChangedStore.{IsChanged, Knows}
use Rattle.kernel_model.specs.KernelRecord.Changes.{with_task}
use Rattle.kernel_model.specs.KernelRecord.Lists.{Lists}
use Rattle.kernel_model.specs.KernelRecord.NotedEvents.{NotesAll}
use Rattle.kernel_model.specs.KernelRecord.Task.{Task, queue_head}
use Rattle.kernel_model.specs.KernelDispatch.Dispatch.{dispatched, first_ready_task, packets_taken, taken_event, unlinked_words, with_packet_taken}

-- The store holds the lists that the dispatch leaves, its plain words and no others have changed, the registers are the ones that
-- it gives, the keeper knows the words of these lists, and the log has gained its events.
pub record IsDispatched (s t : List ℕ) (l : Lists) (before after : Regs) (tells : List ℕ → Type 0) (old new : Option (List KernelEvent)) (had_failed has_failed : Bool) : Type 0 where
  -- the store holds these lists, and these plain words alone have changed
  pub lists : IsChanged s t (dispatched s l before).lists (dispatched s l before).plain
  -- the registers of the task that runs now
  pub regs : after ≡ (dispatched s l before).regs
  -- the keeper knows the words of the lists
  pub knows : Knows tells (dispatched s l before).lists
  -- the events went to the log
  pub notes : NotesAll old new had_failed has_failed (dispatched s l before).events

-- the first ready task of the lists, with its task block at t
pub record IsNext (l : Lists) (w : Task) (t : ℕ) : Type 0 where
  -- it is the first ready task
  pub first : first_ready_task l ≡ Some w
  -- its task block is there
  pub address : w.address ≡ t

-- the task has taken the packet that it goes on with, if it takes one
pub record HasTaken (s t : List ℕ) (l : Lists) (w : Task) (packet : ℕ) (tells : List ℕ → Type 0) (old new : Option (List KernelEvent)) (had_failed has_failed : Bool) : Type 0 where
  -- the store holds the lists without the packet, and its link alone has changed besides
  pub lists : IsChanged s t (with_task w.id with_packet_taken l) (unlinked_words (packets_taken w))
  -- all words but the head of the queue and the state are as they were
  pub others : (a : ℕ) → a ≢ queue_head w.address → a ≢ w.address + word_index State
      → slice_index t a ≡ slice_index (written (unlinked_words (packets_taken w)) s) a
  -- the address of the packet, or 0
  pub taken : packet ≡ first_of address_of (packets_taken w) 0
  -- the keeper knows the words of the lists
  pub knows : Knows tells (with_task w.id with_packet_taken l)
  -- the event of the packet went to the log
  pub notes : NotesAll old new had_failed has_failed (map (taken_event w) (packets_taken w))
