-- The shell's packet, which lies in the resident block.
use Rattle.std.specs.Prelude.{◌≡◌, ℕ, ◌+◌, true, List, [], ◌∷◌}
use Rattle.word_store.specs.Arithmetic.{signed}
use Rattle.kernel_lists.specs.OwnedWords.Owned.{Pairs, row_from, written}
use Rattle.kernel_lists.specs.declared.packet_queue.events.KernelEvent.{KernelEvent}
use Rattle.kernel_lists.specs.declared.packet_queue.events.KernelEvent.TheVariants.{Accepted}
use Rattle.kernel_model.specs.KernelRecord.Changes.{AreUnowned}
use Rattle.kernel_model.specs.KernelRecord.Lists.{Lists, has_task}
use Rattle.kernel_calls.specs.PacketCalls.SendOwn.{send_own}
use Rattle.kernel_model.specs.KernelRecord.StoreWithLists.{StoreWithLists, store_with_lists}
use Rattle.kernel_model.specs.declared.kernel_record.numbers.TheConstants.{SHELL, SHELL_PACKET}
use Rattle.shell.specs.ShellPrograms.StoresWithLists.{left_by}

-- the shell's packet is on no queue: nobody owns its first five words
pub record HasPacket (l : Lists) : Type 0 where
  -- the shell is there
  pub shell : has_task SHELL l.tasks ≡ true
  -- nobody owns the packet's words
  pub words : AreUnowned l SHELL_PACKET (SHELL_PACKET + 5)

-- the shell has it, and there is a task with the number
pub record CanPost (l : Lists) (to : ℕ) : Type 0 where
  -- the shell has its packet
  pub packet : HasPacket l
  -- the task that gets it is there
  pub there : has_task to l.tasks ≡ true

-- the shell sends it to a task as it is
abbrev pub posted : ℕ → StoreWithLists → StoreWithLists
posted to k = left_by k.words (send_own k.words k.lists SHELL_PACKET SHELL to)

-- the event that the shell's packet is sent to a task
abbrev pub post_events : ℕ → List KernelEvent
post_events to = Accepted (signed to) SHELL_PACKET (signed SHELL) ∷ []

-- the type, the results and the arguments of the shell's packet as a request of this type
abbrev pub request_words : ℕ → Pairs
request_words kind = row_from SHELL_PACKET 2 (kind ∷ 0 ∷ 0 ∷ 0 ∷ 0 ∷ 0 ∷ [])

-- the shell sends it to a task as a request of this type
abbrev pub requested : ℕ → ℕ → StoreWithLists → StoreWithLists
requested to kind k = posted to (store_with_lists (written (request_words kind) k.words) k.lists)
