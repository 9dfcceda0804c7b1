-- A resident sends a packet of its own.
use Rattle.std.specs.Prelude.{◌≡◌, ℕ, ◌+◌, ◌⊎◌, ◌==◌, true, is_some, if◌then◌else◌, None, Ok, List, [], ◌∷◌}
use Rattle.word_store.specs.Arithmetic.{signed}
use Rattle.kernel_lists.specs.declared.packet_queue.events.KernelEvent.TheVariants.{Accepted}
use Rattle.kernel_model.specs.KernelRecord.Changes.{AreUnowned, with_key}
use Rattle.kernel_model.specs.KernelRecord.Lists.{Lists, has_task}
use Rattle.kernel_model.specs.KernelRecord.Residents.{key_packet, keyboard}
use Rattle.kernel_model.specs.KernelRecord.ValidBlocks.{AreData}
use Rattle.kernel_model.specs.KernelRecord.ValidQueues.Place.{Keyboard, Work}
use Rattle.kernel_calls.specs.CallAnswers.CallChange.{CallChange, minus_one}
use Rattle.kernel_model.specs.declared.kernel_record.numbers.TheConstants.{CONSOLE}
use Rattle.kernel_calls.specs.PacketCalls.PacketMoves.{sent_packet, with_arrived}

-- A packet that is plain goes from one task to another, or the same one.
pub record CanSendToTask (l : Lists) (p from to : ℕ) : Type 0 where
  -- the task that sends it is there
  pub sender : has_task from l.tasks ≡ true
  -- the task that gets it is there
  pub there : has_task to l.tasks ≡ true
  -- its words are data of one used block
  pub lodged : AreData l.blocks p 5
  -- nobody owns them
  pub plain : AreUnowned l p (p + 5)

-- The console's key packet, which is on no queue, goes to the keyboard.
pub record CanSendKeys (l : Lists) (p from to : ℕ) : Type 0 where
  -- it is the key packet
  pub packet : p ≡ key_packet
  -- it is on no queue
  pub off : is_some l.key ≡ true
  -- the console sends it
  pub sender : from ≡ CONSOLE
  -- the keyboard gets it
  pub to_keyboard : to ≡ keyboard

-- a packet that a resident may send: to a task, or its key packet to the keyboard
abbrev pub CanSendOwn : Lists → ℕ → ℕ → ℕ → Type 0
CanSendOwn l p from to = CanSendToTask l p from to ⊎ CanSendKeys l p from to

-- what is sent to the keyboard is the key packet
abbrev pub with_sent : List ℕ → ℕ → ℕ → ℕ → Lists → Lists
with_sent s p from to l =
    if to == keyboard
    then with_key None (with_arrived Keyboard (sent_packet s l Keyboard p from) l)
    else with_arrived (Work to) (sent_packet s l (Work to) p from) l

-- The packet at p is sent by a resident; nothing refuses it.
abbrev pub send_own : List ℕ → Lists → ℕ → ℕ → ℕ → CallChange
send_own s l p from to = record {
  answer = Ok minus_one;
  lists = with_sent s p from to l;
  plain = [];
  events = Accepted (signed to) p (signed from) ∷ [];
}
