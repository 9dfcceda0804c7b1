-- A change of the kernel.
use Rattle.std.specs.Prelude.{List}
use Rattle.kernel_lists.specs.OwnedWords.Owned.{Pairs}
use Rattle.kernel_lists.specs.declared.packet_queue.events.KernelEvent.{KernelEvent}
use Rattle.kernel_model.specs.KernelRecord.Lists.{Lists}

-- What is changed in the kernel. The records of calls, of dispatch and of turns have these parts too, by these names and in this
-- order, before their own.
pub record KernelChange : Type 0 where
  -- the lists
  pub lists : Lists
  -- the plain words that were written, each an address and a word
  pub plain : Pairs
  -- the events, in their order
  pub events : List KernelEvent
