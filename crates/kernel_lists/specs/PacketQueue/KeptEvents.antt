-- What a log in memory is.
use Rattle.std.specs.Prelude.{ℕ, Bool, List}
use Rattle.kernel_lists.specs.declared.packet_queue.events.KernelEvent.{KernelEvent}

-- the events, how many it has room for, and whether it has failed
pub record KeptEvents : Type 0 where
  -- the events, in their order
  pub events : List KernelEvent
  -- how many events it has room for
  pub room : ℕ
  -- an event had no room
  pub failed : Bool
