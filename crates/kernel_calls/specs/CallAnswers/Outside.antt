-- What a call or a turn sees besides the kernel.
use Rattle.std.specs.Prelude.{ℕ, Bool, List, Option}
use Rattle.kernel_lists.specs.declared.packet_queue.events.KernelEvent.{KernelEvent}

-- What a call or a turn sees besides store, registers and keeper.
pub record Outside : Type 0 where
  -- the bytes of the console that are gathered and not yet passed on
  pub shown : List ℕ
  -- the events that the log tells, in their order; none where it tells none
  pub noted : Option (List KernelEvent)
  -- whether the log has failed
  pub failed : Bool

-- these three as one: bytes shown, events noted, and whether the log has failed
abbrev pub outside : List ℕ → Option (List KernelEvent) → Bool → Outside
outside shown noted failed = record { shown = shown; noted = noted; failed = failed }
