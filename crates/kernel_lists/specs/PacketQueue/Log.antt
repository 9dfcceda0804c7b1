-- What a note does to a log.
use Rattle.std.specs.Prelude.{◌≡◌, Bool, List, [], ◌∷◌, ◌++◌, Option, IsTrue}
use Rattle.std.specs.Bool.{OnTrue, OnFalse}
use Rattle.std.specs.Option.{option_map}
use Rattle.kernel_lists.specs.declared.packet_queue.events.KernelEvent.{KernelEvent}

-- A log that has failed stays so. Where it has not, the event is at the end of those that it tells; else they stay as they were.
pub record Notes (before now : Option (List KernelEvent)) (had_failed has_failed : Bool) (e : KernelEvent) : Type 0 where
  -- a log that has failed fails for good
  pub for_good : IsTrue had_failed → IsTrue has_failed
  -- where it has not failed, the event was added
  pub added : OnFalse has_failed (now ≡ option_map (λ events. events ++ e ∷ []) before)
  -- where it has failed, none was
  pub kept : OnTrue has_failed (now ≡ before)
