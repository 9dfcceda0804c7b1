-- What the events of a part of a step do to a log.
use Rattle.std.specs.Prelude.{◌≡◌, Bool, List, [], ◌++◌, Option, IsTrue}
use Rattle.std.specs.Bool.{OnFalse, OnTrue}
use Rattle.std.specs.Option.{option_map}
use Rattle.kernel_lists.specs.declared.packet_queue.events.KernelEvent.{KernelEvent}

-- The log has gained these events, or the first of them where it has failed; and none where it had failed before.
pub record NotesAll (before now : Option (List KernelEvent)) (had_failed has_failed : Bool) (events : List KernelEvent) : Type 0 where
  -- the events that were noted
  pub front : List KernelEvent
  -- those that were not
  pub rest : List KernelEvent
  -- they are the events, in their order
  pub is : events ≡ front ++ rest
  -- a log that tells its events has these more
  pub gained : now ≡ option_map (λ es. es ++ front) before
  -- one that works has noted all
  pub whole : OnFalse has_failed (rest ≡ [])
  -- one that had failed has noted none
  pub none : OnTrue had_failed (front ≡ [])
  -- it does not work again
  pub for_good : IsTrue had_failed → IsTrue has_failed
