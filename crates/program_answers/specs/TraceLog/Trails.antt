-- The events of a trail.
use Rattle.std.specs.Prelude.{List, [], ◌∷◌, ◌++◌}
use Rattle.kernel_lists.specs.declared.packet_queue.events.KernelEvent.{KernelEvent}
use Rattle.program_answers.specs.declared.trace_log.trails.Trail.{Trail, Start, More'}

-- the events, in order
abbrev pub events_of : Trail → List KernelEvent
events_of Start = []
events_of (More' marker before e) = events_of before ++ e ∷ []
