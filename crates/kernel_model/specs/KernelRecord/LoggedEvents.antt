-- What a call says of the log that it notes its events in. `g` is what a log tells of itself.
use Rattle.std.specs.Prelude.{List}
use Rattle.kernel_lists.specs.declared.packet_queue.events.KernelEvent.{KernelEvent}
use Rattle.kernel_lists.specs.declared.packet_queue.logs.EventLog.{Ghosts}
use Rattle.kernel_model.specs.KernelRecord.NotedEvents.{NotesAll}

-- the log, before and after the call, has gained these events
abbrev pub LogsAll : {L : Type 0} (g : Ghosts L) (old new : L) → List KernelEvent → Type 0
LogsAll g old new events = NotesAll (g.noted old) (g.noted new) (g.has_failed old) (g.has_failed new) events
