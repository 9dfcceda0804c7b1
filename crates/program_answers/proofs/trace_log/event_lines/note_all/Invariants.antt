use Rattle.std.proofs.Common.{take}
use Rattle.kernel_model.specs.KernelRecord.NotedEvents.{NotesAll}
use Rattle.program_answers.proofs.trace_log.event_lines.note_all.Given as goal

-- the events so far are noted
abbrev pub invariant-loop-event : goal.invariant-loop-event
invariant-loop-event g l =
    let log = g.L.EventLog in
    NotesAll (log.noted l.fn.log) (log.noted l.log) (log.has_failed l.fn.log) (log.has_failed l.log) (take l.event-index l.events)
