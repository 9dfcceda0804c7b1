use Rattle.program_answers.proofs.TraceLog.NotedLists.{NotesAll-next}
use Rattle.program_answers.proofs.trace_log.event_lines.note_all.Goals as goal

pub loop-event-preserved : goal.loop-event-preserved
loop-event-preserved g c = NotesAll-next _ _ _ _ _ _ c.args.events.now c.loop-event.event-index _ c.loop-event-test.true c.loop-event.invariant c.note.ensures
