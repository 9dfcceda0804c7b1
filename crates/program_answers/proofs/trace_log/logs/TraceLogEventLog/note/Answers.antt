use Rattle.program_answers.proofs.TraceLog.TracedNotes.{Notes-more, Traced-lost, Traced-more, failed-works}
use Rattle.program_answers.specs.TraceLog.Marks.{kept, marks}
use Rattle.program_answers.specs.TraceLog.Trails.{events_of}
use Rattle.program_answers.proofs.trace_log.logs.TraceLogEventLog.note.Goals as goal

pub invariant_of-self : goal.invariant_of-self
invariant_of-self g c = record { traced = Traced-lost c.if-self.true c.args.self.now.traced }

pub invariant_of-self-2 : goal.invariant_of-self-2
invariant_of-self-2 g c = record { traced = Traced-more c.args.e c.gather_event.result c.if-self.false c.is_err-self.ensures.value c.add.ensures c.args.self.now.traced c.gather_event.ensures.text c.gather_event.ensures.cause }

pub returns : goal.returns
returns g c = Notes-more (marks (kept c.args.self.now.out.ghost_name (g.K.Sink.faults c.args.self.now.first.value) (g.K.Sink.holds c.args.self.now.first.value) c.args.self.now.before.value (g.W.EventWords.numbers c.args.self.now.words))) (events_of c.args.self.now.trail) (events_of c.add.new.self) c.args.e c.args.self.now.failed (failed-works c.if-self.false c.args.self.now.traced) c.add.ensures
