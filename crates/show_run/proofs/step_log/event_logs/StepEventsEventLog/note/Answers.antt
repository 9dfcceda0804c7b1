use Rattle.std.proofs.Common.{◌∙◌, ◌++◌, ◌∷◌, [], ap, sym, take}
use Rattle.program_answers.proofs.TraceLog.TracedNotes.{Notes-more, Traced-lost, Traced-more, failed-works}
use Rattle.program_answers.specs.TraceLog.Marks.{kept, marks}
use Rattle.program_answers.specs.TraceLog.Trails.{events_of}
use Rattle.show_run.specs.declared.step_log.packets.TheConstants.{MOST_TOLD}
use Rattle.show_run.specs.StepLog.Packets.{accepted}
use Rattle.show_run.proofs.StepLog.ToldPackets.{told-more}
use Rattle.show_run.proofs.step_log.event_logs.StepEventsEventLog.note.Goals as goal

pub invariant_of-self : goal.invariant_of-self
invariant_of-self g c = record { traced = Traced-lost c.if-self.true c.args.self.now.traced; first_told = c.args.self.now.first_told }

pub invariant_of-self-2 : goal.invariant_of-self-2
invariant_of-self-2 g c = record {
  traced = Traced-more c.args.e c.gather_event.result c.if-self.false c.is_err-self.ensures.value c.add.ensures c.args.self.now.traced c.gather_event.ensures.text c.gather_event.ensures.cause;
  first_told = c.keep.ensures ∙ ap (λ v. take MOST_TOLD (v ++ accepted c.args.e ∷ [])) c.args.self.now.first_told
      ∙ sym (told-more (events_of c.args.self.now.trail) (events_of c.add.new.self) c.args.e c.add.ensures);
}

pub returns : goal.returns
returns g c =
    let log = c.args.self.now in
    let m = log.moment in
    Notes-more (marks (kept log.out.ghost_name (g.K.Sink.faults log.first.value) (g.K.Sink.holds log.first.value) log.before.value (m.step ∷ m.tick ∷ m.task ∷ m.pc ∷ []))) (events_of log.trail) (events_of c.add.new.self) c.args.e log.failed (failed-works c.if-self.false log.traced) c.add.ensures
