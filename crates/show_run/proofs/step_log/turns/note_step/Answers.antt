use Rattle.std.specs.Prelude.{[], ◌∷◌}
use Rattle.program_answers.specs.TraceLog.Marks.{kept}
use Rattle.program_answers.specs.TraceLog.Trails.{events_of}
use Rattle.program_answers.proofs.TraceLog.MarkedLists.{NotesAll-rest, marked}
use Rattle.show_run.proofs.StepLog.GivenBack.{moments-same}
use Rattle.show_run.proofs.step_log.turns.note_step.Goals as goal

pub returns : goal.returns
returns g c =
    let old = c.args.log.now in
    let new = c.step.new.log in
    let holds = g.K.Sink.holds in
    let faults = g.K.Sink.faults in
    let was = kept old.out.ghost_name (faults old.first.value) (holds old.first.value) old.before.value (old.moment.step ∷ old.moment.tick ∷ old.moment.task ∷ old.moment.pc ∷ []) in
    let now = kept new.out.ghost_name (faults new.first.value) (holds new.first.value) new.before.value (new.moment.step ∷ new.moment.tick ∷ new.moment.task ∷ new.moment.pc ∷ []) in
    let is = marked was now (events_of old.trail) (events_of new.trail) _ _ _ c.step.ensures.events in
    record {
      state = c.step.ensures.state;
      output = c.step.ensures.output;
      same_reference = is.name;
      same_first = is.first;
      same_faults = is.faults;
      same_before = is.before;
      same_moment = moments-same new.moment old.moment is.numbers;
      events = NotesAll-rest was now (events_of old.trail) (events_of new.trail) _ _ _ c.step.ensures.events;
    }
