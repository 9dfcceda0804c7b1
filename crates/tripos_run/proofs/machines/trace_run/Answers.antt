use Rattle.std.proofs.Common.{[]}
use Rattle.program_answers.specs.TraceLog.Marks.{kept}
use Rattle.program_answers.specs.TraceLog.Trails.{events_of}
use Rattle.program_answers.proofs.TraceLog.MarkedLists.{NotesAll-rest, marked}
use Rattle.tripos_run.proofs.machines.trace_run.Goals as goal

pub returns-clause-same_first : goal.returns-clause-same_first
returns-clause-same_first g c =
    let old = c.args.log.now in
    let new = c.note_run.new.log in
    let holds = g.K.Sink.holds in
    let faults = g.K.Sink.faults in
    let was = kept old.out.ghost_name (faults old.first.value) (holds old.first.value) old.before.value [] in
    let now = kept new.out.ghost_name (faults new.first.value) (holds new.first.value) new.before.value [] in
    (marked was now (events_of old.trail) (events_of new.trail) _ _ _ c.note_run.ensures.events).first

pub returns-clause-same_before : goal.returns-clause-same_before
returns-clause-same_before g c =
    let old = c.args.log.now in
    let new = c.note_run.new.log in
    let holds = g.K.Sink.holds in
    let faults = g.K.Sink.faults in
    let was = kept old.out.ghost_name (faults old.first.value) (holds old.first.value) old.before.value [] in
    let now = kept new.out.ghost_name (faults new.first.value) (holds new.first.value) new.before.value [] in
    (marked was now (events_of old.trail) (events_of new.trail) _ _ _ c.note_run.ensures.events).before

pub returns-clause-events : goal.returns-clause-events
returns-clause-events g c =
    let old = c.args.log.now in
    let new = c.note_run.new.log in
    let holds = g.K.Sink.holds in
    let faults = g.K.Sink.faults in
    let was = kept old.out.ghost_name (faults old.first.value) (holds old.first.value) old.before.value [] in
    let now = kept new.out.ghost_name (faults new.first.value) (holds new.first.value) new.before.value [] in
    NotesAll-rest was now (events_of old.trail) (events_of new.trail) _ _ _ c.note_run.ensures.events
