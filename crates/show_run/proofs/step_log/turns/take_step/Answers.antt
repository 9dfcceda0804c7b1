use Rattle.std.proofs.Common.{◌∙◌, ◌++◌, ap, rules, subst}
use Rattle.std.specs.List.{flat_map}
use Rattle.tripos_machine.specs.Step.{step}
use Rattle.byte_streams.specs.Pending.{IsCut}
use Rattle.program_answers.specs.TraceLog.Traced.{GivesPending}
use Rattle.program_answers.specs.TraceLog.Trails.{events_of}
use Rattle.program_answers.proofs.TraceLog.GivenLines.{GivesPending-all}
use Rattle.show_run.specs.declared.step_log.moments.Moment.{Moment}
use Rattle.show_run.specs.StepLog.Events.{event_line}
use Rattle.show_run.proofs.StepLog.GivenBack.{cut-behind}
use Rattle.show_run.proofs.step_log.turns.take_step.Goals as goal

pub returns-in-Err-clause-text : goal.returns-in-Err-clause-text
returns-in-Err-clause-text g c =
    let holds = g.K.Sink.holds in
    let m = c.args.m in
    let e = c.note_step.ensures in
    let log = c.note_step.new.log in
    let events = (step c.args.machine.now.state).events in
    let told = c.into_told-rest in
    let text = subst (λ (w : Moment). GivesPending (holds log.first.value) (holds log.out.now) (log.before.value ++ flat_map (event_line w) (events_of log.trail)) told.result.0) (e.same_moment ∙ c.new-log.ensures.moment) told.ensures.text in
    let all = GivesPending-all (holds log.out.now) (event_line m) told.result.0 (e.same_first ∙ ap holds c.new-log.ensures.first) (e.same_before ∙ c.new-log.ensures.before ∙ c.replace.ensures.value) c.new-log.ensures.no_events e.events told.ensures.whole text in
    let cut : IsCut (holds c.args.out.now) (holds log.out.now) c.args.pending.now (flat_map (event_line m) events) =
    cut-behind _ _ _ _ (subst (GivesPending (holds c.args.out.now) (holds log.out.now) (c.args.pending.now ++ flat_map (event_line m) events)) c.in-Err.is all) in
    search rules
