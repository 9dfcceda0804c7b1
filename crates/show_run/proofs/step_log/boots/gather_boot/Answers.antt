use Rattle.std.proofs.Common.{◌∙◌, ◌++◌, ap, rules, subst}
use Rattle.std.specs.List.{flat_map}
use Rattle.tripos_machine.specs.Step.{boot_events}
use Rattle.byte_streams.specs.Pending.{IsCut}
use Rattle.program_answers.specs.TraceLog.Traced.{GivesPending}
use Rattle.program_answers.specs.TraceLog.Trails.{events_of}
use Rattle.program_answers.proofs.TraceLog.GivenLines.{GivesPending-all}
use Rattle.show_run.specs.declared.step_log.boots.TheConstants.{BOOT}
use Rattle.show_run.specs.declared.step_log.moments.Moment.{Moment}
use Rattle.show_run.specs.StepLog.Events.{event_line}
use Rattle.show_run.proofs.StepLog.GivenBack.{cut-behind}
use Rattle.show_run.proofs.step_log.boots.gather_boot.Goals as goal

pub returns-in-Err-clause-text : goal.returns-in-Err-clause-text
returns-in-Err-clause-text g c =
    let holds = g.K.Sink.holds in
    let m = BOOT in
    let e = c.note_boot.ensures in
    let log = c.note_boot.new.log in
    let events = boot_events c.args.machine.now.state in
    let told = c.into_pending in
    let text = subst (λ (w : Moment). GivesPending (holds log.first.value) (holds log.out.now) (log.before.value ++ flat_map (event_line w) (events_of log.trail)) told.result) (e.same_words ∙ c.new-log.ensures.words) told.ensures.text in
    let all = GivesPending-all (holds log.out.now) (event_line m) told.result (e.same_first ∙ ap holds c.new-log.ensures.first) (e.same_before ∙ c.new-log.ensures.before ∙ c.replace.ensures.value) c.new-log.ensures.no_events e.events told.ensures.whole text in
    let cut : IsCut (holds c.args.out.now) (holds log.out.now) c.args.pending.now (flat_map (event_line m) events) =
    cut-behind _ _ _ _ (subst (GivesPending (holds c.args.out.now) (holds log.out.now) (c.args.pending.now ++ flat_map (event_line m) events)) c.in-Err.is all) in
    search rules
