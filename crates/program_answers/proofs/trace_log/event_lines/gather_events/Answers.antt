use Rattle.std.proofs.Common.{◌∙◌, ap, rules}
use Rattle.kernel_lists.specs.PacketQueue.EventLine.{line_of}
use Rattle.program_answers.specs.TraceLog.Traced.{GivesPending, lines_of}
use Rattle.program_answers.proofs.TraceLog.GivenLines.{GivesPending-all}
use Rattle.program_answers.proofs.trace_log.event_lines.gather_events.Goals as goal

pub returns-clause-text : goal.returns-clause-text
returns-clause-text g c =
    let holds = g.K.Sink.holds in
    let all : GivesPending (holds c.args.out.now) (holds c.note_lines.new.log.out.now) (lines_of c.args.events.now) c.into_pending.result =
    GivesPending-all (holds c.note_lines.new.log.out.now) line_of c.into_pending.result (c.note_lines.ensures.same_first ∙ ap holds c.new-log.ensures.first)
    (c.note_lines.ensures.same_before ∙ c.new-log.ensures.before ∙ c.new.ensures) c.new-log.ensures.no_events c.note_lines.ensures.events c.into_pending.ensures.whole c.into_pending.ensures.text in
    search rules
