use Rattle.std.proofs.Common.{◌∙◌, ap, subst}
use Rattle.std.proofs.Math.Facts.{to_z-of_z}
use Rattle.byte_streams.specs.Pending.{Gathers}
use Rattle.show_run.specs.StepLog.Events.{take_text, party}
use Rattle.show_run.specs.StepLog.Moments.{line}
use Rattle.show_run.proofs.step_log.event_lines.gather_take.Goals as goal

pub returns-clause-text : goal.returns-clause-text
returns-clause-text g c =
    let holds = g.K.Sink.holds in
    let end = c.gather_line in
    let taker = c.party_of-taker.ensures ∙ ap party (to_z-of_z c.ranges.queue) in
    let from = c.party_of-from.ensures ∙ ap party (to_z-of_z c.ranges.sender) in
    subst (λ text. Gathers (holds c.args.out.now) (holds end.new.out) c.args.pending.now end.new.pending text end.result)
    (λ i. line c.args.m (take_text (taker i) (c.from.ensures i) (from i))) end.ensures.text
