use Rattle.std.proofs.Common.{◌∙◌, ap, subst}
use Rattle.std.proofs.Math.Facts.{to_z-of_z}
use Rattle.byte_streams.specs.Pending.{Gathers}
use Rattle.show_run.specs.StepLog.Events.{dequeue_text, party}
use Rattle.show_run.specs.StepLog.Moments.{line}
use Rattle.show_run.proofs.step_log.event_lines.gather_dequeue.Goals as goal

pub returns-clause-text : goal.returns-clause-text
returns-clause-text g c =
    let holds = g.K.Sink.holds in
    let end = c.gather_line in
    let owner = c.party_of-owner.ensures ∙ ap party (to_z-of_z c.ranges.queue) in
    subst (λ text. Gathers (holds c.args.out.now) (holds end.new.out) c.args.pending.now end.new.pending text end.result)
    (λ i. line c.args.m (dequeue_text (owner i) (c.from.ensures i))) end.ensures.text
