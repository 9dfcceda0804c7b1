use Rattle.std.proofs.Common.{◌++◌, ap, subst, sym}
use Rattle.byte_streams.specs.Write.{Prints}
use Rattle.byte_streams.proofs.AppendedTexts.{AppendsPrefix-more}
use Rattle.byte_streams.proofs.GatheredTexts.{IsCut-first}
use Rattle.machine_ring.specs.Outcomes.{outcome_of}
use Rattle.machine_ring.specs.Runs.{run}
use Rattle.tripos_run.specs.Answer.{status_of}
use Rattle.tripos_run.specs.RingAnswers.{ring_text, run_ring_answer}
use Rattle.tripos_run.proofs.AnswerParts.{Answers-run_text, Prints-first}
use Rattle.tripos_run.proofs.rings.run_ring.Goals as goal

pub returns-in-Err-clause-answer : goal.returns-in-Err-clause-answer
returns-in-Err-clause-answer g c =
    let x = run c.args.ring.link.terms.rounds c.args.ring in
    AppendsPrefix-more _ _ x.shown (ring_text (outcome_of x)) (IsCut-first c.new-pending.ensures c.in-Err.ensures.bytes)

pub returns-clause-answer : goal.returns-clause-answer
returns-clause-answer g c =
    let x = run c.args.ring.link.terms.rounds c.args.ring in
    let out = g.K.Sink.holds in
    let printed = Prints-first _ _ c.write_outcome-end.result c.new-pending.ensures c.in-Ok.ensures.bytes c.write_outcome-end.ensures.text in
    let closed = subst (λ o. Prints (out c.args.out.now) (out c.write_outcome-end.new.out) (x.shown ++ ring_text o) c.write_outcome-end.result) c.in-Ok.ensures.outcome printed in
    rw (c.status_after.ensures, c.status_of.ensures)
    (Answers-run_text (run_ring_answer c.args.ring) _ _ c.in-Ok.outcome.end c.write_outcome-end.result (ap (λ o. status_of o.end) (sym c.in-Ok.ensures.outcome)) closed)
