use Rattle.std.proofs.Common.{◌≡◌, ◌∙◌, ◌+◌, ap, arith, inl, inr, refl, sym}
use Rattle.std.proofs.lemmas.Result.{err_from_is_err_and}
use Rattle.tripos_machine.specs.State.{steps_of}
use Rattle.tripos_machine.proofs.Histories.{has-history}
use Rattle.tripos_machine.proofs.StateRuns.{run-steps}
use Rattle.tripos_machine.proofs.RunParts.{cut-gathered, cut-more, cut-then, ends-all, ends-stopped, gathered-all, gathered-ended, gathered-none, gathered-then, left-last, left-more, no-stop, ran-all, ran-ended, ran-none, ran-then, rose-later}
use Rattle.tripos_machine.proofs.machine.Machine.run.Goals as goal

pub loop-taken-init : goal.loop-taken-init
loop-taken-init g c = record { few = omega arith; ran = ran-none c.args.self.now.state _ _; works = c.requires.works; gathered = gathered-none c.args.self.now.state _ _; later = omega arith; output = inl (refl, refl); keys = refl }

pub returns-in-Some-clause-end : goal.returns-in-Some-clause-end
returns-in-Some-clause-end g c =
    let kept = c.loop-taken.invariant in
    let stop = sym c.in-Some.is ∙ c.stop.ensures in (
      ran-ended c.args.self.now.state _ c.loop-taken.taken c.args.n kept.few _ _ _ _ kept.ran (no-stop _ _ stop),
      ends-stopped _ _ stop,
      kept.works,
    )

pub returns-in-Some-clause-bytes : goal.returns-in-Some-clause-bytes
returns-in-Some-clause-bytes g c =
    let kept = c.loop-taken.invariant in
    gathered-ended c.args.self.now.state _ c.loop-taken.taken c.args.n kept.few _ _ _ _ kept.ran (no-stop _ _ (sym c.in-Some.is ∙ c.stop.ensures)) kept.gathered

pub advance-taken-requires-clause-steps : goal.advance-taken-requires-clause-steps
advance-taken-requires-clause-steps g c =
    let kept = c.loop-taken.invariant in
    omega (arith, c.requires.steps, kept.few, ap steps_of kept.ran.state, run-steps c.loop-taken.taken c.args.self.now.state)

pub returns-in_err-gather-clause-end : goal.returns-in_err-gather-clause-end
returns-in_err-gather-clause-end g c =
    let kept = c.loop-taken.invariant in
    let s = c.args.self.now.state in
    let m = c.advance-taken.result in
    let p = err_from_is_err_and c.from_residual.result c.from_residual.ensures.1 in
    rw (p.1) (
      (c.loop-taken.taken + m, omega (arith, kept.few, c.advance-taken.ensures.most), ran-then s c.loop-taken.taken m _ _ _ _ _ kept.ran _ _ _ c.advance-taken.ensures.state c.advance-taken.ensures.events),
      inl (rose-later _ _ _ kept.later c.in_err-gather.ensures.cause.failed),
    )

pub returns-in_err-gather-clause-bytes : goal.returns-in_err-gather-clause-bytes
returns-in_err-gather-clause-bytes g c =
    let kept = c.loop-taken.invariant in
    let s = c.args.self.now.state in
    let m = c.advance-taken.result in
    let p = err_from_is_err_and c.from_residual.result c.from_residual.ensures.1 in
    rw (p.1) (cut-more s (c.loop-taken.taken + m) c.args.n (omega (arith, kept.few, c.advance-taken.ensures.most)) (cut-then s c.loop-taken.taken m _ _ _ _ _ kept.ran kept.gathered (c.output.ensures ∙ c.advance-taken.ensures.output) c.in_err-gather.ensures.text))

pub returns-then-failed-clause-end : goal.returns-then-failed-clause-end
returns-then-failed-clause-end g c =
    let kept = c.loop-taken.invariant in
    let s = c.args.self.now.state in
    let m = c.advance-taken.result in (
      (c.loop-taken.taken + m, omega (arith, kept.few, c.advance-taken.ensures.most), ran-then s c.loop-taken.taken m _ _ _ _ _ kept.ran _ _ _ c.advance-taken.ensures.state c.advance-taken.ensures.events),
      inr (sym c.failed.ensures ∙ c.if-failed.true),
    )

pub returns-then-failed-clause-bytes : goal.returns-then-failed-clause-bytes
returns-then-failed-clause-bytes g c =
    let kept = c.loop-taken.invariant in
    let s = c.args.self.now.state in
    let m = c.advance-taken.result in
    cut-more s (c.loop-taken.taken + m) c.args.n (omega (arith, kept.few, c.advance-taken.ensures.most)) (cut-gathered (gathered-then s c.loop-taken.taken m _ _ _ _ _ kept.ran kept.gathered (c.output.ensures ∙ c.advance-taken.ensures.output) c.in_ok-gather.ensures.text))

pub loop-taken-preserved : goal.loop-taken-preserved
loop-taken-preserved g c =
    let kept = c.loop-taken.invariant in
    let s = c.args.self.now.state in
    let m = c.advance-taken.result in
    record {
      few = omega (arith, kept.few, c.advance-taken.ensures.most);
      ran = ran-then s c.loop-taken.taken m _ _ _ _ _ kept.ran _ _ _ c.advance-taken.ensures.state c.advance-taken.ensures.events;
      works = sym c.failed.ensures ∙ c.if-failed.false;
      gathered = gathered-then s c.loop-taken.taken m _ _ _ _ _ kept.ran kept.gathered (c.output.ensures ∙ c.advance-taken.ensures.output) c.in_ok-gather.ensures.text;
      later = omega (arith, kept.later, c.in_ok-gather.ensures.cause.later);
      output = left-last c.loop-taken.taken m _ s _ _ _ _ kept.ran.state c.advance-taken.ensures.some (omega arith) c.advance-taken.ensures.last c.advance-taken.ensures.state c.advance-taken.ensures.output;
      keys = c.advance-taken.ensures.keys ∙ kept.keys;
    }

pub returns-clause-end : goal.returns-clause-end
returns-clause-end g c =
    let kept = c.loop-taken.invariant in
    let end : c.loop-taken.taken ≡ c.args.n = omega (arith, kept.few, c.loop-taken-test.false) in
    (ran-all c.loop-taken.taken c.args.n _ _ _ _ _ _ end kept.ran, ends-all _ _ _ c.stop-2.ensures c.unwrap_or.ensures, kept.works)

pub returns-clause-bytes : goal.returns-clause-bytes
returns-clause-bytes g c =
    let kept = c.loop-taken.invariant in
    let end : c.loop-taken.taken ≡ c.args.n = omega (arith, kept.few, c.loop-taken-test.false) in
    gathered-all c.loop-taken.taken c.args.n c.args.self.now.state _ _ _ _ end kept.gathered

pub returns-in-Some-clause-history : goal.returns-in-Some-clause-history
returns-in-Some-clause-history g c = λ i few. has-history i c.args.self.now.state c.know_sound.ensures (omega (arith, c.requires.steps, few))

pub returns-in_err-gather-clause-history : goal.returns-in_err-gather-clause-history
returns-in_err-gather-clause-history g c = λ i few. has-history i c.args.self.now.state c.know_sound.ensures (omega (arith, c.requires.steps, few))

pub returns-then-failed-clause-history : goal.returns-then-failed-clause-history
returns-then-failed-clause-history g c = λ i few. has-history i c.args.self.now.state c.know_sound.ensures (omega (arith, c.requires.steps, few))

pub returns-clause-history : goal.returns-clause-history
returns-clause-history g c = λ i few. has-history i c.args.self.now.state c.know_sound.ensures (omega (arith, c.requires.steps, few))

pub returns-in-Some-clause-output : goal.returns-in-Some-clause-output
returns-in-Some-clause-output g c = left-more c.loop-taken.taken c.args.n _ _ _ _ c.loop-taken.invariant.few c.loop-taken.invariant.output

pub returns-in_err-gather-clause-output : goal.returns-in_err-gather-clause-output
returns-in_err-gather-clause-output g c =
    let kept = c.loop-taken.invariant in
    left-last c.loop-taken.taken c.advance-taken.result c.args.n c.args.self.now.state _ _ _ _ kept.ran.state c.advance-taken.ensures.some
    (omega (arith, kept.few, c.advance-taken.ensures.most)) c.advance-taken.ensures.last c.advance-taken.ensures.state c.advance-taken.ensures.output

pub returns-then-failed-clause-output : goal.returns-then-failed-clause-output
returns-then-failed-clause-output g c =
    let kept = c.loop-taken.invariant in
    left-last c.loop-taken.taken c.advance-taken.result c.args.n c.args.self.now.state _ _ _ _ kept.ran.state c.advance-taken.ensures.some
    (omega (arith, kept.few, c.advance-taken.ensures.most)) c.advance-taken.ensures.last c.advance-taken.ensures.state c.advance-taken.ensures.output

pub returns-clause-output : goal.returns-clause-output
returns-clause-output g c = left-more c.loop-taken.taken c.args.n _ _ _ _ c.loop-taken.invariant.few c.loop-taken.invariant.output
