use Rattle.std.proofs.Common.{◌+◌, ◌-◌, ◌≡◌, ◌≤◌, ap, arith, refl, sym, subst, ◌∙◌}
use Rattle.std.proofs.lemmas.Bool.{ltb-false, ltb-true}
use Rattle.std.proofs.lemmas.Result.{err_from_is_err_and}
use Rattle.byte_streams.specs.Pending.{IsCut, IsGathered}
use Rattle.kernel_model.specs.KernelRecord.Ranges.{most_steps}
use Rattle.tripos_machine.specs.Runs.{end_of_run}
use Rattle.machine_ring.specs.Links.{Link}
use Rattle.machine_ring.specs.Outcomes.{outcome_of}
use Rattle.machine_ring.specs.Rings.{Ring, ring_with}
use Rattle.machine_ring.specs.Rounds.{Rounded, first_of, right_after, shown_by, with_typing}
use Rattle.machine_ring.specs.Runs.{run}
use Rattle.machine_ring.specs.declared.terms.Terms.{Terms}
use Rattle.machine_ring.proofs.RingProgress.{acknowledged-few, cut-then, ended-early, gathered-first, gathered-then, outcome-is, outstanding-none, ran-first, ran-then, round-is, shown-is}
use Rattle.machine_ring.proofs.runs.run_rounds.Goals as goal
use Rattle.machine_ring.proofs.runs.run_rounds.Goals.{in-None-carry, in-Some-carry}
use Rattle.tripos_machine.proofs.RunParts.{ends-all}

pub loop-right-init : goal.loop-right-init
loop-right-init g c =
    let none = ap (λ (r : Ring). r.link.rounds) c.requires.first in
    record {
      ran = ran-first (ring_with c.args.left.now c.args.link.now c.args.right.now.state) (record { left = c.args.left.now; link = c.args.link.now; right = c.args.right.now.state }) refl none;
      few = omega (arith, none);
      terms = refl;
      gathered = gathered-first (ring_with c.args.left.now c.args.link.now c.args.right.now.state) _ none _ _;
      later = omega arith;
    }

pub outcome_after-requires : goal.outcome_after-requires
outcome_after-requires g c =
    acknowledged-few (ring_with c.args.left.now c.args.link.now c.args.right.now.state) c.args.link.now.terms c.args.left.now.state c.args.right.now.state c.requires.first c.loop-right.link.rounds
    (record { left = c.loop-right.left; link = c.loop-right.link; right = c.loop-right.right.state }) c.loop-right.invariant.ran

pub returns-in-Some-clause-outcome : goal.returns-in-Some-clause-outcome
returns-in-Some-clause-outcome g c =
    let kept = c.loop-right.invariant in
    let f = ring_with c.args.left.now c.args.link.now c.args.right.now.state in
    let r : Ring = record { left = c.loop-right.left; link = c.loop-right.link; right = c.loop-right.right.state } in
    let stopped = sym c.stop.ensures ∙ c.in-Some.is in
    let is = c.outcome_after.ensures in
    outcome-is f c.args.link.now.terms c.args.left.now.state c.args.right.now.state c.requires.first c.loop-right.link.rounds
    r kept.ran c.outcome_after.result is.rounds is.sent is.delivered is.acknowledged (is.end ∙ sym (ap end_of_run stopped))
    ∙ sym (ap outcome_of (ended-early f r f.link.terms.rounds kept.ran kept.few c.in-Some.stop stopped))

pub returns-in-Some-clause-bytes : goal.returns-in-Some-clause-bytes
returns-in-Some-clause-bytes g c =
    let kept = c.loop-right.invariant in
    let f = ring_with c.args.left.now c.args.link.now c.args.right.now.state in
    let r : Ring = record { left = c.loop-right.left; link = c.loop-right.link; right = c.loop-right.right.state } in
    subst (λ (x : Rounded). IsGathered (g.K.Sink.holds c.args.out.now) (g.K.Sink.holds c.loop-right.out) c.args.pending.now c.loop-right.pending x.shown)
    (sym (ended-early f r f.link.terms.rounds kept.ran kept.few c.in-Some.stop (sym c.stop.ensures ∙ c.in-Some.is))) kept.gathered

pub step-requires : goal.step-requires
step-requires g c =
    let r : Ring = record { left = c.loop-right.left; link = c.loop-right.link; right = c.loop-right.right.state } in
    let same = ap (λ (k : Link). k.terms) (c.carry.ensures.link (first_of r) refl) ∙ c.loop-right.invariant.terms in
    subst (λ n. n ≤ most_steps) (sym (c.right_steps.ensures ∙ (λ i. (same i).right_steps))) c.requires.right_steps

pub loop-right-smaller : goal.loop-right-smaller
loop-right-smaller g c =
    let r : Ring = record { left = c.loop-right.left; link = c.loop-right.link; right = c.loop-right.right.state } in
    let less = ltb-true c.loop-right.link.rounds c.loop-right.link.terms.rounds (sym c.loop-right-test.ensures.more) in
    let same = c.loop-right.invariant.terms in
    omega (arith, less, ap (λ (t : Terms). t.rounds) same, ap (λ (k : Link). k.rounds) (c.carry.ensures.link (first_of r) refl))

pub loop-right-preserved : goal.loop-right-preserved
loop-right-preserved g c =
    let kept = c.loop-right.invariant in
    let f = ring_with c.args.left.now c.args.link.now c.args.right.now.state in
    let r : Ring = record { left = c.loop-right.left; link = c.loop-right.link; right = c.loop-right.right.state } in
    let after : Ring = record { left = c.carry.new.left; link = c.carry.new.link; right = c.step.new.machine.state } in
    let link = c.carry.ensures.link (first_of r) refl in
    let same = ap (λ (k : Link). k.terms) link in
    let rounds : after.link.rounds ≡ r.link.rounds + 1 = ap (λ (k : Link). k.rounds) link in
    let goes = sym c.stop.ensures ∙ c.in-None.is in
    let less = ltb-true c.loop-right.link.rounds c.loop-right.link.terms.rounds (sym c.loop-right-test.ensures.more) in
    let types : c.match-carry.right.state ≡ with_typing c.carry.result r.right =
    elim c.match-carry.branch [
      | in-Some-carry w ↦ (λ i. (w.right-is i).state) ∙ w.type_byte.ensures.state ∙ sym (ap (λ o. with_typing o r.right) w.in-Some-carry.is)
      | in-None-carry w ↦ (λ i. (w.right-is i).state) ∙ sym (ap (λ o. with_typing o r.right) w.in-None-carry.is)
    ] in
    let steps : c.right_steps.result ≡ r.link.terms.right_steps = c.right_steps.ensures ∙ (λ i. (same i).right_steps) in
    let right = c.in_ok-step.ensures.state ∙ (λ i. right_after (steps i) c.match-carry.right.state) in
    let byte = c.carry.ensures.byte (first_of r) refl in
    let is : after ≡ (run 1 r).ring =
    round-is r goes c.has_room.result c.has_room.ensures c.carry.result byte c.match-carry.right.state types c.carry.new.left c.carry.new.link c.step.new.machine.state (c.carry.ensures.left (first_of r) refl) link right in
    let shown = ap (λ n. shown_by n c.match-carry.right.state) steps ∙ shown-is r goes c.has_room.result c.has_room.ensures c.carry.result byte c.match-carry.right.state types in
    record {
      ran = ran-then f r after kept.ran 1 rounds is;
      few = omega (arith, less, ap (λ (t : Terms). t.rounds) kept.terms, rounds);
      terms = same ∙ kept.terms;
      gathered = gathered-then f r after kept.ran 1 rounds is kept.gathered
          (subst (λ l. IsGathered (g.K.Sink.holds c.loop-right.out) (g.K.Sink.holds c.step.new.out) c.loop-right.pending c.step.new.pending l) shown c.in_ok-step.ensures.bytes);
      later = omega (arith, kept.later, c.in_ok-step.ensures.cause.later);
    }

pub returns-in_err-step-clause-bytes : goal.returns-in_err-step-clause-bytes
returns-in_err-step-clause-bytes g c =
    let kept = c.loop-right.invariant in
    let f = ring_with c.args.left.now c.args.link.now c.args.right.now.state in
    let r : Ring = record { left = c.loop-right.left; link = c.loop-right.link; right = c.loop-right.right.state } in
    let after : Ring = record { left = c.carry.new.left; link = c.carry.new.link; right = c.step.new.machine.state } in
    let link = c.carry.ensures.link (first_of r) refl in
    let same = ap (λ (k : Link). k.terms) link in
    let rounds : after.link.rounds ≡ r.link.rounds + 1 = ap (λ (k : Link). k.rounds) link in
    let goes = sym c.stop.ensures ∙ c.in-None.is in
    let less = ltb-true c.loop-right.link.rounds c.loop-right.link.terms.rounds (sym c.loop-right-test.ensures.more) in
    let types : c.match-carry.right.state ≡ with_typing c.carry.result r.right =
    elim c.match-carry.branch [
      | in-Some-carry w ↦ (λ i. (w.right-is i).state) ∙ w.type_byte.ensures.state ∙ sym (ap (λ o. with_typing o r.right) w.in-Some-carry.is)
      | in-None-carry w ↦ (λ i. (w.right-is i).state) ∙ sym (ap (λ o. with_typing o r.right) w.in-None-carry.is)
    ] in
    let steps : c.right_steps.result ≡ r.link.terms.right_steps = c.right_steps.ensures ∙ (λ i. (same i).right_steps) in
    let right = c.in_err-step.ensures.state ∙ (λ i. right_after (steps i) c.match-carry.right.state) in
    let byte = c.carry.ensures.byte (first_of r) refl in
    let is : after ≡ (run 1 r).ring =
    round-is r goes c.has_room.result c.has_room.ensures c.carry.result byte c.match-carry.right.state types c.carry.new.left c.carry.new.link c.step.new.machine.state (c.carry.ensures.left (first_of r) refl) link right in
    let shown = ap (λ n. shown_by n c.match-carry.right.state) steps ∙ shown-is r goes c.has_room.result c.has_room.ensures c.carry.result byte c.match-carry.right.state types in
    let p = err_from_is_err_and c.from_residual-in_err-step.result c.from_residual-in_err-step.ensures.1 in
    rw (p.1) (cut-then f r after kept.ran 1 rounds is kept.gathered f.link.terms.rounds (omega (arith, less, ap (λ (t : Terms). t.rounds) kept.terms, rounds))
    (subst (λ l. IsCut (g.K.Sink.holds c.loop-right.out) (g.K.Sink.holds c.step.new.out) c.loop-right.pending l) shown c.in_err-step.ensures.bytes))

pub pass-requires-clause-idle : goal.pass-requires-clause-idle
pass-requires-clause-idle g c = λ n few.
    let f = ring_with c.args.left.now c.args.link.now c.args.right.now.state in
    let r : Ring = record { left = c.loop-right.left; link = c.loop-right.link; right = c.loop-right.right.state } in
    let new = c.requires.first in
    let out = outstanding-none f c.args.link.now.terms c.args.left.now.state c.args.right.now.state new r.link.rounds r c.loop-right.invariant.ran in
    c.idle_rounds-idle.ensures.idle n few c.if-idle-gt0.true out

pub loop-right-preserved-then-idle-gt0 : goal.loop-right-preserved-then-idle-gt0
loop-right-preserved-then-idle-gt0 g c =
    let kept = c.loop-right.invariant in
    let f = ring_with c.args.left.now c.args.link.now c.args.right.now.state in
    let r : Ring = record { left = c.loop-right.left; link = c.loop-right.link; right = c.loop-right.right.state } in
    let after : Ring = record { left = c.pass.new.left; link = c.pass.new.link; right = c.pass.new.right.state } in
    let m = after.link.rounds - r.link.rounds in
    let rounds : after.link.rounds ≡ r.link.rounds + m = omega (arith, c.in_ok-pass.ensures.some) in
    record {
      ran = ran-then f r after kept.ran m rounds c.in_ok-pass.ensures.ring;
      few = omega (arith, c.in_ok-pass.ensures.few, ap (λ (t : Terms). t.rounds) kept.terms);
      terms = c.in_ok-pass.ensures.terms ∙ kept.terms;
      gathered = gathered-then f r after kept.ran m rounds c.in_ok-pass.ensures.ring kept.gathered c.in_ok-pass.ensures.bytes;
      later = omega (arith, kept.later, c.in_ok-pass.ensures.cause.later);
    }

pub returns-in_err-pass-clause-bytes : goal.returns-in_err-pass-clause-bytes
returns-in_err-pass-clause-bytes g c =
    let kept = c.loop-right.invariant in
    let f = ring_with c.args.left.now c.args.link.now c.args.right.now.state in
    let r : Ring = record { left = c.loop-right.left; link = c.loop-right.link; right = c.loop-right.right.state } in
    let after : Ring = record { left = c.pass.new.left; link = c.pass.new.link; right = c.pass.new.right.state } in
    let m = after.link.rounds - r.link.rounds in
    let rounds : after.link.rounds ≡ r.link.rounds + m = omega (arith, c.in_err-pass.ensures.some) in
    let p = err_from_is_err_and c.from_residual.result c.from_residual.ensures.1 in
    rw (p.1) (cut-then f r after kept.ran m rounds c.in_err-pass.ensures.ring kept.gathered f.link.terms.rounds
    (omega (arith, c.in_err-pass.ensures.few, ap (λ (t : Terms). t.rounds) kept.terms)) c.in_err-pass.ensures.bytes)

pub outcome_after-requires-2 : goal.outcome_after-requires-2
outcome_after-requires-2 g c =
    acknowledged-few (ring_with c.args.left.now c.args.link.now c.args.right.now.state) c.args.link.now.terms c.args.left.now.state c.args.right.now.state c.requires.first c.loop-right.link.rounds
    (record { left = c.loop-right.left; link = c.loop-right.link; right = c.loop-right.right.state }) c.loop-right.invariant.ran

pub returns-clause-outcome : goal.returns-clause-outcome
returns-clause-outcome g c =
    let kept = c.loop-right.invariant in
    let f = ring_with c.args.left.now c.args.link.now c.args.right.now.state in
    let r : Ring = record { left = c.loop-right.left; link = c.loop-right.link; right = c.loop-right.right.state } in
    let is = c.outcome_after-2.ensures in
    let more = ltb-false c.loop-right.link.rounds c.loop-right.link.terms.rounds (sym c.loop-right-test.ensures.more) in
    let end : c.loop-right.link.rounds ≡ f.link.terms.rounds = omega (arith, kept.few, more, ap (λ (t : Terms). t.rounds) kept.terms) in
    outcome-is f c.args.link.now.terms c.args.left.now.state c.args.right.now.state c.requires.first c.loop-right.link.rounds
    r kept.ran c.outcome_after-2.result is.rounds is.sent is.delivered is.acknowledged (is.end ∙ ends-all _ _ _ c.stop-2.ensures c.unwrap_or-end.ensures)
    ∙ ap (λ n. outcome_of (run n f)) end
