use Rattle.std.proofs.Common.{◌≡◌, ◌∙◌, List, [], ap, cond, length, subst, sym, true, ℕ}
use Rattle.std.proofs.lemmas.Bool.{eqb-true}
use Rattle.std.proofs.lemmas.List.{nil_from_length}
use Rattle.byte_streams.specs.Pending.{IsGathered}
use Rattle.byte_streams.proofs.GatheredTexts.{IsGathered-nothing}
use Rattle.tripos_machine.specs.Step.{step}
use Rattle.machine_ring.specs.Rounds.{can_step, shown_by}
use Rattle.machine_ring.proofs.right.step.Goals as goal

pub returns-then-is_empty-clause-bytes : goal.returns-then-is_empty-clause-bytes
returns-then-is_empty-clause-bytes g c =
    let s = c.args.machine.now.state in
    let can : can_step c.args.most s ≡ true = sym c.can_step.ensures ∙ c.if-not-can_step.false in
    let none : c.output.result.now ≡ [] = nil_from_length c.output.result.now (eqb-true (length c.output.result.now) 0 (sym c.is_empty.ensures ∙ c.if-is_empty.true)) in
    let bytes : (step s).bytes ≡ [] = sym (c.output.ensures ∙ c.step.ensures.output) ∙ none in
    let shown : shown_by c.args.most s ≡ [] = ap (λ b. cond b (step s).bytes []) can ∙ bytes in
    subst (λ (l : List ℕ). IsGathered (g.K.Sink.holds c.args.out.now) (g.K.Sink.holds c.args.out.now) c.args.pending.now c.args.pending.now l) (sym shown) (IsGathered-nothing _ _)
