use Rattle.std.proofs.Common.{◌∙◌, ◌+◌, drop, sym, ap}
use Rattle.std.proofs.lemmas.List.{at_drop_more}
use Rattle.friendly_assembly.specs.KeptNames.{kept, labels_kept}
use Rattle.friendly_assembly.specs.SecondLabels.{with_other, with_others}
use Rattle.friendly_assembly.proofs.second_labels.add_others.Goals as goal

pub loop-label-preserved : goal.loop-label-preserved
loop-label-preserved c =
    let constants = kept c.args.constants.now in
    let known = labels_kept c.loop-label.known in
    let n = c.args.n in
    let line = c.args.line.now in
    let first = c.args.first.now in
    let others = c.args.others.now in
    let i = c.loop-label.label-index in
    let more = at_drop_more (with_others constants known n line first) others i c.label-item.result c.loop-label-test.true in
    let one = ap (λ label. with_others constants (with_other constants known n line first label) n line first (drop (i + 1) others)) c.label-item.is in
    rw c.in_ok-add_other.ensures (one ∙ (sym more ∙ c.loop-label.invariant))
