use Rattle.std.proofs.Common.{◌≡◌, drop}
use Rattle.friendly_assembly.specs.KeptNames.{kept, labels_kept}
use Rattle.friendly_assembly.specs.SecondLabels.{with_others}
use Rattle.friendly_assembly.proofs.second_labels.add_others.Given as goal

abbrev pub invariant-loop-label : goal.invariant-loop-label
invariant-loop-label l =
    with_others (kept l.constants) (labels_kept l.known) l.n l.line l.first (drop l.label-index l.others)
    ≡ with_others (kept l.constants) (labels_kept l.fn.known) l.n l.line l.first l.others
