use Rattle.std.proofs.Common.{◌≡◌, ◌+◌, drop, map}
use Rattle.friendly_assembly.specs.KeptNames.{kept, labels_kept}
use Rattle.friendly_assembly.specs.SecondLabels.{labels_of, no_labels}
use Rattle.friendly_assembly.proofs.second_labels.labels_of.Given as goal

abbrev pub invariant-loop-i : goal.invariant-loop-i
invariant-loop-i l =
    labels_of (kept l.constants) (labels_kept l.known) (l.i + 1) (map (λ line. line.now) (drop l.i l.lines))
    ≡ labels_of (kept l.constants) no_labels 1 (map (λ line. line.now) l.lines)
