use Rattle.std.proofs.Common.{◌≡◌, ◌≤◌, ◌+◌, ◌-◌, length}
use Rattle.module_text.specs.Shapes.{check_of}
use Rattle.module_text.proofs.ShapeCounts.{checked, left}
use Rattle.module_text.proofs.check.check_module.Given as goal

abbrev pub invariant-loop-token : goal.invariant-loop-token
invariant-loop-token g l =
    let text = g.X.TextBytes.text l.text in
    record {
      rest : checked l.shape (left text l.expects l.place) ≡ check_of text;
      few : l.shape.hunks + l.shape.words ≤ l.place;
      inside : l.place ≤ length text;
    }

abbrev pub decreases-loop-token : goal.decreases-loop-token
decreases-loop-token g l = length (g.X.TextBytes.text l.text) - l.place
