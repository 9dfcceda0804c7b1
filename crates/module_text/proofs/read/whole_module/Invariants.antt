use Rattle.std.proofs.Common.{◌≡◌, ◌≤◌, ◌-◌, length}
use Rattle.module_text.specs.ModuleOfText.{module_of}
use Rattle.module_text.proofs.ShapeCounts.{left}
use Rattle.module_text.proofs.HunkLists.{gathered}
use Rattle.module_text.proofs.read.whole_module.Given as goal

abbrev pub invariant-loop-token : goal.invariant-loop-token
invariant-loop-token l = record {
  rest : gathered l.text l.hunks.items (left l.text l.expects l.place) ≡ module_of l.text;
  inside : l.place ≤ length l.text;
}

abbrev pub decreases-loop-token : goal.decreases-loop-token
decreases-loop-token l = length l.text - l.place
