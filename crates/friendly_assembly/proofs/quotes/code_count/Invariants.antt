use Rattle.std.proofs.Common.{◌≡◌, ◌+◌, ◌≤◌, length}
use Rattle.friendly_assembly.specs.Quotes.{codes_in}
use Rattle.friendly_assembly.proofs.quotes.code_count.Given as goal

abbrev pub invariant-loop-others : goal.invariant-loop-others
invariant-loop-others l = record {
  count : l.count + length (codes_in l.rest) ≡ length (codes_in l.text);
  inside : l.count + length l.rest ≤ length l.text;
}

abbrev pub decreases-loop-others : goal.decreases-loop-others
decreases-loop-others l = length l.rest
