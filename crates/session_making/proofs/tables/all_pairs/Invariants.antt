use Rattle.std.proofs.Common.{◌≡◌, ◌++◌, length}
use Rattle.session_making.specs.Tables.{pairs_back}
use Rattle.session_making.proofs.tables.all_pairs.Given as goal

abbrev pub invariant-loop-number : goal.invariant-loop-number
invariant-loop-number l = l.numbers.items ++ pairs_back l.rest ≡ pairs_back l.back

abbrev pub decreases-loop-number : goal.decreases-loop-number
decreases-loop-number l = length l.rest
