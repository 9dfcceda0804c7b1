use Rattle.std.proofs.Common.{◌≡◌, length, None}
use Rattle.run_names.specs.Functions.{last_name}
use Rattle.run_names.proofs.functions.function_in.Given as goal

abbrev pub invariant-loop-others : goal.invariant-loop-others
invariant-loop-others l = last_name l.found l.rest ≡ last_name None l.words

abbrev pub decreases-loop-others : goal.decreases-loop-others
decreases-loop-others l = length l.rest
