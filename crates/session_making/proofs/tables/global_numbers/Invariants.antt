use Rattle.std.proofs.Common.{◌≡◌, [], drop}
use Rattle.session_making.specs.Tables.{hunk_numbers}
use Rattle.session_making.proofs.tables.global_numbers.Given as goal

abbrev pub invariant-loop-hunk : goal.invariant-loop-hunk
invariant-loop-hunk l = hunk_numbers l.numbers.items (drop l.hunk-index l.hunks) ≡ hunk_numbers [] l.hunks
