use Rattle.std.proofs.Common.{◌≡◌, drop}
use Rattle.run_names.specs.Places.{hunk_with}
use Rattle.run_names.proofs.places.hunk_with.Given as goal

abbrev pub invariant-loop-hunk : goal.invariant-loop-hunk
invariant-loop-hunk l = hunk_with l.byte l.hunks ≡ hunk_with l.byte (drop l.hunk-index l.hunks)
