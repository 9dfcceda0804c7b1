use Rattle.std.proofs.Common.{◌≡◌, drop}
use Rattle.program_places.specs.Loaded.{begins_with}
use Rattle.program_places.proofs.loaded.begins_with.Given as goal

abbrev pub invariant-loop-wanted : goal.invariant-loop-wanted
invariant-loop-wanted l = begins_with l.rest (drop l.wanted-index l.hunk) ≡ begins_with l.words l.hunk
