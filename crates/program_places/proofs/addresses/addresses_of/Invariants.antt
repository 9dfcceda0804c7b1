use Rattle.std.proofs.Common.{◌≡◌, ◌++◌, drop}
use Rattle.program_places.specs.Addresses.{addresses_of}
use Rattle.program_places.proofs.addresses.addresses_of.Given as goal

abbrev pub invariant-loop-hunk : goal.invariant-loop-hunk
invariant-loop-hunk l = l.addresses.items ++ addresses_of l.map l.place (drop l.hunk-index l.loaded) ≡ addresses_of l.map l.place l.loaded
