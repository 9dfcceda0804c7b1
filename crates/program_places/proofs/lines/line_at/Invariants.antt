use Rattle.std.proofs.Common.{◌≡◌, drop}
use Rattle.program_places.specs.Lines.{line_at}
use Rattle.program_places.proofs.lines.line_at.Given as goal

abbrev pub invariant-loop-place : goal.invariant-loop-place
invariant-loop-place l = line_at l.map l.address (drop l.place-index l.loaded) ≡ line_at l.map l.address l.loaded
