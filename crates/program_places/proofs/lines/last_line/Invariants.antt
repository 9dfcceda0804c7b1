use Rattle.std.proofs.Common.{◌≡◌, None, drop}
use Rattle.std.specs.Option.{option_copied}
use Rattle.program_places.specs.Lines.{last_line}
use Rattle.program_places.proofs.lines.last_line.Given as goal

abbrev pub invariant-loop-line : goal.invariant-loop-line
invariant-loop-line l = last_line l.away (option_copied l.found) (drop l.line-index l.lines) ≡ last_line l.away None l.lines
