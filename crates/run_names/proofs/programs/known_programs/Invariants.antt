use Rattle.std.proofs.Common.{◌≡◌, ◌++◌, drop}
use Rattle.std.specs.List.{flat_map}
use Rattle.run_names.specs.Programs.{line_programs}
use Rattle.run_names.proofs.programs.known_programs.Given as goal

abbrev pub invariant-loop-line : goal.invariant-loop-line
invariant-loop-line l = flat_map line_programs l.session.lines ≡ l.programs.items ++ flat_map line_programs (drop l.line-index l.line-items)
