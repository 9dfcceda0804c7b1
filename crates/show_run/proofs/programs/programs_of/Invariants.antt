use Rattle.std.proofs.Common.{◌≡◌, ◌++◌, drop}
use Rattle.std.specs.List.{flat_map}
use Rattle.show_run.specs.SessionPrograms.{line_programs}
use Rattle.show_run.proofs.programs.programs_of.Given as goal

abbrev pub invariant-loop-line : goal.invariant-loop-line
invariant-loop-line l = flat_map line_programs l.session.lines ≡ l.programs.items ++ flat_map line_programs (drop l.line-index l.line-items)
