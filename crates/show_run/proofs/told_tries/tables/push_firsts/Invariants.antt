use Rattle.std.proofs.Common.{◌≡◌, ◌++◌, drop}
use Rattle.std.specs.List.{flat_map}
use Rattle.show_run.specs.ToldTries.{first_line}
use Rattle.show_run.proofs.told_tries.tables.push_firsts.Given as goal

abbrev pub invariant-loop-group : goal.invariant-loop-group
invariant-loop-group l = l.text.items ++ flat_map first_line (drop l.group-index l.groups) ≡ l.fn.text.items ++ flat_map first_line l.groups
