use Rattle.std.proofs.Common.{◌≡◌, drop}
use Rattle.run_names.specs.Modules.{name_at}
use Rattle.run_names.proofs.modules.name_at.Given as goal

abbrev pub invariant-loop-module : goal.invariant-loop-module
invariant-loop-module l = name_at l.modules l.m ≡ name_at (drop l.module-index l.modules) l.m
