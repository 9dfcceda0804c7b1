use Rattle.std.proofs.Common.{◌≡◌, drop}
use Rattle.run_names.specs.Modules.{name_in}
use Rattle.run_names.proofs.modules.program_name.Given as goal

abbrev pub invariant-loop-program : goal.invariant-loop-program
invariant-loop-program l = name_in l.programs l.store l.m ≡ name_in (drop l.program-index l.programs) l.store l.m
