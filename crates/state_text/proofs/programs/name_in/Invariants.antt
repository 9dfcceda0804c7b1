use Rattle.std.proofs.Common.{◌≡◌, drop}
use Rattle.state_text.specs.ProgramNames.{name_in}
use Rattle.state_text.proofs.programs.name_in.Given as goal

abbrev pub invariant-loop-program : goal.invariant-loop-program
invariant-loop-program l = name_in l.programs l.store l.m ≡ name_in (drop l.program-index l.programs) l.store l.m
