use Rattle.std.proofs.Common.{◌≡◌, ◌<◌, false}
use Rattle.bare_machine.specs.Run.{Executes}
use Rattle.bare_machine.proofs.passes.pass_all.Given as goal

abbrev pub invariant-loop-steps : goal.invariant-loop-steps
invariant-loop-steps l = record {
  executes : Executes l.steps l.fn.store l.fn.regs l.store l.regs;
  byte : l.regs.c < 256;
  calls : l.calls ≡ false;
}
