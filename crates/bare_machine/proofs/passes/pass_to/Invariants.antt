use Rattle.std.proofs.Common.{◌≡◌, ◌<◌, ℕ, false}
use Rattle.bare_machine.specs.Run.{Avoids, Executes}
use Rattle.bare_machine.specs.State.{going}
use Rattle.bare_machine.proofs.passes.pass_to.Given as goal

abbrev pub invariant-loop-steps : goal.invariant-loop-steps
invariant-loop-steps l = record {
  executes : Executes l.steps l.fn.store l.fn.regs l.store l.regs;
  before : (k : ℕ) → Avoids l.breakpoints l.steps (going l.fn.store l.fn.regs k);
  byte : l.regs.c < 256;
  calls : l.calls ≡ false;
}
