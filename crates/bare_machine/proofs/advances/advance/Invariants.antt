use Rattle.std.proofs.Common.{◌≡◌, ◌<◌, ◌≤◌, ◌-◌, None}
use Rattle.bare_machine.specs.Run.{Avoids, run}
use Rattle.bare_machine.specs.State.{IsSound, bare_state}
use Rattle.bare_machine.proofs.advances.advance.Given as goal

abbrev pub invariant-loop-parts : goal.invariant-loop-parts
invariant-loop-parts l = record {
  some : 0 < l.done.steps;
  most : l.done.steps ≤ l.most;
  state : bare_state l.parts l.done.stop ≡ (run l.done.steps (bare_state l.fn.parts None)).state;
  bytes : l.bytes ≡ (run l.done.steps (bare_state l.fn.parts None)).bytes;
  last : (run (l.done.steps - 1) (bare_state l.fn.parts None)).state.stop ≡ None;
  before : Avoids l.breakpoints l.done.steps (bare_state l.fn.parts None);
  sound : IsSound l.parts;
}

abbrev pub decreases-loop-parts : goal.decreases-loop-parts
decreases-loop-parts l = l.most - l.done.steps
