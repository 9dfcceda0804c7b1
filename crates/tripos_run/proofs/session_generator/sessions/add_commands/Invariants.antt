use Rattle.std.proofs.Common.{◌≡◌, ◌+◌}
use Rattle.tripos_run.specs.SessionGenerator.Draws.{in_turn, with_next}
use Rattle.tripos_run.specs.SessionGenerator.Generated.{typing}
use Rattle.tripos_run.proofs.session_generator.sessions.add_commands.Given as goal

abbrev pub invariant-loop-i : goal.invariant-loop-i
invariant-loop-i l = l.draft ≡ with_next l.fn.draft (in_turn l.i (λ i. typing (i + 1)))
