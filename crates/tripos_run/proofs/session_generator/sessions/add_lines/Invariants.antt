use Rattle.std.proofs.Common.{◌≡◌}
use Rattle.tripos_run.specs.SessionGenerator.Draws.{in_turn, with_next}
use Rattle.tripos_run.specs.SessionGenerator.Generated.{line}
use Rattle.tripos_run.proofs.session_generator.sessions.add_lines.Given as goal

abbrev pub invariant-loop : goal.invariant-loop
invariant-loop l = l.draft ≡ with_next l.fn.draft (in_turn l.counter (λ _. line))
