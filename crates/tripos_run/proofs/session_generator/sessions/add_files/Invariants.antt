use Rattle.std.proofs.Common.{◌≡◌}
use Rattle.tripos_run.specs.SessionGenerator.Draws.{in_turn, with_next}
use Rattle.tripos_run.specs.SessionGenerator.Generated.{file}
use Rattle.tripos_run.proofs.session_generator.sessions.add_files.Given as goal

abbrev pub invariant-loop-number : goal.invariant-loop-number
invariant-loop-number l = l.draft ≡ with_next l.fn.draft (in_turn l.number (file))
