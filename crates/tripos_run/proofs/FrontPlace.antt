-- The front of a text ends within it.
use Rattle.std.proofs.Common.{ℕ, zero, suc, ◌+◌, ◌≤◌, Bool, true, false, List, [], ◌∷◌, length, arith}
use Rattle.std.specs.Prelude.{◌==◌, if◌then◌else◌}
use Rattle.session_text.specs.Front.{place_after}
use Rattle.session_text.proofs.FrontLines.{place_after-within}
