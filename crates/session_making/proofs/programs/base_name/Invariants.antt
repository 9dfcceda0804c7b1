use Rattle.std.proofs.Common.{◌≡◌, length}
use Rattle.session_making.specs.Programs.{base_name}
use Rattle.session_making.proofs.programs.base_name.Given as goal

abbrev pub invariant-loop-byte : goal.invariant-loop-byte
invariant-loop-byte l = base_name l.name l.rest ≡ base_name l.path l.path

abbrev pub decreases-loop-byte : goal.decreases-loop-byte
decreases-loop-byte l = length l.rest
