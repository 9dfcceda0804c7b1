use Rattle.std.proofs.Common.{◌≡◌, ◌-◌}
use Rattle.assembly_errors.specs.Hints.{like_from}
use Rattle.assembly_errors.proofs.hints.instruction_like.Given as goal

abbrev pub invariant-loop-byte : goal.invariant-loop-byte
invariant-loop-byte l = like_from l.likeness l.name l.byte (256 - l.byte) ≡ like_from l.likeness l.name 0 256
