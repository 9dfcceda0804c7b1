use Rattle.std.proofs.Common.{◌≡◌, ◌-◌}
use Rattle.assembly_errors.specs.NameWords.{wider_from}
use Rattle.assembly_errors.proofs.name_words.wider_instruction.Given as goal

abbrev pub invariant-loop-byte : goal.invariant-loop-byte
invariant-loop-byte l = wider_from l.family l.part l.byte (256 - l.byte) ≡ wider_from l.family l.part 0 256
