use Rattle.std.proofs.Common.{◌≡◌, ◌+◌, ◌*◌, ◌≤◌, ◌++◌, length}
use Rattle.friendly_assembly.specs.declared.readings.Reading.TheVariants.{Outside}
use Rattle.friendly_assembly.specs.Parts.{pieces, placed}
use Rattle.friendly_assembly.proofs.parts.parts_of.Given as goal

abbrev pub invariant-loop-piece : goal.invariant-loop-piece
invariant-loop-piece l = record {
  parts : l.parts.items ++ placed l.column (pieces Outside l.rest) ≡ placed 1 (pieces Outside l.code);
  small : l.column + 2 * length l.rest ≤ 2 * length l.code + 1;
}

abbrev pub decreases-loop-piece : goal.decreases-loop-piece
decreases-loop-piece l = length l.rest
