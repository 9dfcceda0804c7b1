use Rattle.std.proofs.Common.{◌≡◌, ◌+◌, drop}
use Rattle.friendly_assembly.specs.declared.readings.Reading.TheVariants.{Outside}
use Rattle.friendly_assembly.specs.Readings.{bytes_before}
use Rattle.friendly_assembly.proofs.readings.bytes_before.Given as goal

abbrev pub invariant-loop-i : goal.invariant-loop-i
invariant-loop-i l = l.i + bytes_before l.stop l.reading (drop l.i l.text) ≡ bytes_before l.stop Outside l.text
