use Rattle.std.proofs.Common.{◌≡◌, ◌++◌, drop}
use Rattle.run_pictures.specs.Escapes.{escaped}
use Rattle.run_pictures.proofs.elements.push_escaped.Given as goal

abbrev pub invariant-loop-byte : goal.invariant-loop-byte
invariant-loop-byte l =
    l.svg.items ++ escaped (drop l.byte-index l.bytes) ≡ l.initial.svg.items ++ escaped l.bytes
