use Rattle.std.proofs.Common.{◌≡◌, ◌≤◌, ◌+◌, drop}
use Rattle.session_making.specs.Texts.{bad_place, first_spot}
use Rattle.session_making.proofs.texts.bad_place.Given as goal

abbrev pub invariant-loop-byte : goal.invariant-loop-byte
invariant-loop-byte l = record {
  place : bad_place l.spot (drop l.byte-index l.text) ≡ bad_place first_spot l.text;
  some : 1 ≤ l.spot.column;
  small : l.spot.line + l.spot.column ≤ l.byte-index + 2;
}
