use Rattle.std.proofs.Common.{◌≡◌, drop}
use Rattle.session_making.specs.Tables.{relocated}
use Rattle.session_making.proofs.tables.relocated.Given as goal

abbrev pub invariant-loop-offset : goal.invariant-loop-offset
invariant-loop-offset l = relocated l.base l.own.items (drop l.offset-index l.offsets) ≡ relocated l.base l.words l.offsets
