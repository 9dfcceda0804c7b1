use Rattle.std.proofs.Common.{◌≡◌, drop}
use Rattle.session_making.specs.Tables.{add_numbers}
use Rattle.session_making.proofs.tables.add_numbers.Given as goal

abbrev pub invariant-loop-number : goal.invariant-loop-number
invariant-loop-number l = add_numbers l.numbers.items (drop l.number-index l.more) ≡ add_numbers l.fn.numbers.items l.more
