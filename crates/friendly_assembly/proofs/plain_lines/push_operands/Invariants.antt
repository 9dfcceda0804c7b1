use Rattle.std.proofs.Common.{◌≡◌, drop}
use Rattle.friendly_assembly.specs.KeptNames.{names_by}
use Rattle.friendly_assembly.specs.PlainLine.{with_operands}
use Rattle.friendly_assembly.proofs.plain_lines.push_operands.Given as goal

abbrev pub invariant-loop-part : goal.invariant-loop-part
invariant-loop-part l =
    with_operands (names_by l.names.constants.now l.names.firsts.now) l.text.items (drop l.part-index l.operands)
    ≡ with_operands (names_by l.names.constants.now l.names.firsts.now) l.fn.text.items l.operands
