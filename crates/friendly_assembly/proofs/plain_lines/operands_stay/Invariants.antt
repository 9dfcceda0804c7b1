use Rattle.std.proofs.Common.{◌≡◌, drop}
use Rattle.std.specs.List.{list_all}
use Rattle.friendly_assembly.specs.KeptNames.{names_by}
use Rattle.friendly_assembly.specs.PlainLine.{stays}
use Rattle.friendly_assembly.proofs.plain_lines.operands_stay.Given as goal

abbrev pub invariant-loop-part : goal.invariant-loop-part
invariant-loop-part l =
    list_all (stays (names_by l.names.constants.now l.names.firsts.now)) (drop l.part-index l.operands)
    ≡ list_all (stays (names_by l.names.constants.now l.names.firsts.now)) l.operands
