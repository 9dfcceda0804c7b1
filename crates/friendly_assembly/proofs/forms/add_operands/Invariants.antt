use Rattle.std.proofs.Common.{◌≡◌, ◌++◌, drop, map}
use Rattle.tool_texts.specs.Reports.{report_of}
use Rattle.friendly_assembly.specs.KeptNames.{names_by}
use Rattle.friendly_assembly.specs.LineForms.{operand_flaws}
use Rattle.friendly_assembly.specs.Settings.{report_at}
use Rattle.friendly_assembly.proofs.forms.add_operands.Given as goal

abbrev pub invariant-loop-part : goal.invariant-loop-part
invariant-loop-part l =
    map report_of l.reports.items ++ map (report_at l.n l.line) (operand_flaws (names_by l.names.constants.now l.names.firsts.now) (drop l.part-index l.operands))
    ≡ map report_of l.fn.reports.items ++ map (report_at l.n l.line) (operand_flaws (names_by l.names.constants.now l.names.firsts.now) l.operands)
