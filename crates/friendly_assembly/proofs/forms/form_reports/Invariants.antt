use Rattle.std.proofs.Common.{◌≡◌, ◌+◌, ◌++◌, drop, map}
use Rattle.tool_texts.specs.Reports.{report_of}
use Rattle.friendly_assembly.specs.KeptNames.{names_by}
use Rattle.friendly_assembly.specs.LineForms.{form_reports}
use Rattle.friendly_assembly.proofs.forms.form_reports.Given as goal

abbrev pub invariant-loop-i : goal.invariant-loop-i
invariant-loop-i l =
    map report_of l.reports.items ++ form_reports (names_by l.names.constants.now l.names.firsts.now) (l.i + 1) (map (λ line. line.now) (drop l.i l.lines))
    ≡ form_reports (names_by l.names.constants.now l.names.firsts.now) 1 (map (λ line. line.now) l.lines)
