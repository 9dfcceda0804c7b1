use Rattle.std.proofs.Common.{◌≡◌, ◌++◌, drop, map}
use Rattle.std.specs.List.{flat_map}
use Rattle.tool_texts.specs.Reports.{report_of, report_text}
use Rattle.tool_texts.proofs.reports.push_reports.Given as goal

abbrev pub invariant-loop-report : goal.invariant-loop-report
invariant-loop-report l =
    l.text.items ++ flat_map (report_text l.name) (map report_of (drop l.report-index l.reports))
    ≡ l.fn.text.items ++ flat_map (report_text l.name) (map report_of l.reports)
