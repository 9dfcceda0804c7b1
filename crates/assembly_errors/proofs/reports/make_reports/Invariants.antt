use Rattle.std.proofs.Common.{◌≡◌, ◌++◌, drop, map}
use Rattle.tool_texts.specs.Reports.{report_of}
use Rattle.assembly_errors.specs.Drafts.{draft_of}
use Rattle.assembly_errors.specs.Reports.{reports_from, reports_of}
use Rattle.assembly_errors.proofs.reports.make_reports.Given as goal

abbrev pub invariant-loop-i : goal.invariant-loop-i
invariant-loop-i l =
    map report_of l.reports.items ++ reports_from (draft_of l.draft) l.i (drop l.i l.draft.found.items) ≡ reports_of (draft_of l.draft)
