use Rattle.std.proofs.Common.{arith}
use Rattle.std.proofs.lemmas.Grind.{common_steps}
use Rattle.std.proofs.lemmas.List.{length-map}
use Rattle.tool_texts.proofs.LongReports.{long_kept_text}
use Rattle.tool_texts.proofs.reports.reports_text.Goals as goal

pub returns-then-reports-le-MOST_REPORTS : goal.returns-then-reports-le-MOST_REPORTS
returns-then-reports-le-MOST_REPORTS c = grind (arith, common_steps, length-map)

pub returns : goal.returns
returns c =
    let whole = long_kept_text c.args.name.now c.args.reports.now _ c.split_at.ensures.back_len c.if-reports-le-MOST_REPORTS.false in
    rw (c.in_ok-push_more.ensures, c.in_ok-push_reports-2.ensures, c.new-text.ensures.items, c.split_at.ensures.front) whole
