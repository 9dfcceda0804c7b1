-- More reports than are said.
use Rattle.std.proofs.Common.{◌≡◌, ◌<◌, ◌+◌, ◌-◌, ◌++◌, ℕ, List, length, map, take, arith, refl}
use Rattle.std.specs.List.{flat_map}
use Rattle.std.proofs.lemmas.Bool.Decides.{nat_tests}
use Rattle.std.proofs.lemmas.List.{length-map, take-map}
use Rattle.tool_texts.specs.declared.reports.Report.{Report as KeptReport}
use Rattle.tool_texts.specs.Reports.{Report, more_text, report_of, report_text, reports_text}

long_text : (name : List ℕ) (reports : List Report) → 20 < length reports
    → reports_text name reports ≡ flat_map (report_text name) (take 20 reports) ++ more_text name (length reports - 20)
long_text name reports long = grind (arith, nat_tests)

-- the text of the first of them, and of how many more there are
pub long_kept_text : (name : List ℕ) (reports : List KeptReport) (more : ℕ) → more + 20 ≡ length reports → 20 < length reports
    → flat_map (report_text name) (map report_of (take 20 reports)) ++ more_text name more ≡ reports_text name (map report_of reports)
long_kept_text name reports more count long =
    let all : 20 < length (map report_of reports) = rw (length-map reports report_of) long in
    let rest : length reports - 20 ≡ more = omega arith in
    rw (long_text name (map report_of reports) all, take-map report_of 20 reports, length-map reports report_of, rest) refl
