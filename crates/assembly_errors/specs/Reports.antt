-- What is said of the lines in error.
use Rattle.std.specs.Prelude.{ℕ, ◌+◌, Bool, not, if◌then◌else◌, List, [], ◌∷◌, nat_lt}
use Rattle.assembly.specs.AssemblyText.LineErrors.{code_of}
use Rattle.assembly.specs.AssemblyText.Parts.{without_comment}
use Rattle.assembly.specs.declared.assembly_text.errors.LineError.{LineError}
use Rattle.assembly.specs.declared.assembly_text.errors.LineError.TheVariants.{NoForm, UnknownName, OutOfRange, UndefinedLabel, RepeatedLabel, OutOfReach, HunkTooLong}
use Rattle.tool_texts.specs.Reports.{Report, reports_text}
use Rattle.tool_texts.specs.Told.{Told}
use Rattle.assembly_errors.specs.Drafts.{Draft, is_none}
use Rattle.assembly_errors.specs.Findings.{findings_of, whole_draft}
use Rattle.assembly_errors.specs.FormWords.{form_remark}
use Rattle.assembly_errors.specs.NameWords.{name_remark, named_line, range_remark}
use Rattle.assembly_errors.specs.ReachWords.{length_remark, reach_remark, repeated_remark, undefined_remark}
use Rattle.assembly_errors.specs.Remarks.{Remark, said_of}
use Rattle.assembly_errors.specs.declared.drafts.Finding.{Finding}

-- what is said of a line without its comment, by what is wrong with it
abbrev pub remark_on : Draft → Finding → List ℕ → LineError → Remark
remark_on d f code NoForm = form_remark f.number code
remark_on d f code UnknownName = name_remark (named_line code)
remark_on d f code OutOfRange = range_remark (named_line code)
remark_on d f code UndefinedLabel = undefined_remark d.definitions (named_line code)
remark_on d f code RepeatedLabel = repeated_remark d.definitions code
remark_on d f code OutOfReach = reach_remark d.layout.table f.offset (named_line code)
remark_on d f code HunkTooLong = length_remark code

-- what is said of a line in error
unfoldable pub error_remark : Draft → Finding → Remark
error_remark d f = remark_on d f (without_comment f.text) f.error

-- what is said of a line in error, if it is shown
abbrev pub shown_remark : Draft → Bool → Finding → Remark
shown_remark d is_shown f = if is_shown then error_remark d f else said_of 1 []

-- a line in error, and what is said of it
abbrev pub report_for : Draft → Bool → Finding → Report
report_for d is_shown f = record {
  line = f.number;
  column = (shown_remark d is_shown f).column;
  text = f.text;
  words = (shown_remark d is_shown f).words;
  code = code_of f.error;
}

-- lines in error, and what is said of the first 20; there are so many before them
abbrev pub reports_from : Draft → ℕ → List Finding → List Report
reports_from d count [] = []
reports_from d count (f ∷ fs) = report_for d (nat_lt count 20) f ∷ reports_from d (count + 1) fs

-- the lines in error, and what is said of the first 20
abbrev pub reports_of : Draft → List Report
reports_of d = reports_from d 0 d.found

-- What is wrong in an assembly text, in words; the name is that of the file, or empty.
abbrev pub assembly_errors : List ℕ → List ℕ → Told
assembly_errors name text = record {
  is_wrong = not (is_none (findings_of text));
  bytes = reports_text name (reports_of (whole_draft text));
}
