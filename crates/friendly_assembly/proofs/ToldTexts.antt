-- What is told of a text, by whether something is wrong in it.
use Rattle.std.proofs.Common.{◌≡◌, ℕ, List, [], ◌∷◌, ◌++◌, false, true, refl, ap}
use Rattle.tool_texts.specs.Reports.{Report, reports_text}
use Rattle.friendly_assembly.specs.LineForms.{form_reports}
use Rattle.friendly_assembly.specs.PlainText.{constants_set, friendly_told, lines_of, names_known, plain_text, plain_text_by, reports_in, told_by}
use Rattle.friendly_assembly.specs.SecondLabels.{Labels, labels_of, no_labels}
use Rattle.friendly_assembly.specs.Settings.{Constants}

pub told_made : (name text : List ℕ) → reports_in (lines_of text) ≡ [] → friendly_told name text ≡ record { is_wrong = false; bytes = plain_text text }
unfolding friendly_told
told_made name text none = ap (told_by name (plain_text text)) none

wrong_by : (name plain : List ℕ) (reports : List Report) → (told_by name plain reports).is_wrong ≡ true → (told_by name plain reports).bytes ≡ reports_text name reports
wrong_by name plain [] is = cc is
wrong_by name plain (report ∷ others) is = refl

pub told_wrong : (name text : List ℕ) → (friendly_told name text).is_wrong ≡ true → (friendly_told name text).bytes ≡ reports_text name (reports_in (lines_of text))
unfolding friendly_told
told_wrong name text is = wrong_by name (plain_text text) (reports_in (lines_of text)) is

-- what is told is made of the lines, the constants, the labels and what is wrong in forms, one after another
pub told_from : (name text : List ℕ) (lines : List (List ℕ)) (constants : Constants) (labels : Labels) (forms : List Report) → lines ≡ lines_of text → constants ≡ constants_set lines
    → labels ≡ labels_of constants.table no_labels 1 lines → forms ≡ form_reports (names_known constants labels) 1 lines
    → told_by name (plain_text_by (names_known constants labels) text lines) ((constants.reports ++ labels.reports) ++ forms)
    ≡ friendly_told name text
unfolding friendly_told
told_from name text lines constants labels forms l c s f = rw (f, s, c, l) refl
