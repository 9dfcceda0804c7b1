-- A text that has none of the forms stays as it is.
use Rattle.std.proofs.Common.{◌≡◌, ◌∙◌, ℕ, ◌+◌, ◌≤◌, Bool, true, false, cond, ◌||◌, List, [], ◌∷◌, ◌++◌, length, drop, map, Option, None, Some, Ok, refl, ap, arith, append-nil}
use Rattle.std.specs.Prelude.{codes, nat_le}
use Rattle.std.specs.List.{AllByRecursion, flat_map, join_with_byte, list_all}
use Rattle.std.specs.Str.{bytes_eq}
use Rattle.std.proofs.lemmas.Bool.Decides.{nat_tests}
use Rattle.std.proofs.lemmas.List.Splits.{join_with_byte-slice_split}
use Rattle.word_store.proofs.EqualTexts.{bytes_eq-self}
use Rattle.friendly_assembly.specs.declared.names.Constant.{Constant}
use Rattle.friendly_assembly.specs.declared.parts.Part.{Part}
use Rattle.friendly_assembly.specs.declared.values.Digits.TheVariants.{Text}
use Rattle.friendly_assembly.specs.LineForms.{form_reports, line_flaws, operand_flaws, said_flaws}
use Rattle.friendly_assembly.specs.LineLabels.{labels_in, name_of, said_in}
use Rattle.friendly_assembly.specs.Operands.{Names, is_minus, operand_of, operand_text, value, without_sign}
use Rattle.friendly_assembly.specs.Parts.{parts_of}
use Rattle.friendly_assembly.specs.PlainLine.{is_told, plain_line, stays}
use Rattle.friendly_assembly.specs.PlainSources.{HasNoForm, IsPlainOperand}
use Rattle.friendly_assembly.specs.PlainText.{friendly_told, lines_of, names_in, plain_text, reports_in}
use Rattle.friendly_assembly.specs.Readings.{code_of}
use Rattle.friendly_assembly.specs.SecondLabels.{Labels, labels_of, no_labels, with_constant, with_first_by, with_labels}
use Rattle.friendly_assembly.specs.Settings.{constants_of, no_constants, setting_by, setting_of}
use Rattle.friendly_assembly.specs.Strings.{string_lines, string_lines_by}
use Rattle.friendly_assembly.proofs.ToldTexts.{told_made}

-- no name is defined that anything stands for
abbrev no_names : Names
no_names = record { constants = λ name. None; firsts = λ name. None }

both_false : (a b : Bool) → (a || b) ≡ false → (a ≡ false) × (b ≡ false)
both_false true b e = cc e
both_false false b e = (refl, e)

-- ---- constants

sets_nothing : (table : List ℕ → Option Constant) (labels said : List Part) → is_told said ≡ false → setting_by table labels said ≡ Ok None
sets_nothing table labels [] plain = refl
sets_nothing table labels (word ∷ operands) plain = rw (both_false (bytes_eq word.text (codes "SET")) (bytes_eq word.text (codes "DS")) plain).0 refl

line_sets_nothing : (line : List ℕ) → HasNoForm line → setting_of no_constants.table (code_of line) ≡ Ok None
line_sets_nothing line plain =
    rw plain.usual (sets_nothing no_constants.table (labels_in (parts_of (code_of line))) (said_in (parts_of (code_of line))) plain.word)

constants_plain : (n : ℕ) (lines : List (List ℕ)) → AllByRecursion HasNoForm lines → constants_of no_constants n lines ≡ no_constants
constants_plain n [] plain = refl
constants_plain n (line ∷ lines) plain = rw (line_sets_nothing line plain.0) (constants_plain (n + 1) lines plain.1)

-- ---- labels

-- nothing else than the lines of labels changes
record KeepsNames (before after : Labels) : Type 0 where
  pub firsts : after.firsts ≡ before.firsts
  pub reports : after.reports ≡ before.reports

kept_then : (a b c : Labels) → KeepsNames a b → KeepsNames b c → KeepsNames a c
kept_then a b c p q = record { firsts = q.firsts ∙ p.firsts; reports = q.reports ∙ p.reports }

first_kept : (known : Labels) (n : ℕ) (label : Part) (before : Option ℕ) → KeepsNames known (with_first_by known n label before)
first_kept known n label None = record { firsts = refl; reports = refl }
first_kept known n label (Some line) = record { firsts = refl; reports = refl }

labels_kept : (known : Labels) (n : ℕ) (line : List ℕ) (labels : List Part) → length labels ≤ 1 → KeepsNames known (with_labels no_constants.table known n line labels)
labels_kept known n line [] few = record { firsts = refl; reports = refl }
labels_kept known n line (label ∷ []) few =
    let alone = with_constant no_constants.table known n line label in
    let same : KeepsNames known alone = record { firsts = refl; reports = append-nil known.reports } in
    kept_then known alone _ same (first_kept alone n label (known.lines (name_of label.text)))
labels_kept known n line (label ∷ other ∷ others) few = absurd (omega arith)

labels_plain : (known : Labels) (n : ℕ) (lines : List (List ℕ)) → AllByRecursion HasNoForm lines → KeepsNames known (labels_of no_constants.table known n lines)
labels_plain known n [] plain = record { firsts = refl; reports = refl }
labels_plain known n (line ∷ lines) plain =
    let labels = labels_in (parts_of (code_of line)) in
    let after = with_labels no_constants.table known n line labels in
    kept_then known after _ (labels_kept known n line labels plain.0.one_label) (labels_plain after (n + 1) lines plain.1)

-- ---- operands

sign_and_rest : (text : List ℕ) → cond (is_minus text) (codes "-") [] ++ without_sign text ≡ text
sign_and_rest [] = refl
sign_and_rest (c ∷ cs) = grind (arith, nat_tests)

operand_plain : (part : Part) → IsPlainOperand part → operand_of no_names part ≡ Ok (value (is_minus part.text) (Text (without_sign part.text)))
unfolding operand_of
operand_plain part plain = rw (plain.single, plain.double, plain.mark) refl

text_plain : (part : Part) → IsPlainOperand part → operand_text no_names part ≡ part.text
text_plain part plain = rw (operand_plain part plain) (sign_and_rest part.text)

stays_plain : (operands : List Part) → AllByRecursion IsPlainOperand operands → list_all (stays no_names) operands ≡ true
stays_plain [] plain = refl
stays_plain (part ∷ others) plain = rw (text_plain part plain.0, bytes_eq-self part.text) (stays_plain others plain.1)

no_flaws : (operands : List Part) → AllByRecursion IsPlainOperand operands → operand_flaws no_names operands ≡ []
no_flaws [] plain = refl
no_flaws (part ∷ others) plain = rw (operand_plain part plain.0) (no_flaws others plain.1)

-- ---- lines

said_plain : (labels said : List Part) → is_told said ≡ false → AllByRecursion IsPlainOperand (drop 1 said) → said_flaws no_names labels said ≡ []
said_plain labels [] word plain = refl
said_plain labels (first ∷ operands) word plain =
    let both = both_false (bytes_eq first.text (codes "SET")) (bytes_eq first.text (codes "DS")) word in
    rw (both.0, both.1) (no_flaws operands plain)

line_without_flaws : (line : List ℕ) → HasNoForm line → line_flaws no_names (code_of line) ≡ []
line_without_flaws line plain =
    rw plain.usual (said_plain (labels_in (parts_of (code_of line))) (said_in (parts_of (code_of line))) plain.word plain.operands)

forms_plain : (n : ℕ) (lines : List (List ℕ)) → AllByRecursion HasNoForm lines → form_reports no_names n lines ≡ []
forms_plain n [] plain = refl
forms_plain n (line ∷ lines) plain = rw (line_without_flaws line plain.0) (forms_plain (n + 1) lines plain.1)

line_stays : (line : List ℕ) → HasNoForm line → plain_line no_names line ≡ line
unfolding plain_line
line_stays line plain =
    let few : nat_le (length (labels_in (parts_of (code_of line)))) 1 ≡ true = let h = plain.one_label in grind (arith, nat_tests) in
    rw (plain.word, plain.tabs, few, stays_plain (drop 1 (said_in (parts_of (code_of line)))) plain.operands) refl

lines_stay : (lines : List (List ℕ)) → AllByRecursion HasNoForm lines → map (plain_line no_names) lines ≡ lines
lines_stay [] plain = refl
lines_stay (line ∷ lines) plain = rw (line_stays line plain.0) (ap (λ rest. line ∷ rest) (lines_stay lines plain.1))

no_string_by : (labels said : List Part) → is_told said ≡ false → string_lines_by labels said ≡ []
no_string_by [] said plain = refl
no_string_by (label ∷ labels) [] plain = refl
no_string_by (label ∷ labels) (word ∷ []) plain = refl
no_string_by (label ∷ labels) (word ∷ part ∷ []) plain =
    rw (both_false (bytes_eq word.text (codes "SET")) (bytes_eq word.text (codes "DS")) plain).1 refl
no_string_by (label ∷ labels) (word ∷ part ∷ other ∷ others) plain = refl

no_strings : (lines : List (List ℕ)) → AllByRecursion HasNoForm lines → flat_map string_lines lines ≡ []
no_strings [] plain = refl
no_strings (line ∷ lines) plain =
    rw (no_string_by (labels_in (parts_of (code_of line))) (said_in (parts_of (code_of line))) plain.0.word) (no_strings lines plain.1)

-- ---- texts

names_plain : (lines : List (List ℕ)) → AllByRecursion HasNoForm lines → names_in lines ≡ no_names
names_plain lines plain = rw (constants_plain 1 lines plain, (labels_plain no_labels 1 lines plain).firsts) refl

nothing_wrong : (lines : List (List ℕ)) → AllByRecursion HasNoForm lines → reports_in lines ≡ []
nothing_wrong lines plain =
    rw (names_plain lines plain, constants_plain 1 lines plain, (labels_plain no_labels 1 lines plain).reports) (forms_plain 1 lines plain)

text_stays : (text : List ℕ) → AllByRecursion HasNoForm (lines_of text) → plain_text text ≡ text
text_stays text plain =
    rw (names_plain (lines_of text) plain, lines_stay (lines_of text) plain, no_strings (lines_of text) plain)
    (append-nil (join_with_byte 10 (lines_of text)) ∙ join_with_byte-slice_split 10 text)

pub plain_told : (name text : List ℕ) → AllByRecursion HasNoForm (lines_of text) → friendly_told name text ≡ record { is_wrong = false; bytes = text }
plain_told name text plain =
    told_made name text (nothing_wrong (lines_of text) plain) ∙ ap (λ bytes. record { is_wrong = false; bytes = bytes }) (text_stays text plain)
