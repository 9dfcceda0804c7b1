-- Where the survey of a text stops, and why.
use Rattle.std.proofs.Common.{◌≡◌, ◌∙◌, ℕ, ◌+◌, ◌<◌, ◌⊎◌, inl, inr, Bool, true, false, ◌||◌, cond, Option, Some, None, Ok, Err, List, [], ◌∷◌, ◌++◌, length, refl, sym, ap, subst, arith, add-zero, nat_lt}
use Rattle.std.specs.Prelude.{is_some}
use Rattle.std.specs.List.{filter_map, list_any}
use Rattle.std.specs.Map.{lookup}
use Rattle.std.specs.Str.{bytes_eq}
use Rattle.std.proofs.lemmas.Bool.Decides.{nat_tests}
use Rattle.assembly.specs.AssemblyText.AssemblyForm.{RepeatsLabel}
use Rattle.assembly.specs.AssemblyText.Labels.{named_place, repeats}
use Rattle.assembly.specs.AssemblyText.LineErrors.{code_of}
use Rattle.assembly.specs.AssemblyText.Places.{end_of, first_offset, hunk_size, most_words, pairs_of}
use Rattle.assembly.specs.AssemblyText.Program.{AreRead, defined, labels_of, placed, program_size}
use Rattle.assembly.specs.AssemblyText.LineText.{line_of}
use Rattle.assembly.specs.AssemblyText.Refusal.{at_line}
use Rattle.module_text.specs.TextReader.Refusal.{Refusal, refusal}
use Rattle.module_text.specs.TextReader.Steps.{◌>>=◌}
use Rattle.assembly.specs.AssemblyText.Survey.{Layout, admitted, no_lines, survey, survey_line, with_line}
use Rattle.assembly.specs.declared.assembly_text.errors.LineError.{LineError}
use Rattle.assembly.specs.declared.assembly_text.errors.LineError.TheVariants.{RepeatedLabel, HunkTooLong}
use Rattle.assembly.specs.declared.assembly_text.places.Place.{Place}
use Rattle.assembly.specs.declared.assembly_text.statements.Line.{Line}
use Rattle.assembly.specs.declared.assembly_text.statements.Statement.{Statement}
use Rattle.assembly.proofs.AssemblyText.ProgramLemmas.{ComeNext, layout_after, size_after, survey_line_next}
use Rattle.module_text.proofs.TextReader.StepLemmas.{bind-err, cond-cases}
use Rattle.assembly.proofs.AssemblyText.LineSteps.{at_line_err, at_line_ok}
use Rattle.assembly.proofs.AssemblyText.SurveyLemmas.{survey_line_ok}
use Rattle.assembly.proofs.AssemblyText.TableLemmas.{table_of_program}

-- ---- where

pub record StopsSurvey (n : ℕ) (layout : Layout) (texts : List (List ℕ)) (d : Refusal) : Type 0 where
  pub front : List (List ℕ)
  pub program : List Line
  pub line : List ℕ
  pub rest : List (List ℕ)
  pub all : texts ≡ front ++ line ∷ rest
  pub read : AreRead front program
  pub come : ComeNext layout program
  pub stops : survey_line (n + length front) (layout_after layout program) line ≡ Err d

pub survey_err : (n : ℕ) (layout : Layout) (texts : List (List ℕ)) (d : Refusal) → survey n layout texts ≡ Err d → StopsSurvey n layout texts d
survey_err n layout [] d e = cc e
survey_err n layout (text ∷ texts) d e =
    elim (bind-err (survey_line n layout text) (λ next. survey (n + 1) next texts) d e) [
      | inl p ↦ record {
        front = [];
        program = [];
        line = text;
        rest = texts;
        all = refl;
        read = tt;
        come = tt;
        stops = ap (λ (k : ℕ). survey_line k layout text) (add-zero n) ∙ p;
      }
      | inr p ↦
          let s = survey_line_ok n layout p.0 text p.1 in
          let r = survey_err (n + 1) p.0 texts d p.2 in
          let number : n + length (text ∷ r.front) ≡ n + 1 + length r.front = omega arith in
          record {
            front = text ∷ r.front;
            program = s.line ∷ r.program;
            line = r.line;
            rest = r.rest;
            all = ap (λ (ls : List (List ℕ)). text ∷ ls) r.all;
            read = (s.read, r.read);
            come = (s.comes_next, subst (λ (l : Layout). ComeNext l r.program) s.after r.come);
            stops = ap (λ (k : ℕ). survey_line k (layout_after (with_line layout s.line) r.program) r.line) number
                ∙ ap (λ (l : Layout). survey_line (n + 1 + length r.front) (layout_after l r.program) r.line) (sym s.after) ∙ r.stops;
          }
    ]

-- lines that come next, and then more
pub survey_front : (n : ℕ) (layout : Layout) (front more : List (List ℕ)) (program : List Line) → AreRead front program → ComeNext layout program
    → survey n layout (front ++ more) ≡ survey (n + length front) (layout_after layout program) more
survey_front n layout [] more [] read come = ap (λ (k : ℕ). survey k layout more) (sym (add-zero n))
survey_front n layout [] more (line ∷ lines) read come = absurd read
survey_front n layout (text ∷ texts) more [] read come = absurd read
survey_front n layout (text ∷ texts) more (line ∷ lines) read come =
    let number : n + 1 + length texts ≡ n + length (text ∷ texts) = omega arith in
    rw (survey_line_next n layout text line read.0 come.0) (survey_front (n + 1) (with_line layout line) texts more lines read.1 come.1 ∙ ap (λ (k : ℕ). survey k (layout_after (with_line layout line) lines) more) number)

-- ---- why

-- a line that is not admitted repeats a label, or makes the hunk too long
pub record IsTooLong (layout : Layout) (line : Line) (e : LineError) : Type 0 where
  pub error : e ≡ HunkTooLong
  pub new : repeats layout.table line ≡ false
  pub long : most_words < hunk_size (with_line layout line).offset (with_line layout line).pairs

pub admitted_err : (layout : Layout) (line : Line) (e : LineError) → admitted layout line ≡ Err e → ((e ≡ RepeatedLabel) × (repeats layout.table line ≡ true)) ⊎ IsTooLong layout line e
unfolding admitted
admitted_err layout line e h =
    let size = hunk_size (end_of line.statement layout.offset) (layout.pairs + pairs_of line.statement) in
    elim (cond-cases (repeats layout.table line) (Err RepeatedLabel) (cond (nat_lt most_words size) (Err HunkTooLong) (Ok tt)) (Err e) h) [
      | inl p ↦ let same : RepeatedLabel ≡ e = cc p.1 in inl (sym same, p.0)
      | inr p ↦
          elim (cond-cases (nat_lt most_words size) (Err HunkTooLong) (Ok tt) (Err e) p.1) [
            | inl q ↦
                let same : HunkTooLong ≡ e = cc q.1 in
                let t = q.0 in
                inr (record { error = sym same; new = p.0; long = grind (arith, nat_tests) })
            | inr q ↦ cc q.1
          ]
    ]

pub repeated_again : (layout : Layout) (line : Line) → repeats layout.table line ≡ true → admitted layout line ≡ Err RepeatedLabel
unfolding admitted
repeated_again layout line h = rw h refl

pub too_long_again : (layout : Layout) (line : Line) → repeats layout.table line ≡ false → most_words < hunk_size (with_line layout line).offset (with_line layout line).pairs → admitted layout line ≡ Err HunkTooLong
unfolding admitted
too_long_again layout line new long =
    let t : nat_lt most_words (hunk_size (end_of line.statement layout.offset) (layout.pairs + pairs_of line.statement)) ≡ true = grind (arith, nat_tests) in
    rw (new, t) refl

-- why a line stops the survey: it cannot be read, or it is not admitted
pub record IsUnread (n : ℕ) (text : List ℕ) (d : Refusal) : Type 0 where
  pub error : LineError
  pub read : line_of text ≡ Err error
  pub is : d ≡ refusal n (code_of error)

pub record IsNotAdmitted (n : ℕ) (layout : Layout) (text : List ℕ) (d : Refusal) : Type 0 where
  pub line : Line
  pub error : LineError
  pub read : line_of text ≡ Ok line
  pub refused : admitted layout line ≡ Err error
  pub is : d ≡ refusal n (code_of error)

pub survey_line_err : (n : ℕ) (layout : Layout) (text : List ℕ) (d : Refusal) → survey_line n layout text ≡ Err d → IsUnread n text d ⊎ IsNotAdmitted n layout text d
survey_line_err n layout text d e =
    elim (bind-err (at_line n (line_of text)) (λ line. at_line n (admitted layout line) >>= λ fits. Ok (with_line layout line)) d e) [
      | inl p ↦ let a = at_line_err n (line_of text) d p in inl (record { error = a.0; read = a.1; is = a.2 })
      | inr p ↦
          elim (bind-err (at_line n (admitted layout p.0)) (λ fits. Ok (with_line layout p.0)) d p.2) [
            | inl q ↦
                let a = at_line_err n (admitted layout p.0) d q in
                inr (record { line = p.0; error = a.0; read = at_line_ok n (line_of text) p.0 p.1; refused = a.1; is = a.2 })
            | inr q ↦ cc q.2
          ]
    ]

-- ---- in the words of the program

place_test : (b : Bool) (p : Place) (rest : Option Place) (others : Bool) → is_some rest ≡ others → is_some (cond b (Some p) rest) ≡ (b || others)
place_test true p rest others h = refl
place_test false p rest others h = h

has_place_by : (label : Option (List ℕ)) (s : Statement) (name : List ℕ) (offset : ℕ) (lines : List Line) → is_some (lookup (bytes_eq name) (filter_map defined (placed (end_of s offset) lines))) ≡ list_any (bytes_eq name) (labels_of lines)
    → is_some (lookup (bytes_eq name) (filter_map defined (placed offset (record { label = label; statement = s } ∷ lines)))) ≡ list_any (bytes_eq name) (labels_of (record { label = label; statement = s } ∷ lines))
has_place_by None s name offset lines rest = rest
has_place_by (Some new) s name offset lines rest = place_test (bytes_eq name new) (named_place offset s) _ (list_any (bytes_eq name) (labels_of lines)) rest

has_place : (name : List ℕ) (offset : ℕ) (program : List Line) → is_some (lookup (bytes_eq name) (filter_map defined (placed offset program))) ≡ list_any (bytes_eq name) (labels_of program)
has_place name offset [] = refl
has_place name offset (line ∷ lines) = has_place_by line.label line.statement name offset lines (has_place name (end_of line.statement offset) lines)

has_label : (program : List Line) (name : List ℕ) → ComeNext no_lines program → is_some ((layout_after no_lines program).table name) ≡ list_any (bytes_eq name) (labels_of program)
has_label program name come = ap is_some (table_of_program program come name) ∙ has_place name first_offset program

repeats_by : (label : Option (List ℕ)) (s : Statement) (program : List Line) → ComeNext no_lines program → repeats (layout_after no_lines program).table (record { label = label; statement = s }) ≡ true → RepeatsLabel program (record { label = label; statement = s })
repeats_by None s program come h = cc h
repeats_by (Some name) s program come h = record { name = name; label = refl; before = sym (has_label program name come) ∙ h }

pub repeats_label : (program : List Line) (line : Line) → ComeNext no_lines program → repeats (layout_after no_lines program).table line ≡ true → RepeatsLabel program line
repeats_label program line come h = repeats_by line.label line.statement program come h

pub repeats_again : (program : List Line) (line : Line) → ComeNext no_lines program → RepeatsLabel program line → repeats (layout_after no_lines program).table line ≡ true
repeats_again program line come h = rw h.label (has_label program h.name come ∙ h.before)

layout_push : (layout : Layout) (program : List Line) (line : Line) → layout_after layout (program ++ line ∷ []) ≡ with_line (layout_after layout program) line
layout_push layout [] line = refl
layout_push layout (l ∷ ls) line = layout_push (with_line layout l) ls line

pub size_with : (program : List Line) (line : Line) → hunk_size (with_line (layout_after no_lines program) line).offset (with_line (layout_after no_lines program) line).pairs ≡ program_size (program ++ line ∷ [])
size_with program line =
    ap (λ (l : Layout). hunk_size l.offset l.pairs) (sym (layout_push no_lines program line)) ∙ size_after (program ++ line ∷ [])
