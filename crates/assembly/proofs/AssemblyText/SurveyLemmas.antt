-- A survey, line by line.
use Rattle.std.proofs.Common.{◌≡◌, ℕ, ◌+◌, ◌≤◌, inl, inr, false, cond, Ok, Err, List, ◌∷◌, arith, nat_lt}
use Rattle.std.proofs.lemmas.Bool.Decides.{nat_tests}
use Rattle.assembly.specs.AssemblyText.Labels.{repeats}
use Rattle.assembly.specs.AssemblyText.Places.{end_of, hunk_size, most_words, pairs_of}
use Rattle.assembly.specs.AssemblyText.LineText.{line_of}
use Rattle.assembly.specs.AssemblyText.Refusal.{at_line}
use Rattle.module_text.specs.TextReader.Steps.{◌>>=◌}
use Rattle.assembly.specs.AssemblyText.Survey.{Layout, admitted, survey, survey_line, with_line}
use Rattle.assembly.specs.declared.assembly_text.errors.LineError.TheVariants.{RepeatedLabel, HunkTooLong}
use Rattle.assembly.specs.declared.assembly_text.statements.Line.{Line}
use Rattle.module_text.proofs.TextReader.StepLemmas.{bind-ok, cond-cases}
use Rattle.assembly.proofs.AssemblyText.LineSteps.{at_line_ok}

-- a line that may come next
pub record ComesNext (layout : Layout) (line : Line) : Type 0 where
  pub new : repeats layout.table line ≡ false
  pub fits : hunk_size (end_of line.statement layout.offset) (layout.pairs + pairs_of line.statement) ≤ most_words

pub admitted_ok : (layout : Layout) (line : Line) (u : Unit {0}) → admitted layout line ≡ Ok u → ComesNext layout line
unfolding admitted
admitted_ok layout line u e =
    let size = hunk_size (end_of line.statement layout.offset) (layout.pairs + pairs_of line.statement) in
    elim (cond-cases (repeats layout.table line) (Err RepeatedLabel) (cond (nat_lt most_words size) (Err HunkTooLong) (Ok tt)) (Ok u) e) [
      | inl p ↦ cc p.1
      | inr p ↦
          elim (cond-cases (nat_lt most_words size) (Err HunkTooLong) (Ok tt) (Ok u) p.1) [
            | inl q ↦ cc q.1
            | inr q ↦ let t = q.0 in record { new = p.0; fits = grind (arith, nat_tests) }
          ]
    ]

-- a line that was surveyed, and what the survey of the others began with
pub record Surveys (layout next : Layout) (text : List ℕ) : Type 0 where
  pub line : Line
  pub read : line_of text ≡ Ok line
  pub comes_next : ComesNext layout line
  pub after : next ≡ with_line layout line

pub survey_line_ok : (n : ℕ) (layout next : Layout) (text : List ℕ) → survey_line n layout text ≡ Ok next → Surveys layout next text
survey_line_ok n layout next text e =
    let a = bind-ok (at_line n (line_of text)) (λ line. at_line n (admitted layout line) >>= λ fits. Ok (with_line layout line)) next e in
    let b = bind-ok (at_line n (admitted layout a.0)) (λ fits. Ok (with_line layout a.0)) next a.2 in
    record {
      line = a.0;
      read = at_line_ok n (line_of text) a.0 a.1;
      comes_next = admitted_ok layout a.0 b.0 (at_line_ok n (admitted layout a.0) b.0 b.1);
      after = let made = b.2 in cc;
    }

pub survey_ok : (n : ℕ) (layout last : Layout) (text : List ℕ) (texts : List (List ℕ)) → survey n layout (text ∷ texts) ≡ Ok last → (next : Layout) × Surveys layout next text × (survey (n + 1) next texts ≡ Ok last)
survey_ok n layout last text texts e =
    let a = bind-ok (survey_line n layout text) (λ next. survey (n + 1) next texts) last e in
    (a.0, survey_line_ok n layout a.0 text a.1, a.2)
