-- The survey of a text is that of its program.
use Rattle.std.proofs.Common.{◌≡◌, ◌∙◌, ℕ, ◌+◌, ◌≤◌, false, Ok, List, [], ◌∷◌, refl, sym, ap, subst, arith, nat_lt, zero-add, add-zero, add_assoc}
use Rattle.std.proofs.lemmas.Bool.Decides.{nat_tests}
use Rattle.std.proofs.lemmas.List.Sums.{sum_by-cons}
use Rattle.assembly.specs.AssemblyText.Places.{closing_size, end_of, first_offset, hunk_size, most_words, pairs_of}
use Rattle.assembly.specs.AssemblyText.Program.{AreRead, end_after, pair_count, program_size}
use Rattle.assembly.specs.AssemblyText.LineText.{line_of}
use Rattle.assembly.specs.AssemblyText.Survey.{Layout, admitted, no_lines, survey, survey_line, with_line}
use Rattle.assembly.specs.declared.assembly_text.statements.Line.{Line}
use Rattle.assembly.specs.declared.assembly_text.statements.Statement.{Statement}
use Rattle.assembly.specs.declared.assembly_text.statements.Statement.TheVariants.{Fixed, Relative, Indirect, Reserve, Address, Align, Global}
use Rattle.assembly.proofs.AssemblyText.PieceFits.{later}
use Rattle.assembly.proofs.AssemblyText.SurveyLemmas.{ComesNext, survey_ok}

-- the layout after lines
abbrev pub layout_after : Layout → List Line → Layout
layout_after layout [] = layout
layout_after layout (line ∷ lines) = layout_after (with_line layout line) lines

-- each line may come next
abbrev pub ComeNext : Layout → List Line → Type 0
ComeNext layout [] = Unit {0}
ComeNext layout (line ∷ lines) = ComesNext layout line × ComeNext (with_line layout line) lines

-- ---- from the survey to the program and back

pub record IsLaidOut (layout last : Layout) (texts : List (List ℕ)) : Type 0 where
  pub program : List Line
  pub read : AreRead texts program
  pub come : ComeNext layout program
  pub after : last ≡ layout_after layout program

pub survey_program : (n : ℕ) (layout last : Layout) (texts : List (List ℕ)) → survey n layout texts ≡ Ok last → IsLaidOut layout last texts
survey_program n layout last [] e = record { program = []; read = tt; come = tt; after = let same : layout ≡ last = cc e in sym same }
survey_program n layout last (text ∷ texts) e =
    let s = survey_ok n layout last text texts e in
    let rest = survey_program (n + 1) s.0 last texts s.2 in
    record {
      program = s.1.line ∷ rest.program;
      read = (s.1.read, rest.read);
      come = (s.1.comes_next, subst (λ (l : Layout). ComeNext l rest.program) s.1.after rest.come);
      after = rest.after ∙ ap (λ (l : Layout). layout_after l rest.program) s.1.after;
    }

pub admitted_next : (layout : Layout) (line : Line) → ComesNext layout line → admitted layout line ≡ Ok tt
unfolding admitted
admitted_next layout line h =
    let size = hunk_size (end_of line.statement layout.offset) (layout.pairs + pairs_of line.statement) in
    let short : nat_lt most_words size ≡ false = let fits = h.fits in grind (arith, nat_tests) in
    rw (h.new, short) refl

pub survey_line_next : (n : ℕ) (layout : Layout) (text : List ℕ) (line : Line) → line_of text ≡ Ok line → ComesNext layout line → survey_line n layout text ≡ Ok (with_line layout line)
survey_line_next n layout text line e h = rw (e, admitted_next layout line h) refl

pub survey_again : (n : ℕ) (layout : Layout) (texts : List (List ℕ)) (program : List Line) → AreRead texts program → ComeNext layout program → survey n layout texts ≡ Ok (layout_after layout program)
survey_again n layout [] [] read come = refl
survey_again n layout [] (line ∷ lines) read come = absurd read
survey_again n layout (text ∷ texts) [] read come = absurd read
survey_again n layout (text ∷ texts) (line ∷ lines) read come =
    rw (survey_line_next n layout text line read.0 come.0) (survey_again (n + 1) (with_line layout line) texts lines read.1 come.1)

-- ---- where the lines end

pub offset_after : (layout : Layout) (program : List Line) → (layout_after layout program).offset ≡ end_after layout.offset program
offset_after layout [] = refl
offset_after layout (line ∷ lines) = offset_after (with_line layout line) lines

pub pairs_after : (layout : Layout) (program : List Line) → (layout_after layout program).pairs ≡ layout.pairs + pair_count program
pairs_after layout [] = sym (add-zero layout.pairs)
pairs_after layout (line ∷ lines) =
    pairs_after (with_line layout line) lines ∙ add_assoc layout.pairs (pairs_of line.statement) (pair_count lines)
    ∙ ap (λ (k : ℕ). layout.pairs + k) (sym (sum_by-cons (λ l. pairs_of l.statement) line lines))

pub size_after : (program : List Line) → hunk_size (layout_after no_lines program).offset (layout_after no_lines program).pairs ≡ program_size program
size_after program =
    ap (λ (o : ℕ). hunk_size o (layout_after no_lines program).pairs) (offset_after no_lines program)
    ∙ ap (hunk_size (end_after first_offset program)) (pairs_after no_lines program ∙ zero-add (pair_count program))

-- ---- the hunk grows

pub grows : (s : Statement) (offset : ℕ) → offset ≤ end_of s offset
grows (Fixed bytes) offset = omega arith
grows (Relative byte label) offset = omega arith
grows (Indirect byte label) offset = omega arith
grows (Reserve label) offset = omega arith
grows (Address label) offset = omega arith
grows (Align boundary) offset = later boundary offset
grows (Global number label) offset = omega arith

closing_grows : (p q : ℕ) → p ≤ q → closing_size p ≤ closing_size q
closing_grows p q h = grind (arith, nat_tests)

size_grows : (o o' p p' : ℕ) → o ≤ o' → p ≤ p' → hunk_size o p ≤ hunk_size o' p'
size_grows o o' p p' h k = omega (arith, closing_grows p p' k)

-- the hunk after all lines has at least the words that it has before them
pub size_later : (layout : Layout) (program : List Line) → hunk_size layout.offset layout.pairs ≤ hunk_size (layout_after layout program).offset (layout_after layout program).pairs
size_later layout [] = omega arith
size_later layout (line ∷ lines) =
    let next = size_later (with_line layout line) lines in
    let here = size_grows layout.offset (end_of line.statement layout.offset) layout.pairs (layout.pairs + pairs_of line.statement) (grows line.statement layout.offset) (omega arith) in
    omega arith
