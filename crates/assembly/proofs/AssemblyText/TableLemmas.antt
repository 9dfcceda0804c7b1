-- The labels of a program: none twice, and what the survey's table says of them.
use Rattle.std.proofs.Common.{◌≡◌, ◌∙◌, ℕ, ◌≤◌, Bool, true, false, cond, Option, Some, None, List, [], ◌∷◌, refl, sym, ap, arith}
use Rattle.std.specs.Prelude.{is_some}
use Rattle.std.specs.Bool.{Decides}
use Rattle.std.specs.List.{AllByRecursion, IsDistinct, filter_map}
use Rattle.std.specs.Map.{lookup, update}
use Rattle.std.specs.Str.{bytes_eq}
use Rattle.std.proofs.lemmas.Bool.Decides.{Decides-like, same_from_decides}
use Rattle.std.proofs.lemmas.Slice.Eq.{bytes_eq-Decides}
use Rattle.assembly.specs.AssemblyText.Labels.{Table, named_place, no_labels, repeats}
use Rattle.assembly.specs.AssemblyText.Places.{end_of, first_offset, hunk_size, most_words}
use Rattle.assembly.specs.AssemblyText.Program.{IsTable, defined, labels_of, placed}
use Rattle.assembly.specs.AssemblyText.Survey.{Layout, no_lines, with_line}
use Rattle.assembly.specs.declared.assembly_text.places.Place.{Place}
use Rattle.assembly.specs.declared.assembly_text.statements.Line.{Line}
use Rattle.assembly.specs.declared.assembly_text.statements.Statement.{Statement}
use Rattle.assembly.proofs.AssemblyText.ProgramLemmas.{ComeNext, layout_after, size_later}
use Rattle.assembly.proofs.AssemblyText.SurveyLemmas.{ComesNext}
use Rattle.word_store.proofs.EqualTexts.{bytes_eq-self}

abbrev line_with : Option (List ℕ) → Statement → Line
line_with label statement = record { label = label; statement = statement }

false_from : {P : Type 0} (r : Bool) → Decides r P → ¬ P → r ≡ false
false_from true d h = absurd (h (d.0 refl))
false_from false d h = refl

-- a label that the table has, and one that it has not, are two
apart : (table : Table) (name new : List ℕ) (place : Place) → table name ≡ Some place → is_some (table new) ≡ false → (name ≡ new → ⊥)
apart table name new place has free same =
    let found : table new ≡ Some place = ap table (sym same) ∙ has in
    let both : is_some (table new) ≡ true = ap is_some found in
    cc (free, both)

-- a label that was defined before is none of those that come next
fresh_by : (label : Option (List ℕ)) (s : Statement) (layout : Layout) (lines : List Line) (name : List ℕ) (place : Place) → ComesNext layout (line_with label s) → layout.table name ≡ Some place
    → ((with_line layout (line_with label s)).table name ≡ Some place → AllByRecursion (λ y. bytes_eq name y ≡ false) (labels_of lines))
    → AllByRecursion (λ y. bytes_eq name y ≡ false) (labels_of (line_with label s ∷ lines))
fresh_by None s layout lines name place come has rest = rest has
fresh_by (Some new) s layout lines name place come has rest =
    let two = apart layout.table name new place has come.new in
    let off : bytes_eq new name ≡ false = false_from (bytes_eq new name) (bytes_eq-Decides new name) (λ e. two (sym e)) in
    (false_from (bytes_eq name new) (bytes_eq-Decides name new) two, rest (rw off has))

fresh : (layout : Layout) (program : List Line) (name : List ℕ) (place : Place) → ComeNext layout program → layout.table name ≡ Some place → AllByRecursion (λ y. bytes_eq name y ≡ false) (labels_of program)
fresh layout [] name place come has = tt
fresh layout (line ∷ lines) name place come has =
    fresh_by line.label line.statement layout lines name place come.0 has (λ next. fresh (with_line layout line) lines name place come.1 next)

-- the table has a label that was just defined
pub just_defined : (layout : Layout) (name : List ℕ) (s : Statement) → (with_line layout (line_with (Some name) s)).table name ≡ Some (named_place layout.offset s)
just_defined layout name s = rw (bytes_eq-self name) refl

distinct_by : (label : Option (List ℕ)) (s : Statement) (layout : Layout) (lines : List Line) → ComeNext (with_line layout (line_with label s)) lines → IsDistinct bytes_eq (labels_of lines) → IsDistinct bytes_eq (labels_of (line_with label s ∷ lines))
unfolding IsDistinct
distinct_by None s layout lines come rest = rest
distinct_by (Some new) s layout lines come rest = (fresh (with_line layout (line_with (Some new) s)) lines new (named_place layout.offset s) come (just_defined layout new s), rest)

pub distinct_labels : (layout : Layout) (program : List Line) → ComeNext layout program → IsDistinct bytes_eq (labels_of program)
unfolding IsDistinct
distinct_labels layout [] come = tt
distinct_labels layout (line ∷ lines) come = distinct_by line.label line.statement layout lines come.1 (distinct_labels (with_line layout line) lines come.1)

-- ---- and back

-- none of the labels is in the table
abbrev pub AreFree : Table → List (List ℕ) → Type 0
AreFree table names = AllByRecursion (λ name. table name ≡ None) names

still_free : (table : Table) (new : List ℕ) (w : Option Place) (names : List (List ℕ)) → AllByRecursion (λ y. bytes_eq new y ≡ false) names → AreFree table names → AreFree (update bytes_eq table new w) names
still_free table new w [] two free = tt
still_free table new w (name ∷ names) two free = (rw two.0 free.0, still_free table new w names two.1 free.1)

record Splits (layout : Layout) (line : Line) (lines : List Line) : Type 0 where
  pub new : repeats layout.table line ≡ false
  pub free : AreFree (with_line layout line).table (labels_of lines)
  pub once : IsDistinct bytes_eq (labels_of lines)

split_by : (label : Option (List ℕ)) (s : Statement) (layout : Layout) (lines : List Line) → AreFree layout.table (labels_of (line_with label s ∷ lines)) → IsDistinct bytes_eq (labels_of (line_with label s ∷ lines))
    → Splits layout (line_with label s) lines
unfolding IsDistinct
split_by None s layout lines free once = record { new = refl; free = free; once = once }
split_by (Some new) s layout lines free once = record {
  new = ap is_some free.0;
  free = still_free layout.table new (Some (named_place layout.offset s)) (labels_of lines) once.0 free.1;
  once = once.1;
}

pub come_next : (layout : Layout) (program : List Line) → AreFree layout.table (labels_of program) → IsDistinct bytes_eq (labels_of program)
    → hunk_size (layout_after layout program).offset (layout_after layout program).pairs ≤ most_words → ComeNext layout program
come_next layout [] free once fits = tt
come_next layout (line ∷ lines) free once fits =
    let s = split_by line.label line.statement layout lines free once in
    let later = size_later (with_line layout line) lines in
    (record { new = s.new; fits = omega arith }, come_next (with_line layout line) lines s.free s.once fits)

pub all_free : (names : List (List ℕ)) → AreFree no_labels names
all_free [] = tt
all_free (name ∷ names) = (refl, all_free names)

-- ---- what the table says

abbrev or_else : Option Place → Option Place → Option Place
or_else None other = other
or_else (Some place) other = Some place

abbrev place_in : List ℕ → ℕ → List Line → Option Place
place_in name offset program = lookup (bytes_eq name) (filter_map defined (placed offset program))

none_by : (label : Option (List ℕ)) (s : Statement) (name : List ℕ) (offset : ℕ) (lines : List Line) → AllByRecursion (λ y. bytes_eq name y ≡ false) (labels_of (line_with label s ∷ lines))
    → (AllByRecursion (λ y. bytes_eq name y ≡ false) (labels_of lines) → place_in name (end_of s offset) lines ≡ None) → place_in name offset (line_with label s ∷ lines) ≡ None
none_by None s name offset lines two rest = rest two
none_by (Some new) s name offset lines two rest = rw two.0 (rest two.1)

-- a name that no line defines has no place
pub no_place : (name : List ℕ) (offset : ℕ) (program : List Line) → AllByRecursion (λ y. bytes_eq name y ≡ false) (labels_of program) → place_in name offset program ≡ None
no_place name offset [] two = refl
no_place name offset (line ∷ lines) two = none_by line.label line.statement name offset lines two (λ rest. no_place name (end_of line.statement offset) lines rest)

here_by : (b d : Bool) (p : Place) (rest old after : Option Place) → b ≡ d → (d ≡ true → rest ≡ None) → after ≡ or_else rest (cond d (Some p) old) → after ≡ or_else (cond b (Some p) rest) old
here_by true true p rest old after e free h = h ∙ ap (λ (o : Option Place). or_else o (Some p)) (free refl)
here_by false false p rest old after e free h = h
here_by true false p rest old after e free h = cc e
here_by false true p rest old after e free h = cc e

same_test : (a b : List ℕ) → bytes_eq a b ≡ bytes_eq b a
same_test a b = same_from_decides (bytes_eq a b) (bytes_eq b a) (bytes_eq-Decides a b) (Decides-like (bytes_eq b a) sym sym (bytes_eq-Decides b a))

after_by : (label : Option (List ℕ)) (s : Statement) (layout : Layout) (lines : List Line) (name : List ℕ) (after : Option Place) → ComeNext (with_line layout (line_with label s)) lines
    → after ≡ or_else (place_in name (end_of s layout.offset) lines) ((with_line layout (line_with label s)).table name)
    → after ≡ or_else (place_in name layout.offset (line_with label s ∷ lines)) (layout.table name)
after_by None s layout lines name after come h = h
after_by (Some new) s layout lines name after come h =
    here_by (bytes_eq name new) (bytes_eq new name) (named_place layout.offset s) (place_in name (end_of s layout.offset) lines) (layout.table name) after (same_test name new)
    (λ e.
    let same : new ≡ name = (bytes_eq-Decides new name).0 e in
    no_place name (end_of s layout.offset) lines (fresh (with_line layout (line_with (Some new) s)) lines name (named_place layout.offset s) come (ap (with_line layout (line_with (Some new) s)).table (sym same) ∙ just_defined layout new s)))
    h

pub table_after : (layout : Layout) (program : List Line) (name : List ℕ) → ComeNext layout program → (layout_after layout program).table name ≡ or_else (place_in name layout.offset program) (layout.table name)
table_after layout [] name come = refl
table_after layout (line ∷ lines) name come =
    after_by line.label line.statement layout lines name ((layout_after layout (line ∷ lines)).table name) come.1 (table_after (with_line layout line) lines name come.1)

or_none : (o : Option Place) → or_else o None ≡ o
or_none None = refl
or_none (Some place) = refl

pub table_of_program : (program : List Line) → ComeNext no_lines program → IsTable (layout_after no_lines program).table program
table_of_program program come name = table_after no_lines program name come ∙ or_none (place_in name first_offset program)
