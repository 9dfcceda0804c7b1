-- The program of a source text: its lines, its labels and its bytes.
use Rattle.std.proofs.Common.{◌≡◌, ◌≢◌, ◌∙◌, ℕ, ◌+◌, ◌-◌, ◌^◌, ◌<◌, ◌≤◌, Bool, true, false, ◌||◌, ◌==◌, cond, Option, List, [], ◌∷◌, ◌++◌, Ok, refl, sym, ap, subst, arith}
use Rattle.std.specs.Prelude.{codes, map}
use Rattle.std.specs.List.{AllByRecursion, IsDistinct, filter_map, flat_map, list_any}
use Rattle.std.specs.Map.{lookup}
use Rattle.std.specs.Str.{bytes_eq}
use Rattle.std.proofs.lemmas.Bool.Decides.{nat_tests}
use Rattle.std.proofs.lemmas.List.Sums.{sum_by-cons}
use Rattle.std.proofs.lemmas.Slice.Eq.{bytes_eq-Decides}
use Rattle.module_text.proofs.TextReader.PlainLines.{IsPlain}
use Rattle.assembly.specs.AssemblyText.AssemblyForm.{AreGiven}
use Rattle.assembly.specs.AssemblyText.Labels.{Table, named_place}
use Rattle.assembly.specs.AssemblyText.Pieces.{piece_of, plain}
use Rattle.assembly.specs.AssemblyText.Places.{end_of, pairs_of, place_of}
use Rattle.assembly.specs.AssemblyText.Program.{AreRead, defined, end_after, labels_of, pair_count, placed}
use Rattle.assembly.specs.declared.assembly_text.pieces.Piece.{Piece}
use Rattle.assembly.specs.declared.assembly_text.statements.Line.{Line}
use Rattle.assembly.specs.ModuleListing.Cover.{Follow, ListedLine}
use Rattle.assembly.specs.PlainCode.{IsLabelled}
use Rattle.assembly.specs.Source.{label, parts_at, source_line}
use Rattle.assembly.proofs.CodeBytes.{bytes_from, bytes_more}
use Rattle.assembly.proofs.LineParts.{plain_joined}
use Rattle.assembly.proofs.SourceLines.{HasLabel, IsSaid, line_parts, line_read, line_with}
use Rattle.assembly.proofs.SourceNames.{label_same}

-- lines end where they begin, or later
pub follow_le : (a end : ℕ) (lines : List ListedLine) → Follow a end lines → a ≤ end
follow_le a end [] follow = omega (arith, follow)
follow_le a end (line ∷ lines) follow = omega (arith, follow_le (a + line.length) end lines follow.2)

pub offset_before : (a end : ℕ) (lines : List ListedLine) → Follow a end lines → (t : ℕ) → list_any (λ line. line.offset == t) lines ≡ true → t < end
offset_before a end [] follow t any = cc any
offset_before a end (line ∷ lines) follow t any =
    let le = follow_le (a + line.length) end lines follow.2 in
    by_test (line.offset == t) refl any
    (λ e. let same : line.offset ≡ t = grind (arith, nat_tests) in omega (arith, follow.0, follow.1))
    (offset_before (a + line.length) end lines follow.2 t)
  where
    by_test : (b : Bool) → (line.offset == t) ≡ b → (b || list_any (λ l. l.offset == t) lines) ≡ true → ((line.offset == t) ≡ true → t < end) → (list_any (λ l. l.offset == t) lines ≡ true → t < end) → t < end
    by_test true e any here later = here e
    by_test false e any here later = later any

-- ---- the bytes of lines

module _ (code : ℕ → Option ℕ) where
  abbrev pub pieces_of : List ListedLine → List Piece
  pieces_of lines = map (λ line. plain (bytes_from code line.length line.offset)) lines

  pub bytes_of_lines : (a end n : ℕ) (lines : List ListedLine) → Follow a end lines → a + n ≡ end → flat_map (λ piece. piece.bytes) (pieces_of lines) ≡ bytes_from code n a
  bytes_of_lines a end n [] follow e = let none : n ≡ 0 = omega (arith, follow) in rw none refl
  bytes_of_lines a end n (line ∷ lines) follow e =
      let le = follow_le (a + line.length) end lines follow.2 in
      let size : line.length + (n - line.length) ≡ n = omega arith in
      rw (follow.0, bytes_of_lines (a + line.length) end (n - line.length) lines follow.2 (omega arith)) (bytes_more code line.length (n - line.length) a ∙ ap (λ (k : ℕ). bytes_from code k a) size)

  pub no_relocations : (lines : List ListedLine) → filter_map (λ piece. piece.relocation) (pieces_of lines) ≡ []
  no_relocations [] = refl
  no_relocations (line ∷ lines) = no_relocations lines

  pub no_global_pairs : (lines : List ListedLine) → filter_map (λ piece. piece.pair) (pieces_of lines) ≡ []
  no_global_pairs [] = refl
  no_global_pairs (line ∷ lines) = no_global_pairs lines

-- ---- a program

module _ (has_label : ℕ → Bool) (code : ℕ → Option ℕ) (leads : ℕ → Type 0) where
  -- each line is read and gives its bytes
  abbrev pub AreSaid : List ListedLine → Type 0
  AreSaid lines = AllByRecursion (λ line. IsSaid code leads line.offset line.length (parts_at code line.offset)) lines

  abbrev pub texts_of : List ListedLine → List (List ℕ)
  texts_of lines = map (λ line. source_line (has_label line.offset) code line.offset) lines

  abbrev pub program_of : (lines : List ListedLine) → AreSaid lines → List Line
  program_of [] said = []
  program_of (line ∷ lines) said = line_with (has_label line.offset) line.offset said.0.statement ∷ program_of lines said.1

  -- ---- the lines

  next_line : (a : ℕ) (line : ListedLine) (said : IsSaid code leads line.offset line.length (parts_at code line.offset)) → line.offset ≡ a → end_of said.statement a ≡ a + line.length
  next_line a line said at = subst (λ (o : ℕ). end_of said.statement o ≡ o + line.length) at said.ends

  pub are_plain : (a end : ℕ) (lines : List ListedLine) → end < 2 ^ 30 → AreSaid lines → Follow a end lines → AllByRecursion IsPlain (texts_of lines)
  are_plain a end [] small said follow = tt
  are_plain a end (line ∷ lines) small said follow =
      let lt : a ≤ end = follow_le a end (line ∷ lines) follow in
      let at = follow.0 in
      let parts = cond (has_label line.offset) ((label line.offset ++ codes ":") ∷ parts_at code line.offset) (parts_at code line.offset) in (
        plain_joined parts (line_parts (has_label line.offset) line.offset (parts_at code line.offset) said.0.statement (omega arith) said.0.named),
        are_plain (a + line.length) end lines small said.1 follow.2,
      )

  pub are_read : (a end : ℕ) (lines : List ListedLine) → end < 2 ^ 30 → (said : AreSaid lines) → Follow a end lines → AreRead (texts_of lines) (program_of lines said)
  are_read a end [] small said follow = tt
  are_read a end (line ∷ lines) small said follow =
      let lt : a ≤ end = follow_le a end (line ∷ lines) follow in
      let at = follow.0 in (
        line_read (has_label line.offset) line.offset (parts_at code line.offset) said.0.statement (omega arith) said.0.named,
        are_read (a + line.length) end lines small said.1 follow.2,
      )

  pub ends_at : (a end : ℕ) (lines : List ListedLine) → (said : AreSaid lines) → Follow a end lines → end_after a (program_of lines said) ≡ end
  ends_at a end [] said follow = follow
  ends_at a end (line ∷ lines) said follow =
      ap (λ (o : ℕ). end_after o (program_of lines said.1)) (next_line a line said.0 follow.0) ∙ ends_at (a + line.length) end lines said.1 follow.2

  pub no_pairs : (lines : List ListedLine) → (said : AreSaid lines) → pair_count (program_of lines said) ≡ 0
  no_pairs [] said = refl
  no_pairs (line ∷ lines) said =
      sum_by-cons (λ l. pairs_of l.statement) (line_with (has_label line.offset) line.offset said.0.statement) (program_of lines said.1) ∙ omega (arith, said.0.no_pair, no_pairs lines said.1)

  -- ---- the labels

  other_label : (a b : ℕ) → a < 2 ^ 30 → b < 2 ^ 30 → a ≢ b → bytes_eq (label a) (label b) ≡ false
  other_label a b p q ne = by_test (bytes_eq (label a) (label b)) refl
    where
      by_test : (t : Bool) → bytes_eq (label a) (label b) ≡ t → t ≡ false
      by_test true e = absurd (ne (label_same a b (omega arith) (omega arith) ((bytes_eq-Decides (label a) (label b)).0 e)))
      by_test false e = refl

  -- a label is not one of the later lines
  later_labels : (o a end : ℕ) (lines : List ListedLine) → end < 2 ^ 30 → (said : AreSaid lines) → Follow a end lines → o < a → AllByRecursion (λ y. bytes_eq (label o) y ≡ false) (labels_of (program_of lines said))
  later_labels o a end [] small said follow lt = tt
  later_labels o a end (line ∷ lines) small said follow lt =
      let le : a ≤ end = follow_le a end (line ∷ lines) follow in
      let at = follow.0 in
      let rest = later_labels o (a + line.length) end lines small said.1 follow.2 (omega arith) in
      by_label (has_label line.offset) (other_label o line.offset (omega arith) (omega arith) (λ e. absurd (omega arith))) rest
    where
      by_label : (b : Bool) → bytes_eq (label o) (label line.offset) ≡ false → AllByRecursion (λ y. bytes_eq (label o) y ≡ false) (labels_of (program_of lines said.1))
          → AllByRecursion (λ y. bytes_eq (label o) y ≡ false) (labels_of (line_with b line.offset said.0.statement ∷ program_of lines said.1))
      by_label true ne rest = (ne, rest)
      by_label false ne rest = rest

  pub are_distinct : (a end : ℕ) (lines : List ListedLine) → end < 2 ^ 30 → (said : AreSaid lines) → Follow a end lines → IsDistinct bytes_eq (labels_of (program_of lines said))
  unfolding IsDistinct
  are_distinct a end [] small said follow = tt
  are_distinct a end (line ∷ lines) small said follow =
      let at = follow.0 in
      let later = later_labels line.offset (a + line.length) end lines small said.1 follow.2 (omega (arith, follow.1)) in
      by_label (has_label line.offset) later (are_distinct (a + line.length) end lines small said.1 follow.2)
    where
      by_label : (b : Bool) → AllByRecursion (λ y. bytes_eq (label line.offset) y ≡ false) (labels_of (program_of lines said.1)) → IsDistinct bytes_eq (labels_of (program_of lines said.1))
          → IsDistinct bytes_eq (labels_of (line_with b line.offset said.0.statement ∷ program_of lines said.1))
      by_label true later rest = (later, rest)
      by_label false later rest = rest

  -- the table of the labels that the lines define, the first of them at the offset
  abbrev pub table_from : ℕ → List Line → Table
  table_from a program name = lookup (bytes_eq name) (filter_map defined (placed a program))

  -- a line with a label is found by it
  pub has_its_label : (a end : ℕ) (lines : List ListedLine) → end < 2 ^ 30 → (said : AreSaid lines) → Follow a end lines → (t : ℕ) → t < 2 ^ 30 → IsLabelled has_label lines t → HasLabel (table_from a (program_of lines said)) t
  has_its_label a end [] small said follow t near h = cc h.0
  has_its_label a end (line ∷ lines) small said follow t near h =
      let le : a ≤ end = follow_le a end (line ∷ lines) follow in
      let at = follow.0 in
      let lt : line.offset < 2 ^ 30 = omega arith in
      let place : place_of said.0.statement a ≡ a = subst (λ (o : ℕ). place_of said.0.statement o ≡ o) follow.0 said.0.place in
      let rest : list_any (λ l. l.offset == t) lines ≡ true → HasLabel (table_from (end_of said.0.statement a) (program_of lines said.1)) t = λ e.
      subst (λ (o : ℕ). HasLabel (table_from o (program_of lines said.1)) t) (sym (next_line a line said.0 follow.0)) (has_its_label (a + line.length) end lines small said.1 follow.2 t near (e, h.1)) in
      by_place (has_label line.offset) (line.offset == t) refl refl h.0 lt place rest
    where
      by_place : (b c : Bool) → has_label line.offset ≡ b → (line.offset == t) ≡ c → (c || list_any (λ l. l.offset == t) lines) ≡ true → line.offset < 2 ^ 30 → place_of said.0.statement a ≡ a
          → (list_any (λ l. l.offset == t) lines ≡ true → HasLabel (table_from (end_of said.0.statement a) (program_of lines said.1)) t)
          → HasLabel (table_from a (line_with b line.offset said.0.statement ∷ program_of lines said.1)) t
      by_place true true e d any lt place rest =
          let same : line.offset ≡ t = grind (arith, nat_tests) in
          let at = follow.0 in
          let yes : bytes_eq (label t) (label line.offset) ≡ true = (bytes_eq-Decides (label t) (label line.offset)).1 (ap label (sym same)) in
          (named_place a said.0.statement, rw yes refl, place ∙ omega arith)
      by_place false true e d any lt place rest =
          let same : line.offset ≡ t = grind (arith, nat_tests) in
          let has : has_label line.offset ≡ true = ap has_label same ∙ h.1 in
          cc
      by_place true false e d any lt place rest =
          let ne : t ≢ line.offset = grind (arith, nat_tests) in
          let no = other_label t line.offset near lt ne in
          rw no (rest any)
      by_place false false e d any lt place rest = rest any

  -- ---- the bytes

  pub are_given : (table : Table) → ((t : ℕ) → leads t → HasLabel table t) → (a end : ℕ) (lines : List ListedLine) (said : AreSaid lines) → Follow a end lines → AreGiven table (placed a (program_of lines said)) (pieces_of code lines)
  are_given table has a end [] said follow = tt
  are_given table has a end (line ∷ lines) said follow =
      let piece = plain (bytes_from code line.length line.offset) in (
        subst (λ (o : ℕ). piece_of table o said.0.statement ≡ Ok piece) follow.0 (said.0.given table has),
        subst (λ (o : ℕ). AreGiven table (placed o (program_of lines said.1)) (pieces_of code lines)) (sym (next_line a line said.0 follow.0)) (are_given table has (a + line.length) end lines said.1 follow.2),
      )
