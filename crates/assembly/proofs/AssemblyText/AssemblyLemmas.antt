-- What is made of a text is the module that it assembles to, and back.
use Rattle.std.proofs.Common.{◌≡◌, ◌∙◌, ℕ, ◌+◌, ◌≤◌, Option, Some, None, Ok, List, [], ◌∷◌, ◌++◌, length, refl, sym, ap, subst, lit≤}
use Rattle.std.specs.Prelude.{option_to_list}
use Rattle.std.specs.List.{cons_option, filter_map, flat_map}
use Rattle.module_text.specs.declared.modules.Module.{Module}
use Rattle.module_text.specs.TextReader.Lines.{lines_of}
use Rattle.assembly.specs.AssemblyText.Assembly.{assembly_of, module_of}
use Rattle.assembly.specs.AssemblyText.AssemblyForm.{AreGiven, Assembles, code_of_pieces}
use Rattle.assembly.specs.AssemblyText.Encoding.{Code, code_of, encode, encode_line, joined}
use Rattle.assembly.specs.AssemblyText.Labels.{Table}
use Rattle.assembly.specs.AssemblyText.Pieces.{piece_of}
use Rattle.assembly.specs.AssemblyText.Places.{end_of, first_offset, hunk_size, most_words}
use Rattle.assembly.specs.AssemblyText.Program.{AreRead, IsProgram, IsTable, placed, program_size}
use Rattle.assembly.specs.AssemblyText.LineText.{line_of}
use Rattle.module_text.specs.TextReader.Steps.{◌>>=◌}
use Rattle.assembly.specs.AssemblyText.Survey.{Layout, no_lines, survey}
use Rattle.assembly.specs.declared.assembly_text.pieces.Piece.{Piece}
use Rattle.assembly.specs.declared.assembly_text.statements.Line.{Line}
use Rattle.assembly.proofs.AssemblyText.EncodeLemmas.{encode_line_ok, survey_fits}
use Rattle.assembly.proofs.AssemblyText.PieceFits.{piece_fits}
use Rattle.assembly.proofs.AssemblyText.Printable.{assembly_ok}
use Rattle.assembly.proofs.AssemblyText.ProgramLemmas.{ComeNext, layout_after, size_after, survey_again, survey_program}
use Rattle.module_text.proofs.TextReader.StepLemmas.{bind-ok}
use Rattle.assembly.proofs.AssemblyText.TableLemmas.{all_free, come_next, distinct_labels, table_of_program}

cons_is : {A : Type 0} (o : Option A) (xs : List A) → option_to_list o ++ xs ≡ cons_option o xs
cons_is None xs = refl
cons_is (Some x) xs = refl

-- one more piece is one more line's code
pub pieces_more : (p : Piece) (ps : List Piece) → joined (code_of p) (code_of_pieces ps) ≡ code_of_pieces (p ∷ ps)
pieces_more p ps =
    let relocations = cons_is p.relocation (filter_map (λ piece. piece.relocation) ps) in
    let pairs = cons_is p.pair (filter_map (λ piece. piece.pair) ps) in
    λ i. record { bytes = p.bytes ++ flat_map (λ piece. piece.bytes) ps; relocations = relocations i; pairs = pairs i }

-- what a line gives, where it was read as this line
pub line_given : (n : ℕ) (table : Table) (offset : ℕ) (text : List ℕ) (line : Line) (piece : Piece) → line_of text ≡ Ok line → encode_line n table offset text ≡ Ok piece
    → (piece_of table offset line.statement ≡ Ok piece) × (offset + length piece.bytes ≡ end_of line.statement offset)
line_given n table offset text line piece read e =
    let p = encode_line_ok n table offset text piece e in
    let same : p.0 ≡ line = let a = p.1 in cc in
    let given : piece_of table offset line.statement ≡ Ok piece = ap (λ (l : Line). piece_of table offset l.statement) (sym same) ∙ p.2 in
    (given, (piece_fits table offset line.statement piece given).ends)

pub record HasPieces (table : Table) (lines : List (ℕ × Line)) (code : Code) : Type 0 where
  pub pieces : List Piece
  pub given : AreGiven table lines pieces
  pub made : code_of_pieces pieces ≡ code

pub encode_pieces : (n : ℕ) (table : Table) (offset : ℕ) (texts : List (List ℕ)) (program : List Line) (code : Code) → AreRead texts program → encode n table offset texts ≡ Ok code → HasPieces table (placed offset program) code
encode_pieces n table offset [] [] code read e = record { pieces = []; given = tt; made = cc e }
encode_pieces n table offset [] (line ∷ lines) code read e = absurd read
encode_pieces n table offset (text ∷ texts) [] code read e = absurd read
encode_pieces n table offset (text ∷ texts) (line ∷ lines) code read e =
    let a = bind-ok (encode_line n table offset text) (λ piece. encode (n + 1) table (offset + length piece.bytes) texts >>= λ more. Ok (joined (code_of piece) more)) code e in
    let b = bind-ok (encode (n + 1) table (offset + length a.0.bytes) texts) (λ more. Ok (joined (code_of a.0) more)) code a.2 in
    let g = line_given n table offset text line a.0 read.0 a.1 in
    let rest = encode_pieces (n + 1) table (end_of line.statement offset) texts lines b.0 read.1 (ap (λ (o : ℕ). encode (n + 1) table o texts) (sym g.1) ∙ b.1) in
    let made : joined (code_of a.0) b.0 ≡ code = let m = b.2 in cc in
    record {
      pieces = a.0 ∷ rest.pieces;
      given = (g.0, rest.given);
      made = sym (pieces_more a.0 rest.pieces) ∙ ap (joined (code_of a.0)) rest.made ∙ made;
    }

-- a line that was read, and what it gives
pub line_again : (n : ℕ) (table : Table) (offset : ℕ) (text : List ℕ) (line : Line) (piece : Piece) → line_of text ≡ Ok line → piece_of table offset line.statement ≡ Ok piece → encode_line n table offset text ≡ Ok piece
line_again n table offset text line piece read given = rw (read, given) refl

pub encode_again : (n : ℕ) (table : Table) (offset : ℕ) (texts : List (List ℕ)) (program : List Line) (pieces : List Piece) → AreRead texts program → AreGiven table (placed offset program) pieces → encode n table offset texts ≡ Ok (code_of_pieces pieces)
encode_again n table offset [] [] [] read given = refl
encode_again n table offset [] [] (p ∷ ps) read given = absurd given
encode_again n table offset [] (line ∷ lines) pieces read given = absurd read
encode_again n table offset (text ∷ texts) [] pieces read given = absurd read
encode_again n table offset (text ∷ texts) (line ∷ lines) [] read given = absurd given
encode_again n table offset (text ∷ texts) (line ∷ lines) (p ∷ ps) read given =
    let ends : offset + length p.bytes ≡ end_of line.statement offset = (piece_fits table offset line.statement p given.0).ends in
    let rest = encode_again (n + 1) table (end_of line.statement offset) texts lines ps read.1 given.1 in
    rw (line_again n table offset text line p read.0 given.0, ends, rest) (ap (λ (c : Code). Ok c) (pieces_more p ps))

-- ---- a program is surveyed

pub comes : (texts : List (List ℕ)) (program : List Line) → IsProgram texts program → ComeNext no_lines program
comes texts program h = let fits = h.fits in come_next no_lines program (all_free _) h.once (subst (λ (k : ℕ). k ≤ most_words) (sym (size_after program)) fits)

pub surveyed_program : (texts : List (List ℕ)) (program : List Line) → IsProgram texts program → survey 1 no_lines texts ≡ Ok (layout_after no_lines program)
surveyed_program texts program h = survey_again 1 no_lines texts program h.read (comes texts program h)

pub program_of_survey : (texts : List (List ℕ)) (last : Layout) → survey 1 no_lines texts ≡ Ok last → (program : List Line) × IsProgram texts program × (last ≡ layout_after no_lines program) × ComeNext no_lines program
program_of_survey texts last e =
    let p = survey_program 1 no_lines last texts e in
    let fits = survey_fits 1 no_lines last texts (lit≤ tt) e in
    let size : hunk_size last.offset last.pairs ≡ program_size p.program = ap (λ (l : Layout). hunk_size l.offset l.pairs) p.after ∙ size_after p.program in
    (p.program, record { read = p.read; once = distinct_labels no_lines p.program p.come; fits = subst (λ (k : ℕ). k ≤ most_words) size fits }, p.after, p.come)

pub survey_table : (last : Layout) (program : List Line) → last ≡ layout_after no_lines program → ComeNext no_lines program → IsTable last.table program
survey_table last program after come name = ap (λ (l : Layout). l.table name) after ∙ table_of_program program come name

-- tables of one program are one
pub one_table : (t u : Table) (program : List Line) → IsTable t program → IsTable u program → t ≡ u
one_table t u program h k = λ i. λ name. (h name ∙ sym (k name)) i

-- a text is read as one program
pub one_program : (texts : List (List ℕ)) (p q : List Line) → AreRead texts p → AreRead texts q → p ≡ q
one_program [] [] [] h k = refl
one_program [] [] (y ∷ ys) h k = absurd k
one_program [] (x ∷ xs) q h k = absurd h
one_program (t ∷ ts) [] q h k = absurd h
one_program (t ∷ ts) (x ∷ xs) [] h k = absurd k
one_program (t ∷ ts) (x ∷ xs) (y ∷ ys) h k =
    let rest = one_program ts xs ys h.1 k.1 in
    let here : x ≡ y = let a = h.0 in let b = k.0 in cc in
    cc

-- ---- the laws

pub sound : (text : List ℕ) (m : Module) → assembly_of text ≡ Ok m → Assembles text m
sound text m e =
    let a = assembly_ok text m e in
    let p = program_of_survey (lines_of text) a.last a.surveyed in
    let g = encode_pieces 1 a.last.table first_offset (lines_of text) p.0 a.code p.1.read a.encoded in
    record {
      program = p.0;
      table = a.last.table;
      pieces = g.pieces;
      lines = p.1;
      labels = survey_table a.last p.0 p.2 p.3;
      given = g.given;
      made = sym a.made ∙ ap module_of (sym g.made);
    }

-- the table of a program is the one that its survey makes
pub program_table : (table : Table) (texts : List (List ℕ)) (program : List Line) → IsProgram texts program → IsTable table program → table ≡ (layout_after no_lines program).table
program_table table texts program h labels = one_table table (layout_after no_lines program).table program labels (table_of_program program (comes texts program h))

pub complete : (text : List ℕ) (m : Module) → Assembles text m → assembly_of text ≡ Ok m
unfolding assembly_of
complete text m a =
    let same = program_table a.table (lines_of text) a.program a.lines a.labels in
    let encoded : encode 1 (layout_after no_lines a.program).table first_offset (lines_of text) ≡ Ok (code_of_pieces a.pieces)
    = ap (λ (t : Table). encode 1 t first_offset (lines_of text)) (sym same) ∙ encode_again 1 a.table first_offset (lines_of text) a.program a.pieces a.lines.read a.given in
    rw (surveyed_program (lines_of text) a.program a.lines, encoded) (ap (λ (x : Module). Ok x) (sym a.made))

pub same_table : (text : List ℕ) (m n : Module) (a : Assembles text m) (b : Assembles text n) → a.table ≡ b.table
same_table text m n a b =
    one_table a.table b.table a.program a.labels (subst (λ (p : List Line). IsTable b.table p) (one_program (lines_of text) b.program a.program b.lines.read a.lines.read) b.labels)
