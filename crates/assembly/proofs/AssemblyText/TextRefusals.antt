-- A text is refused exactly where it is refused by the rules.
use Rattle.std.proofs.Common.{◌≡◌, ◌∙◌, ℕ, ◌+◌, ◌<◌, ◌≤◌, ◌⊎◌, inl, inr, Bool, true, false, Ok, Err, List, [], ◌∷◌, ◌++◌, length, refl, sym, ap, subst, arith, add-zero, lit≤}
use Rattle.module_text.specs.TextReader.Lines.{lines_of}
use Rattle.assembly.specs.AssemblyText.Assembly.{assembly_of, module_of}
use Rattle.assembly.specs.AssemblyText.AssemblyForm.{AreGiven, IsBadLine, IsBadOperand, IsRefused, IsTooMuch, IsWrong}
use Rattle.assembly.specs.AssemblyText.Encoding.{code_of as code_of_piece, encode, encode_line, joined}
use Rattle.assembly.specs.AssemblyText.Labels.{Table, repeats}
use Rattle.assembly.specs.AssemblyText.LineErrors.{code_of}
use Rattle.assembly.specs.AssemblyText.Pieces.{piece_of}
use Rattle.assembly.specs.AssemblyText.Places.{end_of, first_offset, most_words}
use Rattle.assembly.specs.AssemblyText.Program.{AreRead, IsProgram, placed}
use Rattle.assembly.specs.AssemblyText.LineText.{line_of}
use Rattle.assembly.specs.AssemblyText.Refusal.{at_line}
use Rattle.module_text.specs.TextReader.Refusal.{Refusal, refusal}
use Rattle.module_text.specs.TextReader.Steps.{◌>>=◌}
use Rattle.assembly.specs.AssemblyText.Survey.{Layout, admitted, no_lines, survey, survey_line}
use Rattle.assembly.specs.declared.assembly_text.errors.LineError.{LineError}
use Rattle.assembly.specs.declared.assembly_text.errors.LineError.TheVariants.{NoForm, UnknownName, OutOfRange, UndefinedLabel, RepeatedLabel, OutOfReach, HunkTooLong}
use Rattle.assembly.specs.declared.assembly_text.pieces.Piece.{Piece}
use Rattle.assembly.specs.declared.assembly_text.statements.Line.{Line}
use Rattle.assembly.proofs.AssemblyText.AssemblyLemmas.{comes, line_again, line_given, program_of_survey, program_table, survey_table, surveyed_program}
use Rattle.assembly.proofs.AssemblyText.EncodeLemmas.{survey_fits}
use Rattle.assembly.proofs.AssemblyText.PieceFits.{piece_fits}
use Rattle.assembly.proofs.AssemblyText.ProgramLemmas.{ComeNext, layout_after, size_after, survey_again}
use Rattle.assembly.proofs.AssemblyText.RefusalLemmas.{StopsSurvey, admitted_err, repeated_again, repeats_again, repeats_label, size_with, survey_err, survey_front, survey_line_err, too_long_again}
use Rattle.module_text.proofs.TextReader.StepLemmas.{bind-err}
use Rattle.assembly.proofs.AssemblyText.LineSteps.{at_line_err, at_line_ok}
use Rattle.assembly.proofs.AssemblyText.TableLemmas.{distinct_labels}

-- ---- a line that cannot follow

-- lines that come next are a program
right : (front : List (List ℕ)) (program : List Line) → AreRead front program → ComeNext no_lines program → IsProgram front program
right front program read come = record {
  read = read;
  once = distinct_labels no_lines program come;
  fits = subst (λ (k : ℕ). k ≤ most_words) (size_after program) (survey_fits 1 no_lines (layout_after no_lines program) front (lit≤ tt) (survey_again 1 no_lines front program read come));
}

-- a line that cannot be read has that one error
lowest_unread : (program : List Line) (text : List ℕ) (e d : LineError) → line_of text ≡ Err e → IsWrong program text d → code_of e ≤ code_of d
lowest_unread program text e d read (inl other) = let same : e ≡ d = cc in subst (λ (x : LineError). code_of e ≤ code_of x) same (omega arith)
lowest_unread program text e RepeatedLabel read (inr h) = let other = h.1 in cc
lowest_unread program text e HunkTooLong read (inr h) = let other = h.1 in cc
lowest_unread program text e NoForm read (inr h) = absurd h
lowest_unread program text e UnknownName read (inr h) = absurd h
lowest_unread program text e OutOfRange read (inr h) = absurd h
lowest_unread program text e UndefinedLabel read (inr h) = absurd h
lowest_unread program text e OutOfReach read (inr h) = absurd h

lowest_repeated : (program : List Line) (text : List ℕ) (line : Line) (d : LineError) → line_of text ≡ Ok line → IsWrong program text d → 5 ≤ code_of d
lowest_repeated program text line d read (inl other) = cc (read, other)
lowest_repeated program text line RepeatedLabel read (inr h) = lit≤ tt
lowest_repeated program text line HunkTooLong read (inr h) = lit≤ tt
lowest_repeated program text line NoForm read (inr h) = absurd h
lowest_repeated program text line UnknownName read (inr h) = absurd h
lowest_repeated program text line OutOfRange read (inr h) = absurd h
lowest_repeated program text line UndefinedLabel read (inr h) = absurd h
lowest_repeated program text line OutOfReach read (inr h) = absurd h

lowest_long : (program : List Line) (text : List ℕ) (line : Line) (d : LineError) → line_of text ≡ Ok line → ComeNext no_lines program → repeats (layout_after no_lines program).table line ≡ false → IsWrong program text d → 7 ≤ code_of d
lowest_long program text line d read come new (inl other) = cc (read, other)
lowest_long program text line RepeatedLabel read come new (inr h) =
    let other = h.1 in
    let same : h.0 ≡ line = cc in
    let again : repeats (layout_after no_lines program).table line ≡ true = ap (repeats (layout_after no_lines program).table) (sym same) ∙ repeats_again program h.0 come h.2 in
    cc (new, again)
lowest_long program text line HunkTooLong read come new (inr h) = lit≤ tt
lowest_long program text line NoForm read come new (inr h) = absurd h
lowest_long program text line UnknownName read come new (inr h) = absurd h
lowest_long program text line OutOfRange read come new (inr h) = absurd h
lowest_long program text line UndefinedLabel read come new (inr h) = absurd h
lowest_long program text line OutOfReach read come new (inr h) = absurd h

-- the parts of a refusal
line_is : (n k code c : ℕ) → refusal n code ≡ refusal k c → n ≡ k
line_is n k code c e = ap (λ (r : Refusal). r.line) e

code_is : (n k code c : ℕ) → refusal n code ≡ refusal k c → code ≡ c
code_is n k code c e = ap (λ (r : Refusal). r.code) e

bad_line : (text : List ℕ) (n : ℕ) (front rest : List (List ℕ)) (line : List ℕ) (program : List Line) (e : LineError) → lines_of text ≡ front ++ line ∷ rest → AreRead front program → ComeNext no_lines program
    → n ≡ 1 + length front → IsWrong program line e → ((d : LineError) → IsWrong program line d → code_of e ≤ code_of d) → IsBadLine text n e
bad_line text n front rest line program e all read come number wrong lowest = record {
  front = front;
  line = line;
  rest = rest;
  program = program;
  all = all;
  number = omega arith;
  before = right front program read come;
  wrong = wrong;
  lowest = lowest;
}

refused_by_survey : (text : List ℕ) (n code : ℕ) → StopsSurvey 1 no_lines (lines_of text) (refusal n code) → IsRefused text n code
refused_by_survey text n code s =
    elim (survey_line_err (1 + length s.front) (layout_after no_lines s.program) s.line (refusal n code) s.stops) [
      | inl u ↦ (
        u.error,
        code_is n _ code _ u.is,
        inl (bad_line text n s.front s.rest s.line s.program u.error s.all s.read s.come (line_is n _ code _ u.is) (inl u.read) (λ d w. lowest_unread s.program s.line u.error d u.read w)),
      )
      | inr a ↦
          elim (admitted_err (layout_after no_lines s.program) a.line a.error a.refused) [
            | inl p ↦ (
              RepeatedLabel,
              code_is n _ code _ a.is ∙ ap code_of p.0,
              inl (bad_line text n s.front s.rest s.line s.program RepeatedLabel s.all s.read s.come (line_is n _ code _ a.is)
                  (inr (a.line, a.read, repeats_label s.program a.line s.come p.1)) (λ d w. lowest_repeated s.program s.line a.line d a.read w)),
            )
            | inr p ↦ (
              HunkTooLong,
              code_is n _ code _ a.is ∙ ap code_of p.error,
              inl (bad_line text n s.front s.rest s.line s.program HunkTooLong s.all s.read s.come (line_is n _ code _ a.is)
                  (inr (a.line, a.read, subst (λ (k : ℕ). most_words < k) (size_with s.program a.line) p.long)) (λ d w. lowest_long s.program s.line a.line d a.read s.come p.new w)),
            )
          ]
    ]

-- ---- a line whose operand cannot be given

record StopsEncode (n : ℕ) (table : Table) (offset : ℕ) (program : List Line) (d : Refusal) : Type 0 where
  pub pieces : List Piece
  pub front : List (ℕ × Line)
  pub line : ℕ × Line
  pub rest : List (ℕ × Line)
  pub error : LineError
  pub all : placed offset program ≡ front ++ line ∷ rest
  pub before : AreGiven table front pieces
  pub wrong : piece_of table line.0 line.1.statement ≡ Err error
  pub is : d ≡ refusal (n + length front) (code_of error)

-- why a line that can be read stops the encoding
line_not_given : (n : ℕ) (table : Table) (offset : ℕ) (text : List ℕ) (line : Line) (d : Refusal) → line_of text ≡ Ok line → encode_line n table offset text ≡ Err d
    → (e : LineError) × (piece_of table offset line.statement ≡ Err e) × (d ≡ refusal n (code_of e))
line_not_given n table offset text line d read h =
    elim (bind-err (at_line n (line_of text)) (λ l. at_line n (piece_of table offset l.statement)) d h) [
      | inl p ↦ let a = at_line_err n (line_of text) d p in let other = a.1 in cc
      | inr p ↦
          let a = at_line_err n (piece_of table offset p.0.statement) d p.2 in
          let other = at_line_ok n (line_of text) p.0 p.1 in
          let same : p.0 ≡ line = cc in
          (a.0, ap (λ (l : Line). piece_of table offset l.statement) (sym same) ∙ a.1, a.2)
    ]

encode_err : (n : ℕ) (table : Table) (offset : ℕ) (texts : List (List ℕ)) (program : List Line) (d : Refusal) → AreRead texts program → encode n table offset texts ≡ Err d → StopsEncode n table offset program d
encode_err n table offset [] program d read h = cc h
encode_err n table offset (text ∷ texts) [] d read h = absurd read
encode_err n table offset (text ∷ texts) (line ∷ lines) d read h =
    elim (bind-err (encode_line n table offset text) (λ piece. encode (n + 1) table (offset + length piece.bytes) texts >>= λ more. Ok (joined (code_of_piece piece) more)) d h) [
      | inl p ↦
          let a = line_not_given n table offset text line d read.0 p in
          record {
            pieces = [];
            front = [];
            line = (offset, line);
            rest = placed (end_of line.statement offset) lines;
            error = a.0;
            all = refl;
            before = tt;
            wrong = a.1;
            is = a.2 ∙ ap (λ (k : ℕ). refusal k (code_of a.0)) (sym (add-zero n));
          }
      | inr p ↦
          let g = line_given n table offset text line p.0 read.0 p.1 in
          elim (bind-err (encode (n + 1) table (offset + length p.0.bytes) texts) (λ more. Ok (joined (code_of_piece p.0) more)) d p.2) [
            | inl q ↦
                let r = encode_err (n + 1) table (end_of line.statement offset) texts lines d read.1 (ap (λ (o : ℕ). encode (n + 1) table o texts) (sym g.1) ∙ q) in
                let number : n + 1 + length r.front ≡ n + length ((offset, line) ∷ r.front) = omega arith in
                record {
                  pieces = p.0 ∷ r.pieces;
                  front = (offset, line) ∷ r.front;
                  line = r.line;
                  rest = r.rest;
                  error = r.error;
                  all = ap (λ (ls : List (ℕ × Line)). (offset, line) ∷ ls) r.all;
                  before = (g.0, r.before);
                  wrong = r.wrong;
                  is = r.is ∙ ap (λ (k : ℕ). refusal k (code_of r.error)) number;
                }
            | inr q ↦ cc q.2
          ]
    ]

refused_by_encoding : (text : List ℕ) (n code : ℕ) (last : Layout) → survey 1 no_lines (lines_of text) ≡ Ok last → encode 1 last.table first_offset (lines_of text) ≡ Err (refusal n code) → IsRefused text n code
refused_by_encoding text n code last surveyed h =
    let p = program_of_survey (lines_of text) last surveyed in
    let s = encode_err 1 last.table first_offset (lines_of text) p.0 (refusal n code) p.1.read h in
    let number : n ≡ 1 + length s.front = line_is n _ code _ s.is in (
      s.error,
      code_is n _ code _ s.is,
      inr (record {
        program = p.0;
        table = last.table;
        pieces = s.pieces;
        front = s.front;
        line = s.line;
        rest = s.rest;
        lines = p.1;
        labels = survey_table last p.0 p.2 p.3;
        all = s.all;
        number = omega arith;
        before = s.before;
        wrong = s.wrong;
      }),
    )

pub refusal_sound : (text : List ℕ) (n code : ℕ) → assembly_of text ≡ Err (refusal n code) → IsRefused text n code
unfolding assembly_of
refusal_sound text n code h =
    elim (bind-err (survey 1 no_lines (lines_of text)) (λ layout. encode 1 layout.table first_offset (lines_of text) >>= λ code. Ok (module_of code)) (refusal n code) h) [
      | inl p ↦ refused_by_survey text n code (survey_err 1 no_lines (lines_of text) (refusal n code) p)
      | inr p ↦
          elim (bind-err (encode 1 p.0.table first_offset (lines_of text)) (λ code. Ok (module_of code)) (refusal n code) p.2) [
            | inl q ↦ refused_by_encoding text n code p.0 p.1 q
            | inr q ↦ cc q.2
          ]
    ]

-- ---- and back

stops_unread : (n : ℕ) (layout : Layout) (text : List ℕ) (e : LineError) → line_of text ≡ Err e → survey_line n layout text ≡ Err (refusal n (code_of e))
stops_unread n layout text e read = rw read refl

stops_refused : (n : ℕ) (layout : Layout) (text : List ℕ) (line : Line) (e : LineError) → line_of text ≡ Ok line → admitted layout line ≡ Err e → survey_line n layout text ≡ Err (refusal n (code_of e))
stops_refused n layout text line e read h = rw (read, h) refl

-- a line that makes the hunk too long repeats no label, where nothing lower is wrong
stops_long : (n : ℕ) (program : List Line) (text : List ℕ) (line : Line) (b : Bool) → ComeNext no_lines program → line_of text ≡ Ok line → IsTooMuch program line → ((d : LineError) → IsWrong program text d → 7 ≤ code_of d)
    → repeats (layout_after no_lines program).table line ≡ b → survey_line n (layout_after no_lines program) text ≡ Err (refusal n 7)
stops_long n program text line true come read much lowest new =
    let five : 7 ≤ 5 = lowest RepeatedLabel (inr (line, read, repeats_label program line come new)) in
    absurd (omega arith)
stops_long n program text line false come read much lowest new =
    stops_refused n (layout_after no_lines program) text line HunkTooLong read (too_long_again (layout_after no_lines program) line new (subst (λ (k : ℕ). most_words < k) (sym (size_with program line)) much))

stops_wrong : (n : ℕ) (program : List Line) (text : List ℕ) (e : LineError) → ComeNext no_lines program → IsWrong program text e → ((d : LineError) → IsWrong program text d → code_of e ≤ code_of d)
    → survey_line n (layout_after no_lines program) text ≡ Err (refusal n (code_of e))
stops_wrong n program text e come (inl read) lowest = stops_unread n (layout_after no_lines program) text e read
stops_wrong n program text RepeatedLabel come (inr h) lowest =
    stops_refused n (layout_after no_lines program) text h.0 RepeatedLabel h.1 (repeated_again (layout_after no_lines program) h.0 (repeats_again program h.0 come h.2))
stops_wrong n program text HunkTooLong come (inr h) lowest = stops_long n program text h.0 (repeats (layout_after no_lines program).table h.0) come h.1 h.2 lowest refl
stops_wrong n program text NoForm come (inr h) lowest = absurd h
stops_wrong n program text UnknownName come (inr h) lowest = absurd h
stops_wrong n program text OutOfRange come (inr h) lowest = absurd h
stops_wrong n program text UndefinedLabel come (inr h) lowest = absurd h
stops_wrong n program text OutOfReach come (inr h) lowest = absurd h

bad_line_again : (text : List ℕ) (n : ℕ) (e : LineError) → IsBadLine text n e → survey 1 no_lines (lines_of text) ≡ Err (refusal n (code_of e))
bad_line_again text n e b =
    let come = comes b.front b.program b.before in
    let number : 1 + length b.front ≡ n = let k = b.number in omega arith in
    let stops = stops_wrong (1 + length b.front) b.program b.line e come b.wrong b.lowest in
    let there : survey (1 + length b.front) (layout_after no_lines b.program) (b.line ∷ b.rest) ≡ Err (refusal (1 + length b.front) (code_of e)) = rw stops refl in
    ap (survey 1 no_lines) b.all ∙ survey_front 1 no_lines b.front (b.line ∷ b.rest) b.program b.before.read come ∙ there ∙ ap (λ (k : ℕ). Err (refusal k (code_of e))) number

not_given_again : (n : ℕ) (table : Table) (offset : ℕ) (text : List ℕ) (line : Line) (e : LineError) → line_of text ≡ Ok line → piece_of table offset line.statement ≡ Err e → encode_line n table offset text ≡ Err (refusal n (code_of e))
not_given_again n table offset text line e read h = rw (read, h) refl

encode_stops_at : (n : ℕ) (table : Table) (offset : ℕ) (texts : List (List ℕ)) (program : List Line) (front rest : List (ℕ × Line)) (line : ℕ × Line) (pieces : List Piece) (e : LineError)
    → AreRead texts program → placed offset program ≡ front ++ line ∷ rest → AreGiven table front pieces → piece_of table line.0 line.1.statement ≡ Err e → encode n table offset texts ≡ Err (refusal (n + length front) (code_of e))
encode_stops_at n table offset [] [] [] rest line pieces e read all given wrong = cc all
encode_stops_at n table offset [] [] (f ∷ fs) rest line pieces e read all given wrong = cc all
encode_stops_at n table offset [] (l ∷ ls) front rest line pieces e read all given wrong = absurd read
encode_stops_at n table offset (text ∷ texts) [] front rest line pieces e read all given wrong = absurd read
encode_stops_at n table offset (text ∷ texts) (l ∷ ls) [] rest line pieces e read all given wrong =
    let same : line ≡ (offset, l) = cc all in
    let here : piece_of table offset l.statement ≡ Err e = ap (λ (x : ℕ × Line). piece_of table x.0 x.1.statement) (sym same) ∙ wrong in
    rw (not_given_again n table offset text l e read.0 here) (ap (λ (k : ℕ). Err (refusal k (code_of e))) (sym (add-zero n)))
encode_stops_at n table offset (text ∷ texts) (l ∷ ls) (f ∷ fs) rest line [] e read all given wrong = absurd given
encode_stops_at n table offset (text ∷ texts) (l ∷ ls) (f ∷ fs) rest line (p ∷ ps) e read all given wrong =
    let same : f ≡ (offset, l) = cc all in
    let others : placed (end_of l.statement offset) ls ≡ fs ++ line ∷ rest = cc all in
    let here : piece_of table offset l.statement ≡ Ok p = ap (λ (x : ℕ × Line). piece_of table x.0 x.1.statement) (sym same) ∙ given.0 in
    let ends : offset + length p.bytes ≡ end_of l.statement offset = (piece_fits table offset l.statement p here).ends in
    let next = encode_stops_at (n + 1) table (end_of l.statement offset) texts ls fs rest line ps e read.1 others given.1 wrong in
    let number : n + 1 + length fs ≡ n + length (f ∷ fs) = omega arith in
    rw (line_again n table offset text l p read.0 here, ends, next) (ap (λ (k : ℕ). Err (refusal k (code_of e))) number)

bad_operand_again : (text : List ℕ) (n : ℕ) (e : LineError) (b : IsBadOperand text n e) → encode 1 (layout_after no_lines b.program).table first_offset (lines_of text) ≡ Err (refusal n (code_of e))
bad_operand_again text n e b =
    let same = program_table b.table (lines_of text) b.program b.lines b.labels in
    let number : 1 + length b.front ≡ n = let k = b.number in omega arith in
    ap (λ (t : Table). encode 1 t first_offset (lines_of text)) (sym same)
    ∙ encode_stops_at 1 b.table first_offset (lines_of text) b.program b.front b.rest b.line b.pieces e b.lines.read b.all b.before b.wrong
    ∙ ap (λ (k : ℕ). Err (refusal k (code_of e))) number

refused_line : (text : List ℕ) (d : Refusal) → survey 1 no_lines (lines_of text) ≡ Err d → assembly_of text ≡ Err d
unfolding assembly_of
refused_line text d h = rw h refl

refused_operand : (text : List ℕ) (last : Layout) (d : Refusal) → survey 1 no_lines (lines_of text) ≡ Ok last → encode 1 last.table first_offset (lines_of text) ≡ Err d → assembly_of text ≡ Err d
unfolding assembly_of
refused_operand text last d h k = rw (h, k) refl

again_by : (text : List ℕ) (n : ℕ) (e : LineError) → IsBadLine text n e ⊎ IsBadOperand text n e → assembly_of text ≡ Err (refusal n (code_of e))
again_by text n e (inl b) = refused_line text (refusal n (code_of e)) (bad_line_again text n e b)
again_by text n e (inr b) = refused_operand text (layout_after no_lines b.program) (refusal n (code_of e)) (surveyed_program (lines_of text) b.program b.lines) (bad_operand_again text n e b)

pub refusal_complete : (text : List ℕ) (n code : ℕ) → IsRefused text n code → assembly_of text ≡ Err (refusal n code)
refusal_complete text n code r = again_by text n r.0 r.2 ∙ ap (λ (c : ℕ). Err (refusal n c)) (sym r.1)
