-- What the lines give, line by line.
use Rattle.std.proofs.Common.{◌≡◌, ◌∙◌, ℕ, ◌+◌, ◌*◌, ◌≤◌, Result, Ok, Err, List, [], ◌∷◌, ◌++◌, length, refl, sym, ap, subst, arith, add-zero, append_assoc, length-append}
use Rattle.std.specs.Prelude.{option_to_list}
use Rattle.std.specs.List.{AllByRecursion}
use Rattle.assembly.specs.AssemblyText.Encoding.{Code, code_of, encode, encode_line, joined, no_code}
use Rattle.assembly.specs.AssemblyText.Labels.{Table}
use Rattle.assembly.specs.AssemblyText.Pieces.{piece_of}
use Rattle.assembly.specs.AssemblyText.Places.{end_of, hunk_size, most_words, pairs_of}
use Rattle.assembly.specs.AssemblyText.LineText.{line_of}
use Rattle.assembly.specs.AssemblyText.Refusal.{at_line}
use Rattle.module_text.specs.TextReader.Refusal.{Refusal}
use Rattle.module_text.specs.TextReader.Steps.{◌>>=◌}
use Rattle.assembly.specs.AssemblyText.Survey.{Layout, survey}
use Rattle.assembly.specs.declared.assembly_text.pieces.Piece.{Piece}
use Rattle.assembly.specs.declared.assembly_text.statements.Line.{Line}
use Rattle.assembly.proofs.AssemblyText.PieceFits.{PieceFits, piece_fits}
use Rattle.module_text.proofs.TextReader.StepLemmas.{bind-ok}
use Rattle.assembly.proofs.AssemblyText.LineSteps.{at_line_ok}
use Rattle.assembly.proofs.AssemblyText.SurveyLemmas.{Surveys, survey_ok}

-- code before what a reading gives
abbrev pub after_code : Code → Result Code Refusal → Result Code Refusal
after_code front read = read >>= λ more. Ok (joined front more)

joined_joined : (a b c : Code) → joined a (joined b c) ≡ joined (joined a b) c
joined_joined a b c =
    let bytes : a.bytes ++ (b.bytes ++ c.bytes) ≡ (a.bytes ++ b.bytes) ++ c.bytes = sym (append_assoc a.bytes b.bytes c.bytes) in
    let relocations : a.relocations ++ (b.relocations ++ c.relocations) ≡ (a.relocations ++ b.relocations) ++ c.relocations = sym (append_assoc a.relocations b.relocations c.relocations) in
    let pairs : a.pairs ++ (b.pairs ++ c.pairs) ≡ (a.pairs ++ b.pairs) ++ c.pairs = sym (append_assoc a.pairs b.pairs c.pairs) in
    λ i. record { bytes = bytes i; relocations = relocations i; pairs = pairs i }

-- one more line is one more piece
after_more : (front piece : Code) (read : Result Code Refusal) → after_code front (read >>= λ more. Ok (joined piece more)) ≡ after_code (joined front piece) read
after_more front piece (Ok code) = ap (λ c. Ok c) (joined_joined front piece code)
after_more front piece (Err d) = refl

pub encode_more : (front : Code) (n : ℕ) (table : Table) (offset : ℕ) (text : List ℕ) (texts : List (List ℕ)) (piece : Piece) → encode_line n table offset text ≡ Ok piece
    → after_code front (encode n table offset (text ∷ texts)) ≡ after_code (joined front (code_of piece)) (encode (n + 1) table (offset + length piece.bytes) texts)
encode_more front n table offset text texts piece e =
    rw e (after_more front (code_of piece) (encode (n + 1) table (offset + length piece.bytes) texts))

pub encode_line_ok : (n : ℕ) (table : Table) (offset : ℕ) (text : List ℕ) (piece : Piece) → encode_line n table offset text ≡ Ok piece → (line : Line) × (line_of text ≡ Ok line) × (piece_of table offset line.statement ≡ Ok piece)
encode_line_ok n table offset text piece e =
    let a = bind-ok (at_line n (line_of text)) (λ line. at_line n (piece_of table offset line.statement)) piece e in
    (a.0, at_line_ok n (line_of text) a.0 a.1, at_line_ok n (piece_of table offset a.0.statement) piece a.2)

-- the lines from line n on, the first of them at the offset, have been surveyed
pub record IsSurveyed (n offset : ℕ) (lines : List (List ℕ)) : Type 0 where
  pub layout : Layout
  pub last : Layout
  pub begins : layout.offset ≡ offset
  pub all : survey n layout lines ≡ Ok last

-- a hunk within its limit ends early
pub low_end : (offset pairs : ℕ) → hunk_size offset pairs ≤ most_words → offset ≤ 262144
low_end offset pairs h = omega arith

surveyed_size : (layout next : Layout) (text : List ℕ) → Surveys layout next text → hunk_size next.offset next.pairs ≤ most_words
surveyed_size layout next text s = subst (λ (l : Layout). hunk_size l.offset l.pairs ≤ most_words) (sym s.after) s.comes_next.fits

-- what a surveyed line gives ends where the next line begins
pub line_fits : (n : ℕ) (table : Table) (layout next : Layout) (text : List ℕ) (piece : Piece) → Surveys layout next text → encode_line n table layout.offset text ≡ Ok piece
    → (pairs : ℕ) × PieceFits layout.offset next.offset pairs piece × (next.pairs ≡ layout.pairs + pairs)
line_fits n table layout next text piece s e =
    let p = encode_line_ok n table layout.offset text piece e in
    let same : p.0 ≡ s.line = let a = p.1 in let b = s.read in cc in
    let fits = piece_fits table layout.offset p.0.statement piece p.2 in (
      pairs_of p.0.statement,
      subst (λ (end : ℕ). PieceFits layout.offset end (pairs_of p.0.statement) piece) (ap (λ (l : Line). end_of l.statement layout.offset) same ∙ sym (ap (λ (l : Layout). l.offset) s.after)) fits,
      ap (λ (l : Layout). l.pairs) s.after ∙ ap (λ (l : Line). layout.pairs + pairs_of l.statement) (sym same),
    )

pub surveyed_more : (n : ℕ) (table : Table) (offset : ℕ) (text : List ℕ) (texts : List (List ℕ)) (piece : Piece) → IsSurveyed n offset (text ∷ texts) → encode_line n table offset text ≡ Ok piece
    → IsSurveyed (n + 1) (offset + length piece.bytes) texts × (offset + length piece.bytes ≤ 262144)
surveyed_more n table offset text texts piece h e =
    let s = survey_ok n h.layout h.last text texts h.all in
    let p = line_fits n table h.layout s.0 text piece s.1 (rw h.begins e) in
    let ends : s.0.offset ≡ offset + length piece.bytes = sym p.1.ends ∙ ap (λ (o : ℕ). o + length piece.bytes) h.begins in
    let next_low = low_end s.0.offset s.0.pairs (surveyed_size h.layout s.0 text s.1) in
    (record { layout = s.0; last = h.last; begins = ends; all = s.2 }, rw (← ends) next_low)

-- one turn of the loop over the lines
pub encode_step : (front added : Code) (n offset len : ℕ) (table : Table) (line : List ℕ) (rest others : List (List ℕ)) (piece : Piece) (all : Result Code Refusal)
    → after_code front (encode n table offset rest) ≡ all → rest ≡ line ∷ others → encode_line n table offset line ≡ Ok piece → added ≡ joined front (code_of piece) → len ≡ length piece.bytes
    → after_code added (encode (n + 1) table (offset + len) others) ≡ all
encode_step front added n offset len table line rest others piece all so_far split e is_added is_len =
    rw (is_added, is_len) (sym (encode_more front n table offset line others piece e) ∙ ap (λ (ls : List (List ℕ)). after_code front (encode n table offset ls)) (sym split) ∙ so_far)

pub surveyed_step : (n offset len : ℕ) (table : Table) (line : List ℕ) (rest others : List (List ℕ)) (piece : Piece)
    → IsSurveyed n offset rest → rest ≡ line ∷ others → encode_line n table offset line ≡ Ok piece → len ≡ length piece.bytes
    → IsSurveyed (n + 1) (offset + len) others × (offset + len ≤ 262144)
surveyed_step n offset len table line rest others piece so_far split e is_len =
    rw is_len (surveyed_more n table offset line others piece (subst (λ (ls : List (List ℕ)). IsSurveyed n offset ls) split so_far) e)

-- What code is that lies between two layouts, beside its bytes: it leads from the one to the other, and what it relocates
-- is inside.
pub record CodeFits (from to : Layout) (code : Code) : Type 0 where
  pub ends : from.offset + length code.bytes ≡ to.offset
  pub counts : from.pairs + length code.pairs ≡ to.pairs
  pub inside : AllByRecursion (λ r. 4 * r + 4 ≤ to.offset) code.relocations
  pub few : 4 * length code.relocations ≤ length code.bytes

within : (end last : ℕ) (rs : List ℕ) → end ≤ last → AllByRecursion (λ r. 4 * r + 4 ≤ end) rs → AllByRecursion (λ r. 4 * r + 4 ≤ last) rs
within end last [] h all = tt
within end last (r ∷ rs) h all = let here = all.0 in (omega arith, within end last rs h all.1)

all_append : (last : ℕ) (rs ss : List ℕ) → AllByRecursion (λ r. 4 * r + 4 ≤ last) rs → AllByRecursion (λ r. 4 * r + 4 ≤ last) ss → AllByRecursion (λ r. 4 * r + 4 ≤ last) (rs ++ ss)
all_append last [] ss h k = k
all_append last (r ∷ rs) ss h k = (h.0, all_append last rs ss h.1 k)

code_more : (layout next last : Layout) (pairs : ℕ) (p : Piece) (code : Code) → PieceFits layout.offset next.offset pairs p → next.pairs ≡ layout.pairs + pairs → CodeFits next last code → CodeFits layout last (joined (code_of p) code)
code_more layout next last pairs p code h is_pairs k = record {
  ends = let a = h.ends in let b = k.ends in omega (arith, length-append p.bytes code.bytes);
  counts = let a = h.counts in let b = k.counts in omega (arith, length-append (option_to_list p.pair) code.pairs);
  inside = let b = k.ends in all_append last.offset (option_to_list p.relocation) code.relocations (within next.offset last.offset (option_to_list p.relocation) (omega arith) h.inside) k.inside;
  few = let a = h.few in let b = k.few in omega (arith, length-append p.bytes code.bytes, length-append (option_to_list p.relocation) code.relocations);
}

nothing_fits : (layout last : Layout) (code : Code) → layout ≡ last → no_code ≡ code → CodeFits layout last code
nothing_fits layout last code e f =
    let fits : CodeFits layout layout no_code = record { ends = add-zero layout.offset; counts = add-zero layout.pairs; inside = tt; few = omega arith } in
    subst (λ (c : Code). CodeFits layout last c) f (subst (λ (l : Layout). CodeFits layout l no_code) e fits)

-- the survey and what the lines give agree
pub encode_fits : (n : ℕ) (table : Table) (layout last : Layout) (texts : List (List ℕ)) (code : Code) → survey n layout texts ≡ Ok last → encode n table layout.offset texts ≡ Ok code → CodeFits layout last code
encode_fits n table layout last [] code e f =
    let same : layout ≡ last = cc e in
    let none : no_code ≡ code = cc f in
    nothing_fits layout last code same none
encode_fits n table layout last (text ∷ texts) code e f =
    let s = survey_ok n layout last text texts e in
    let a = bind-ok (encode_line n table layout.offset text) (λ piece. encode (n + 1) table (layout.offset + length piece.bytes) texts >>= λ more. Ok (joined (code_of piece) more)) code f in
    let b = bind-ok (encode (n + 1) table (layout.offset + length a.0.bytes) texts) (λ more. Ok (joined (code_of a.0) more)) code a.2 in
    let p = line_fits n table layout s.0 text a.0 s.1 a.1 in
    let rest = encode_fits (n + 1) table s.0 last texts b.0 s.2 (ap (λ (o : ℕ). encode (n + 1) table o texts) (sym p.1.ends) ∙ b.1) in
    let made : joined (code_of a.0) b.0 ≡ code = let m = b.2 in cc in
    subst (λ (c : Code). CodeFits layout last c) made (code_more layout s.0 last p.0 a.0 b.0 p.1 p.2 rest)

-- a text that was surveyed makes no hunk too long
pub survey_fits : (n : ℕ) (layout last : Layout) (texts : List (List ℕ)) → hunk_size layout.offset layout.pairs ≤ most_words → survey n layout texts ≡ Ok last → hunk_size last.offset last.pairs ≤ most_words
survey_fits n layout last [] h e =
    let same : layout ≡ last = cc e in
    subst (λ (l : Layout). hunk_size l.offset l.pairs ≤ most_words) same h
survey_fits n layout last (text ∷ texts) h e =
    let s = survey_ok n layout last text texts e in
    survey_fits (n + 1) s.0 last texts (surveyed_size layout s.0 text s.1) s.2
