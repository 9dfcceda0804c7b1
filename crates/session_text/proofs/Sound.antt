-- What is read is a session's text.
use Rattle.std.proofs.Common.{◌≡◌, ◌∙◌, ℕ, ◌<◌, ◌≤◌, ◌+◌, Bool, true, false, cond, Option, Some, None, Result, Ok, Err, inl, inr, List, [], ◌∷◌, ◌++◌, map, length, refl, sym, ap, subst, arith, append_assoc, append-nil}
use Rattle.std.specs.Prelude.{codes, IsTrue}
use Rattle.std.specs.Option.{ok_or, option_map_or}
use Rattle.std.specs.Str.{bytes_eq}
use Rattle.std.proofs.lemmas.Fmt.{decimal_digit}
use Rattle.std.proofs.lemmas.Slice.Eq.{bytes_eq-Decides}
use Rattle.hex.specs.Hex.{decode_of}
use Rattle.hex.specs.declared.error.FromHexError.{FromHexError}
use Rattle.module_text.specs.TextReader.Fields.{IsNumberLine, after_word, number_line}
use Rattle.module_text.specs.TextReader.Lines.{lines_of}
use Rattle.module_text.specs.TextReader.Refusal.{Refusal, refusal}
use Rattle.module_text.specs.TextReader.Steps.{◌>>=◌}
use Rattle.module_text.proofs.TextReader.FieldLemmas.{after_word-ok, number_line-ok}
use Rattle.module_text.proofs.TextReader.StepLemmas.{Ok-same, bind-ok, guard-ok, ok_or-ok}
use Rattle.session_text.specs.Entries.{MayHave, colon_line, is_in_range, lines_in, names_fit}
use Rattle.session_text.specs.FileText.{with_text}
use Rattle.kernel_model.specs.KernelRecord.Ranges.{is_period, is_store_size}
use Rattle.session_text.specs.Ranges.{is_step}
use Rattle.session_text.specs.SessionForm.{AreOptions, AreSessionLines, IsSession, IsVersionLine, code_line}
use Rattle.session_text.specs.SessionOfText.{bytes_or_refusal, bytes_step, draft, entry_step, file_step, first_draft, go_step, read_on, session_lines, session_of, statement_step, step, store_step, tick_step, version_line, version_step, with_statement}
use Rattle.session_text.specs.Statements.{Statement, File, Task, At, Key, Go, States, is_text, statement_of}
use Rattle.session_text.specs.declared.drafts.Draft.{Draft}
use Rattle.session_text.specs.declared.drafts.Place.TheVariants.{Store as AtStore, Machine as AtMachine, Code as AtCode, Resident as AtResident, Debug as AtDebug, Entry as AtEntry, Text as AtText, End as AtEnd}
use Rattle.session_text.specs.declared.sessions.Session.{Session}
use Rattle.session_text.proofs.Parts.{HasCode, HasRest, entry_place, made, made-entry, with_texts}
use Rattle.session_text.proofs.StatementLines.{statement_of-again, statement_of-ok}

-- ---- lines of words

-- a line that is this version's
version_is : (line : List ℕ) (n v : ℕ) → n < 10 → 1 ≤ n → n ≤ 2 → line ≡ codes "TRIPOS " ++ (48 + n) ∷ [] → n ≡ v → IsVersionLine v line
version_is line n v digit low high e same =
    subst (λ (x : ℕ). IsVersionLine x line) same ((low, high), e ∙ ap (λ (d : List ℕ). codes "TRIPOS " ++ d) (sym (decimal_digit n digit)))

-- a line that gave a version, by the two tests
version_by : (n : ℕ) (line : List ℕ) (v : ℕ) (one two : Bool) → bytes_eq line (codes "TRIPOS 1") ≡ one → bytes_eq line (codes "TRIPOS 2") ≡ two
    → cond one (Ok 1) (cond two (Ok 2) (Err (refusal n 1))) ≡ Ok v → IsVersionLine v line
version_by n line v true two e f g =
    version_is line 1 v (omega arith) (omega arith) (omega arith) ((bytes_eq-Decides line (codes "TRIPOS 1")).0 e) cc
version_by n line v false true e f g =
    version_is line 2 v (omega arith) (omega arith) (omega arith) ((bytes_eq-Decides line (codes "TRIPOS 2")).0 f) cc
version_by n line v false false e f g = cc

-- a line that gave a version is its line
pub version_ok : (n : ℕ) (line : List ℕ) (v : ℕ) → version_line n line ≡ Ok v → IsVersionLine v line
version_ok n line v e = version_by n line v (bytes_eq line (codes "TRIPOS 1")) (bytes_eq line (codes "TRIPOS 2")) refl refl e

-- ---- a bare machine

-- digits that gave bytes
bytes_ok : (n : ℕ) (r : Result (List ℕ) FromHexError) (bytes : List ℕ) → bytes_or_refusal n r ≡ Ok bytes → r ≡ Ok bytes
bytes_ok n (Ok b) bytes e = cc
bytes_ok n (Err d) bytes e = cc

-- the end of a text
ended_ok : (s whole : Session) (n : ℕ) (lines : List (List ℕ)) → read_on (draft AtEnd s) n lines ≡ Ok whole → (lines ≡ []) × (s ≡ whole)
unfolding step
ended_ok s whole n [] e = (refl, Ok-same {E = Refusal} s whole e)
ended_ok s whole n (line ∷ lines) e = cc e

-- the steps, and nothing after them
go_ok : (s whole : Session) (n : ℕ) (line : List ℕ) (lines : List (List ℕ)) → (go_step s n line >>= λ next. read_on next (n + 1) lines) ≡ Ok whole → HasCode s n (line ∷ lines) whole
go_ok s whole n line lines e =
    let a = bind-ok (go_step s n line) (λ next. read_on next (n + 1) lines) whole e in
    let b = bind-ok (number_line (codes "GO ") is_step n line) (λ go. Ok (draft AtEnd (record s { go = go }))) a.0 a.1 in
    let g = number_line-ok (codes "GO ") is_step n line b.0 b.1 in
    let next : draft AtEnd (record s { go = b.0 }) ≡ a.0 = Ok-same {E = Refusal} (draft AtEnd (record s { go = b.0 })) a.0 b.2 in
    let end = ended_ok (record s { go = b.0 }) whole (n + 1) lines (subst (λ (d : Draft). read_on d (n + 1) lines ≡ Ok whole) (sym next) a.2) in
    record {
      code = [];
      front = [];
      last = line;
      go = b.0;
      all = ap (λ (ls : List (List ℕ)). line ∷ ls) end.0;
      code_lines = tt;
      go_line = g.0;
      steps = g.1;
      is = (λ i. record s { lines = append-nil s.lines i; go = b.0 }) ∙ end.1;
    }

-- a line of code, and what is left
code_more : (s whole : Session) (n : ℕ) (line digits bytes : List ℕ) (lines : List (List ℕ)) → line ≡ codes ":" ++ digits → decode_of digits ≡ Ok bytes
    → HasCode (record s { lines = s.lines ++ code_line n bytes ∷ [] }) (n + 1) lines whole → HasCode s n (line ∷ lines) whole
code_more s whole n line digits bytes lines w d h = record {
  code = code_line n bytes ∷ h.code;
  front = line ∷ h.front;
  last = h.last;
  go = h.go;
  all = ap (λ (ls : List (List ℕ)). line ∷ ls) h.all;
  code_lines = ((digits, bytes, w, d, refl), h.code_lines);
  go_line = h.go_line;
  steps = h.steps;
  is = (λ i. record s { lines = sym (append_assoc s.lines (code_line n bytes ∷ []) h.code) i; go = h.go }) ∙ h.is;
}

code_by : (s whole : Session) (n : ℕ) (line : List ℕ) (lines : List (List ℕ)) (o : Option (List ℕ)) → after_word (codes ":") line ≡ o
    → ((t : Session) → read_on (draft AtCode t) (n + 1) lines ≡ Ok whole → HasCode t (n + 1) lines whole)
    → (option_map_or (bytes_step s n) o (go_step s n line) >>= λ next. read_on next (n + 1) lines) ≡ Ok whole → HasCode s n (line ∷ lines) whole
code_by s whole n line lines None w next e = go_ok s whole n line lines e
code_by s whole n line lines (Some digits) w next e =
    let a = bind-ok (bytes_step s n digits) (λ d. read_on d (n + 1) lines) whole e in
    let b = bind-ok (bytes_or_refusal n (decode_of digits)) (λ bytes. Ok (draft AtCode (record s { lines = s.lines ++ code_line n bytes ∷ [] }))) a.0 a.1 in
    let t = record s { lines = s.lines ++ code_line n b.0 ∷ [] } in
    let same : draft AtCode t ≡ a.0 = Ok-same {E = Refusal} (draft AtCode t) a.0 b.2 in
    code_more s whole n line digits b.0 lines (after_word-ok (codes ":") line digits w) (bytes_ok n (decode_of digits) b.0 b.1)
    (next t (subst (λ (d : Draft). read_on d (n + 1) lines ≡ Ok whole) (sym same) a.2))

code_ok : (s whole : Session) (n : ℕ) (lines : List (List ℕ)) → read_on (draft AtCode s) n lines ≡ Ok whole → HasCode s n lines whole
unfolding step
code_ok s whole n [] e = cc e
code_ok s whole n (line ∷ lines) e = code_by s whole n line lines (after_word (codes ":") line) refl (λ t q. code_ok t whole (n + 1) lines q) e

-- ---- a machine with a clock

-- A statement that was accepted.
pub record IsAccepted (s : Session) (n : ℕ) (line : List ℕ) (next : Draft) : Type 0 where
  pub statement : Statement
  pub states : States statement line
  pub fits : names_fit s.version statement ≡ true
  pub in_range : is_in_range s.version statement ≡ true
  pub is : with_statement s n statement ≡ next

pub fits_by : (b : Bool) (x y : Statement) → cond b (Some x) None ≡ Some y → b ≡ true
fits_by true x y e = refl
fits_by false x y e = cc e

pub entry_step-ok : (s : Session) (n : ℕ) (line : List ℕ) (next : Draft) → entry_step s n line ≡ Ok next → IsAccepted s n line next
entry_step-ok s n line next e =
    let a = bind-ok (ok_or (statement_of s.version line) (refusal n 1)) (statement_step s n) next e in
    let some = ok_or-ok (statement_of s.version line) (refusal n 1) a.0 a.1 in
    let g = guard-ok (is_in_range s.version a.0) (with_statement s n a.0) next (refusal n 2) a.2 in
    let states = statement_of-ok s.version line a.0 some in
    record {
      statement = a.0;
      states = states;
      fits = fits_by (names_fit s.version a.0) a.0 a.0 (sym (statement_of-again s.version line a.0 states) ∙ some);
      in_range = g.0;
      is = g.1;
    }

module _ (whole : Session) (lines : List (List ℕ)) where
  -- what the lines after line n are, at each place before an entry
  abbrev Rests : ℕ → Type 0
  Rests n = (in_file : Bool) (t : Session) → read_on (draft (entry_place in_file) t) n lines ≡ Ok whole → HasRest in_file t n lines whole

  -- an entry, and what is left
  entry_more : (in_file : Bool) (s : Session) (n : ℕ) (line : List ℕ) (x : Statement) → States x line → names_fit s.version x ≡ true → is_in_range s.version x ≡ true
      → (more : Bool) (h : HasRest more (with_statement s n x).session (n + 1) lines whole) → MayHave x h.texts → HasRest in_file s n (line ∷ lines) whole
  entry_more in_file s n line x states fits in_range more h may = record {
    texts = [];
    entries = record { statement = x; texts = h.texts } ∷ h.entries;
    rest = line ∷ (map colon_line h.texts ++ h.rest);
    last = h.last;
    go = h.go;
    m = n;
    all = ap (λ (ls : List (List ℕ)). line ∷ ls) (h.all ∙ sym (append_assoc (map colon_line h.texts) h.rest (h.last ∷ [])));
    texts_are = tt;
    closed = λ e. refl;
    entry_lines = (
      line ∷ map colon_line h.texts,
      h.rest,
      refl,
      record { head = line; all = refl; states = states; fits = fits; in_range = in_range; texts_are = may },
      h.entry_lines,
    );
    go_line = h.go_line;
    steps = h.steps;
    number = omega arith;
    is = sym (made-entry s n x h.texts h.entries h.go may) ∙ ap (λ (k : ℕ). made (with_statement s n x).session h.texts k h.entries h.go) (sym h.number) ∙ h.is;
  }

  -- a statement that was accepted, and what is left
  statement_more : (in_file : Bool) (s : Session) (n : ℕ) (line : List ℕ) (x : Statement) → States x line → names_fit s.version x ≡ true → is_in_range s.version x ≡ true → Rests (n + 1)
      → read_on (with_statement s n x) (n + 1) lines ≡ Ok whole → HasRest in_file s n (line ∷ lines) whole
  statement_more in_file s n line (File name) states fits in_range next e =
      let h = next true (with_statement s n (File name)).session e in
      entry_more in_file s n line (File name) states fits in_range true h h.texts_are
  statement_more in_file s n line (Task id pri stack names) states fits in_range next e =
      let h = next false (with_statement s n (Task id pri stack names)).session e in
      entry_more in_file s n line (Task id pri stack names) states fits in_range false h (h.closed refl)
  statement_more in_file s n line (At step text) states fits in_range next e =
      let h = next false (with_statement s n (At step text)).session e in
      entry_more in_file s n line (At step text) states fits in_range false h (h.closed refl)
  statement_more in_file s n line (Key step byte) states fits in_range next e =
      let h = next false (with_statement s n (Key step byte)).session e in
      entry_more in_file s n line (Key step byte) states fits in_range false h (h.closed refl)
  statement_more in_file s n line (Go go) states fits in_range next e =
      let end = ended_ok (with_statement s n (Go go)).session whole (n + 1) lines e in
      record {
        texts = [];
        entries = [];
        rest = [];
        last = line;
        go = go;
        m = n;
        all = ap (λ (ls : List (List ℕ)). line ∷ ls) end.0;
        texts_are = tt;
        closed = λ f. refl;
        entry_lines = refl;
        go_line = states;
        steps = in_range;
        number = omega arith;
        is = end.1;
      }

  -- a line that is an entry, and what is left
  pub entry_rest : (in_file : Bool) (s : Session) (n : ℕ) (line : List ℕ) → Rests (n + 1) → (entry_step s n line >>= λ next. read_on next (n + 1) lines) ≡ Ok whole → HasRest in_file s n (line ∷ lines) whole
  entry_rest in_file s n line next e =
      let a = bind-ok (entry_step s n line) (λ d. read_on d (n + 1) lines) whole e in
      let x = entry_step-ok s n line a.0 a.1 in
      statement_more in_file s n line x.statement x.states x.fits x.in_range next (subst (λ (d : Draft). read_on d (n + 1) lines ≡ Ok whole) (sym x.is) a.2)

  -- a line of text, and what is left
  text_more : (s : Session) (n : ℕ) (line text : List ℕ) → line ≡ codes ":" ++ text → is_text text ≡ true
      → HasRest true (record s { lines = with_text s.lines text }) (n + 1) lines whole → HasRest true s n (line ∷ lines) whole
  text_more s n line text w t h = record {
    texts = text ∷ h.texts;
    entries = h.entries;
    rest = h.rest;
    last = h.last;
    go = h.go;
    m = h.m;
    all = ap (λ (l : List ℕ). l ∷ lines) w ∙ ap (λ (ls : List (List ℕ)). colon_line text ∷ ls) h.all;
    texts_are = (t, h.texts_are);
    closed = λ f. cc f;
    entry_lines = h.entry_lines;
    go_line = h.go_line;
    steps = h.steps;
    number = let k = h.number in omega arith;
    is = h.is;
  }

  text_by : (s : Session) (n : ℕ) (line : List ℕ) (o : Option (List ℕ)) → after_word (codes ":") line ≡ o → Rests (n + 1)
      → (option_map_or (file_step s n) o (entry_step s n line) >>= λ next. read_on next (n + 1) lines) ≡ Ok whole → HasRest true s n (line ∷ lines) whole
  text_by s n line None w next e = entry_rest true s n line next e
  text_by s n line (Some text) w next e =
      let a = bind-ok (file_step s n text) (λ d. read_on d (n + 1) lines) whole e in
      let t = record s { lines = with_text s.lines text } in
      let g = guard-ok (is_text text) (draft AtText t) a.0 (refusal n 1) a.1 in
      text_more s n line text (after_word-ok (codes ":") line text w) g.0 (next true t (subst (λ (d : Draft). read_on d (n + 1) lines ≡ Ok whole) (sym g.1) a.2))

rest_ok : (whole : Session) (lines : List (List ℕ)) (n : ℕ) (in_file : Bool) (s : Session) → read_on (draft (entry_place in_file) s) n lines ≡ Ok whole → HasRest in_file s n lines whole
unfolding step
rest_ok whole [] n true s e = cc e
rest_ok whole [] n false s e = cc e
rest_ok whole (line ∷ lines) n true s e = text_by whole lines s n line (after_word (codes ":") line) refl (rest_ok whole lines (n + 1)) e
rest_ok whole (line ∷ lines) n false s e = entry_rest whole lines false s n line (rest_ok whole lines (n + 1)) e

-- ---- the options

-- the session of a clock, with nothing in it yet
abbrev pub clock_session : ℕ → ℕ → ℕ → Bool → Bool → Session
clock_session version store period resident debug = record {
  version = version;
  store = store;
  period = period;
  bare = false;
  resident = resident;
  debug = debug;
  lines = [];
  keys = [];
  go = 0;
}

-- lines from line n on that are options, entries and the steps
record HasClock (version store period n : ℕ) (lines : List (List ℕ)) (whole : Session) : Type 0 where
  options : List (List ℕ)
  more : List (List ℕ)
  resident : Bool
  debug : Bool
  m : ℕ
  all : lines ≡ options ++ more
  are : AreOptions resident debug options
  number : m ≡ n + length options
  rest : HasRest false (clock_session version store period resident debug) m more whole

module _ (version store period : ℕ) (whole : Session) where
  -- entries with no more options
  no_more : (resident debug : Bool) (n m : ℕ) (options lines : List (List ℕ)) → AreOptions resident debug options → m ≡ n + length options
      → HasRest false (clock_session version store period resident debug) m lines whole → HasClock version store period n (options ++ lines) whole
  no_more resident debug n m options lines are number h =
      record { options = options; more = lines; resident = resident; debug = debug; m = m; all = refl; are = are; number = number; rest = h }

  debug_by : (n : ℕ) (line : List ℕ) (lines : List (List ℕ)) (b : Bool) → bytes_eq line (codes "DEBUG") ≡ b
      → (cond b (Ok (draft AtEntry (clock_session version store period true true))) (entry_step (clock_session version store period true false) (n + 1) line) >>= λ next. read_on next (n + 1 + 1) lines) ≡ Ok whole
      → HasClock version store period n (codes "RESIDENT" ∷ line ∷ lines) whole
  debug_by n line lines true t e =
      let is : line ≡ codes "DEBUG" = (bytes_eq-Decides line (codes "DEBUG")).0 t in
      let h = rest_ok whole lines (n + 1 + 1) false (clock_session version store period true true) e in
      subst (λ (l : List ℕ). HasClock version store period n (codes "RESIDENT" ∷ l ∷ lines) whole) (sym is)
      (no_more true true n (n + 1 + 1) (codes "RESIDENT" ∷ codes "DEBUG" ∷ []) lines refl (omega arith) h)
  debug_by n line lines false t e =
      let h = entry_rest whole lines false (clock_session version store period true false) (n + 1) line (rest_ok whole lines (n + 1 + 1)) e in
      no_more true false n (n + 1) (codes "RESIDENT" ∷ []) (line ∷ lines) refl (omega arith) h

  debug_ok : (n : ℕ) (lines : List (List ℕ)) → read_on (draft AtDebug (clock_session version store period true false)) (n + 1) lines ≡ Ok whole
      → HasClock version store period n (codes "RESIDENT" ∷ lines) whole
  unfolding step
  debug_ok n [] e = cc e
  debug_ok n (line ∷ lines) e = debug_by n line lines (bytes_eq line (codes "DEBUG")) refl e

  resident_by : (n : ℕ) (line : List ℕ) (lines : List (List ℕ)) (b : Bool) → bytes_eq line (codes "RESIDENT") ≡ b
      → (cond b (Ok (draft AtDebug (clock_session version store period true false))) (entry_step (clock_session version store period false false) n line) >>= λ next. read_on next (n + 1) lines) ≡ Ok whole
      → HasClock version store period n (line ∷ lines) whole
  resident_by n line lines true t e =
      let is : line ≡ codes "RESIDENT" = (bytes_eq-Decides line (codes "RESIDENT")).0 t in
      subst (λ (l : List ℕ). HasClock version store period n (l ∷ lines) whole) (sym is) (debug_ok n lines e)
  resident_by n line lines false t e =
      let h = entry_rest whole lines false (clock_session version store period false false) n line (rest_ok whole lines (n + 1)) e in
      no_more false false n n [] (line ∷ lines) refl (omega arith) h

  resident_ok : (n : ℕ) (lines : List (List ℕ)) → read_on (draft AtResident (clock_session version store period false false)) n lines ≡ Ok whole → HasClock version store period n lines whole
  unfolding step
  resident_ok n [] e = cc e
  resident_ok n (line ∷ lines) e = resident_by n line lines (bytes_eq line (codes "RESIDENT")) refl e

-- ---- the whole text

-- the first two lines
record HasHead (version store : ℕ) (first second : List ℕ) : Type 0 where
  version_line : IsVersionLine version first
  store_line : IsNumberLine (codes "STORE ") store second
  store_size : IsTrue (is_store_size version store)

-- the session of a bare machine, with nothing in it yet
abbrev pub bare_session : ℕ → ℕ → Session
bare_session version store = record (clock_session version store 0 false false) { bare = true }

-- lines of a bare machine behind a head
bare_whole : (version store : ℕ) (first second : List ℕ) (lines : List (List ℕ)) (whole : Session) → HasHead version store first second → HasCode (bare_session version store) 4 lines whole
    → AreSessionLines whole (first ∷ second ∷ codes "BARE" ∷ lines)
bare_whole version store first second lines whole h c =
    subst (λ (s : Session). AreSessionLines s (first ∷ second ∷ codes "BARE" ∷ lines)) c.is (record {
      version = first;
      store = second;
      machine = codes "BARE" ∷ c.front;
      go = c.last;
      all = ap (λ (ls : List (List ℕ)). first ∷ second ∷ codes "BARE" ∷ ls) c.all;
      version_line = h.version_line;
      store_line = h.store_line;
      store_size = h.store_size;
      machine_lines = inl (record { code = c.front; all = refl; code_lines = c.code_lines; machine = record { bare = refl; period = refl; resident = refl; debug = refl; keys = refl } });
      go_line = c.go_line;
      steps = c.steps;
    })

-- lines of a machine with a clock behind a head
clock_whole : (version store period : ℕ) (first second tick : List ℕ) (lines : List (List ℕ)) (whole : Session) → HasHead version store first second → IsNumberLine (codes "TICK ") period tick → IsTrue (is_period period)
    → HasClock version store period 4 lines whole → AreSessionLines whole (first ∷ second ∷ tick ∷ lines)
clock_whole version store period first second tick lines whole h t p c =
    let r = c.rest in
    let none : r.texts ≡ [] = r.closed refl in
    let m : r.m ≡ 4 + length c.options = let a = c.number in let b = r.number in omega (arith, ap length none) in
    let more : c.more ≡ r.rest ++ r.last ∷ [] = r.all ∙ ap (λ (ts : List (List ℕ)). map colon_line ts ++ (r.rest ++ r.last ∷ [])) none in
    let lines_are = ap (λ (ts : List (List ℕ)). with_texts [] ts ++ lines_in r.m r.entries) none in
    subst (λ (s : Session). AreSessionLines s (first ∷ second ∷ tick ∷ lines)) r.is (record {
      version = first;
      store = second;
      machine = tick ∷ (c.options ++ r.rest);
      go = r.last;
      all = ap (λ (ls : List (List ℕ)). first ∷ second ∷ tick ∷ ls) (c.all ∙ ap (λ (ls : List (List ℕ)). c.options ++ ls) more ∙ sym (append_assoc c.options r.rest (r.last ∷ [])));
      version_line = h.version_line;
      store_line = h.store_line;
      store_size = h.store_size;
      machine_lines = inr (record {
        tick = tick;
        options = c.options;
        rest = r.rest;
        entries = r.entries;
        all = refl;
        clock = refl;
        tick_line = t;
        period = p;
        option_lines = c.are;
        entry_lines = r.entry_lines;
        lines_are = lines_are ∙ ap (λ (k : ℕ). lines_in k r.entries) m;
        keys_are = refl;
      });
      go_line = r.go_line;
      steps = r.steps;
    })

module _ (version store : ℕ) (first second : List ℕ) (whole : Session) (h : HasHead version store first second) where
  machine_by : (line : List ℕ) (lines : List (List ℕ)) (b : Bool) → bytes_eq line (codes "BARE") ≡ b
      → (cond b (Ok (draft AtCode (bare_session version store))) (tick_step (clock_session version store 0 false false) 3 line) >>= λ next. read_on next 4 lines) ≡ Ok whole
      → AreSessionLines whole (first ∷ second ∷ line ∷ lines)
  machine_by line lines true t e =
      let is : line ≡ codes "BARE" = (bytes_eq-Decides line (codes "BARE")).0 t in
      subst (λ (l : List ℕ). AreSessionLines whole (first ∷ second ∷ l ∷ lines)) (sym is) (bare_whole version store first second lines whole h (code_ok (bare_session version store) whole 4 lines e))
  machine_by line lines false t e =
      let s = clock_session version store 0 false false in
      let a = bind-ok (tick_step s 3 line) (λ next. read_on next 4 lines) whole e in
      let b = bind-ok (number_line (codes "TICK ") is_period 3 line) (λ period. Ok (draft AtResident (clock_session version store period false false))) a.0 a.1 in
      let g = number_line-ok (codes "TICK ") is_period 3 line b.0 b.1 in
      let next : draft AtResident (clock_session version store b.0 false false) ≡ a.0 = Ok-same {E = Refusal} (draft AtResident (clock_session version store b.0 false false)) a.0 b.2 in
      clock_whole version store b.0 first second line lines whole h g.0 g.1 (resident_ok version store b.0 whole 4 lines (subst (λ (d : Draft). read_on d 4 lines ≡ Ok whole) (sym next) a.2))

  machine_ok : (lines : List (List ℕ)) → read_on (draft AtMachine (clock_session version store 0 false false)) 3 lines ≡ Ok whole → AreSessionLines whole (first ∷ second ∷ lines)
  unfolding step
  machine_ok [] e = cc e
  machine_ok (line ∷ lines) e = machine_by line lines (bytes_eq line (codes "BARE")) refl e

store_ok : (version : ℕ) (first : List ℕ) (whole : Session) (lines : List (List ℕ)) → IsVersionLine version first → read_on (draft AtStore (clock_session version 0 0 false false)) 2 lines ≡ Ok whole
    → AreSessionLines whole (first ∷ lines)
unfolding step
store_ok version first whole [] v e = cc e
store_ok version first whole (line ∷ lines) v e =
    let s = clock_session version 0 0 false false in
    let a = bind-ok (store_step s 2 line) (λ next. read_on next 3 lines) whole e in
    let b = bind-ok (number_line (codes "STORE ") (is_store_size version) 2 line) (λ store. Ok (draft AtMachine (clock_session version store 0 false false))) a.0 a.1 in
    let g = number_line-ok (codes "STORE ") (is_store_size version) 2 line b.0 b.1 in
    let next : draft AtMachine (clock_session version b.0 0 false false) ≡ a.0 = Ok-same {E = Refusal} (draft AtMachine (clock_session version b.0 0 false false)) a.0 b.2 in
    machine_ok version b.0 first line whole (record { version_line = v; store_line = g.0; store_size = g.1 }) lines (subst (λ (d : Draft). read_on d 3 lines ≡ Ok whole) (sym next) a.2)

-- lines that gave a session are its lines
pub sound_lines : (lines : List (List ℕ)) (s : Session) → session_lines lines ≡ Ok s → AreSessionLines s lines
unfolding step
sound_lines [] s e = cc e
sound_lines (line ∷ lines) s e =
    let a = bind-ok (version_step first_draft.session 1 line) (λ next. read_on next 2 lines) s e in
    let b = bind-ok (version_line 1 line) (λ version. Ok (draft AtStore (clock_session version 0 0 false false))) a.0 a.1 in
    let next : draft AtStore (clock_session b.0 0 0 false false) ≡ a.0 = Ok-same {E = Refusal} (draft AtStore (clock_session b.0 0 0 false false)) a.0 b.2 in
    store_ok b.0 line s lines (version_ok 1 line b.0 b.1) (subst (λ (d : Draft). read_on d 2 lines ≡ Ok s) (sym next) a.2)

-- a text that gave a session is a text of it
pub sound : (text : List ℕ) (s : Session) → session_of text ≡ Ok s → IsSession text s
sound text s e = sound_lines (lines_of text) s e
