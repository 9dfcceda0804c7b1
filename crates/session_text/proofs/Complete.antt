-- Every text of a session is read.
use Rattle.std.proofs.Common.{◌≡◌, ◌∙◌, ℕ, ◌≤◌, ◌+◌, Bool, true, false, None, Ok, ◌⊎◌, inl, inr, List, [], ◌∷◌, ◌++◌, map, length, refl, sym, ap, subst, arith, append_assoc, append-nil}
use Rattle.std.specs.Prelude.{codes, decimal, IsTrue}
use Rattle.std.specs.List.{AllByRecursion}
use Rattle.std.specs.Str.{bytes_eq}
use Rattle.std.proofs.lemmas.Bool.{cases_eq}
use Rattle.std.proofs.lemmas.Fmt.{decimal_digit}
use Rattle.module_text.specs.TextReader.Fields.{IsNumberLine, after_word}
use Rattle.module_text.specs.TextReader.Lines.{lines_of}
use Rattle.module_text.proofs.TextReader.FieldLemmas.{after_word-again, number_line-again}
use Rattle.session_text.specs.Entries.{AreEntries, Entry, MayHave, colon_line, is_in_range, keys_in, lines_in, names_fit}
use Rattle.session_text.specs.FileText.{with_text}
use Rattle.kernel_model.specs.KernelRecord.Ranges.{is_period, is_store_size}
use Rattle.session_text.specs.Ranges.{is_step}
use Rattle.session_text.specs.SessionForm.{AreBareLines, AreClockLines, AreCodeLines, AreOptions, AreSessionLines, IsBare, IsSession, IsVersionLine, code_line}
use Rattle.session_text.specs.SessionOfText.{draft, entry_step, read_on, session_lines, session_of, step, version_line, with_statement}
use Rattle.session_text.specs.Statements.{Statement, File, Task, At, Key, Go, States, is_text}
use Rattle.session_text.specs.declared.drafts.Place.{Place}
use Rattle.session_text.specs.declared.drafts.Place.TheVariants.{Version as AtVersion, Store as AtStore, Machine as AtMachine, Code as AtCode, Resident as AtResident, Debug as AtDebug, Entry as AtEntry, Text as AtText, End as AtEnd}
use Rattle.session_text.specs.declared.sessions.Session.{Session}
use Rattle.session_text.specs.declared.sessions.SessionLine.{SessionLine}
use Rattle.session_text.proofs.Parts.{made, made-entry, with_texts}
use Rattle.session_text.proofs.Sound.{bare_session, clock_session}
use Rattle.session_text.proofs.StatementLines.{statement_of-again}

-- a version line gives its version
pub version_again : (n v : ℕ) (line : List ℕ) → IsVersionLine v line → version_line n line ≡ Ok v
version_again n v line h =
    let low : 1 ≤ v = h.0.0 in
    let high : v ≤ 2 = h.0.1 in
    elim (cases_eq v 1) [
      | inl one ↦
          let e : line ≡ codes "TRIPOS 1" = h.1 ∙ ap (λ (n : ℕ). codes "TRIPOS " ++ decimal n) one ∙ ap (λ (d : List ℕ). codes "TRIPOS " ++ d) (decimal_digit 1 (omega arith)) in
          rw (e, one) refl
      | inr other ↦
          let two : v ≡ 2 = omega arith in
          let e : line ≡ codes "TRIPOS 2" = h.1 ∙ ap (λ (n : ℕ). codes "TRIPOS " ++ decimal n) two ∙ ap (λ (d : List ℕ). codes "TRIPOS " ++ d) (decimal_digit 2 (omega arith)) in
          rw (e, two) refl
    ]

-- ---- a bare machine

-- lines of code and the steps give a session
code_again : (s : Session) (n : ℕ) (code : List SessionLine) (front : List (List ℕ)) (last : List ℕ) (go : ℕ) → AreCodeLines n code front → IsNumberLine (codes "GO ") go last → is_step go ≡ true
    → read_on (draft AtCode s) n (front ++ last ∷ []) ≡ Ok (record s { lines = s.lines ++ code; go = go })
unfolding step
code_again s n [] [] last go h g t =
    let none : after_word (codes ":") last ≡ None = ap (after_word (codes ":")) g.1 in
    rw (none, number_line-again (codes "GO ") is_step n go last g t) (λ i. Ok (record s { lines = sym (append-nil s.lines) i; go = go }))
code_again s n [] (l ∷ ls) last go h g t = absurd h
code_again s n (c ∷ cs) [] last go h g t = absurd h
code_again s n (c ∷ cs) (l ∷ ls) last go h g t =
    let line = h.0 in
    let some = ap (after_word (codes ":")) line.2 ∙ after_word-again (codes ":") line.0 in
    let more = code_again (record s { lines = s.lines ++ code_line n line.1 ∷ [] }) (n + 1) cs ls last go h.1 g t in
    rw (some, line.3, line.4) (more ∙ (λ i. Ok (record s { lines = append_assoc s.lines (code_line n line.1 ∷ []) cs i; go = go })))

-- ---- entries

-- the places where an entry may be
abbrev pub MayHaveEntry : Place → Type 0
MayHaveEntry AtResident = Unit {0}
MayHaveEntry AtDebug = Unit {0}
MayHaveEntry AtEntry = Unit {0}
MayHaveEntry AtText = Unit {0}
MayHaveEntry _ = ⊥

no_colon : (x : Statement) (line : List ℕ) → States x line → after_word (codes ":") line ≡ None
no_colon (File name) line h = ap (after_word (codes ":")) h.1
no_colon (Task id pri stack names) line h = ap (after_word (codes ":")) h.8
no_colon (At step text) line h = ap (after_word (codes ":")) h.3
no_colon (Key step byte) line h = ap (after_word (codes ":")) h.4
no_colon (Go steps) line h = ap (after_word (codes ":")) h.1

-- a statement is no option
no_resident : (x : Statement) (line : List ℕ) → States x line → bytes_eq line (codes "RESIDENT") ≡ false
no_resident (File name) line h = ap (λ l. bytes_eq l (codes "RESIDENT")) h.1
no_resident (Task id pri stack names) line h = ap (λ l. bytes_eq l (codes "RESIDENT")) h.8
no_resident (At step text) line h = ap (λ l. bytes_eq l (codes "RESIDENT")) h.3
no_resident (Key step byte) line h = ap (λ l. bytes_eq l (codes "RESIDENT")) h.4
no_resident (Go steps) line h = ap (λ l. bytes_eq l (codes "RESIDENT")) h.1

no_debug : (x : Statement) (line : List ℕ) → States x line → bytes_eq line (codes "DEBUG") ≡ false
no_debug (File name) line h = ap (λ l. bytes_eq l (codes "DEBUG")) h.1
no_debug (Task id pri stack names) line h = ap (λ l. bytes_eq l (codes "DEBUG")) h.8
no_debug (At step text) line h = ap (λ l. bytes_eq l (codes "DEBUG")) h.3
no_debug (Key step byte) line h = ap (λ l. bytes_eq l (codes "DEBUG")) h.4
no_debug (Go steps) line h = ap (λ l. bytes_eq l (codes "DEBUG")) h.1

-- a statement in its ranges is accepted
entry_again : (s : Session) (n : ℕ) (line : List ℕ) (x : Statement) → States x line → names_fit s.version x ≡ true → is_in_range s.version x ≡ true → entry_step s n line ≡ Ok (with_statement s n x)
entry_again s n line x h f r = rw (statement_of-again s.version line x h, f, r) refl

-- a statement's line is read as one, where it may be
pub enters : (p : Place) (s : Session) (n : ℕ) (line : List ℕ) (x : Statement) → MayHaveEntry p → States x line → step (draft p s) n line ≡ entry_step s n line
unfolding step
enters AtVersion s n line x a h = absurd a
enters AtStore s n line x a h = absurd a
enters AtMachine s n line x a h = absurd a
enters AtCode s n line x a h = absurd a
enters AtResident s n line x a h = rw (no_resident x line h) refl
enters AtDebug s n line x a h = rw (no_debug x line h) refl
enters AtEntry s n line x a h = refl
enters AtText s n line x a h = rw (no_colon x line h) refl
enters AtEnd s n line x a h = absurd a

pub statement_again : (p : Place) (s : Session) (n : ℕ) (line : List ℕ) (x : Statement) → MayHaveEntry p → States x line → names_fit s.version x ≡ true → is_in_range s.version x ≡ true
    → step (draft p s) n line ≡ Ok (with_statement s n x)
statement_again p s n line x a h f r = enters p s n line x a h ∙ entry_again s n line x h f r

-- lines of text go to the last file
texts_again : (s whole : Session) (n m : ℕ) (texts more : List (List ℕ)) → m ≡ n + length texts → AllByRecursion (λ text. IsTrue (is_text text)) texts
    → read_on (draft AtText (record s { lines = with_texts s.lines texts })) m more ≡ Ok whole → read_on (draft AtText s) n (map colon_line texts ++ more) ≡ Ok whole
unfolding step
texts_again s whole n m [] more e h k = let same : n ≡ m = omega arith in rw same k
texts_again s whole n m (text ∷ texts) more e h k =
    let next = texts_again (record s { lines = with_text s.lines text }) whole (n + 1) m texts more (omega arith) h.1 k in
    rw h.0 next

-- what is left behind a statement, with its text
behind_again : (s whole : Session) (n m : ℕ) (x : Statement) (texts more : List (List ℕ)) → MayHave x texts → m ≡ n + 1 + length texts
    → ((p : Place) → MayHaveEntry p → read_on (draft p (record (with_statement s n x).session { lines = with_texts (with_statement s n x).session.lines texts })) m more ≡ Ok whole)
    → read_on (with_statement s n x) (n + 1) (map colon_line texts ++ more) ≡ Ok whole
behind_again s whole n m (File name) texts more h e k = texts_again (with_statement s n (File name)).session whole (n + 1) m texts more e h (k AtText tt)
behind_again s whole n m (Task id pri stack names) [] more h e k = let same : n + 1 ≡ m = omega arith in rw same (k AtEntry tt)
behind_again s whole n m (Task id pri stack names) (text ∷ texts) more h e k = cc h
behind_again s whole n m (At step text) [] more h e k = let same : n + 1 ≡ m = omega arith in rw same (k AtEntry tt)
behind_again s whole n m (At step text) (t ∷ texts) more h e k = cc h
behind_again s whole n m (Key step byte) [] more h e k = let same : n + 1 ≡ m = omega arith in rw same (k AtEntry tt)
behind_again s whole n m (Key step byte) (t ∷ texts) more h e k = cc h
behind_again s whole n m (Go steps) texts more h e k = absurd h

-- entries and the steps give a session
pub entries_again : (s : Session) (p : Place) (n : ℕ) (entries : List Entry) (rest : List (List ℕ)) (last : List ℕ) (go : ℕ) → MayHaveEntry p → AreEntries s.version entries rest
    → IsNumberLine (codes "GO ") go last → is_step go ≡ true → read_on (draft p s) n (rest ++ last ∷ []) ≡ Ok (made s [] n entries go)
entries_again s p n [] rest last go a h g t =
    let one = statement_again p s n last (Go go) a g refl t in
    let none : rest ≡ [] = h in
    rw (none, one) refl
entries_again s p n (entry ∷ entries) rest last go a h g t =
    let e = h.3 in
    let x = entry.statement in
    let m = n + 1 + length entry.texts in
    let one = statement_again p s n e.head x a e.states e.fits e.in_range in
    let lines : rest ++ last ∷ [] ≡ e.head ∷ (map colon_line entry.texts ++ (h.1 ++ last ∷ []))
    = ap (λ (ls : List (List ℕ)). ls ++ last ∷ []) (h.2 ∙ ap (λ (ls : List (List ℕ)). ls ++ h.1) e.all)
    ∙ ap (λ (ls : List (List ℕ)). e.head ∷ ls) (append_assoc (map colon_line entry.texts) h.1 (last ∷ [])) in
    let t1 = record (with_statement s n x).session { lines = with_texts (with_statement s n x).session.lines entry.texts } in
    let more = behind_again s (made s [] n (entry ∷ entries) go) n m x entry.texts (h.1 ++ last ∷ []) e.texts_are refl
    (λ q b. entries_again t1 q m entries h.1 last go b h.4 g t ∙ ap (λ (k : Session). Ok k) (made-entry s n x entry.texts entries go e.texts_are)) in
    rw (lines, one) more

-- ---- the options

-- options and what is behind them
options_again : (version store period : ℕ) (resident debug : Bool) (options more : List (List ℕ)) (whole : Session) → AreOptions resident debug options
    → ((p : Place) → MayHaveEntry p → read_on (draft p (clock_session version store period resident debug)) (4 + length options) more ≡ Ok whole)
    → read_on (draft AtResident (clock_session version store period false false)) 4 (options ++ more) ≡ Ok whole
unfolding step
options_again version store period true true options more whole h k =
    let is : options ≡ codes "RESIDENT" ∷ codes "DEBUG" ∷ [] = h in
    let next = subst (λ (os : List (List ℕ)). read_on (draft AtEntry (clock_session version store period true true)) (4 + length os) more ≡ Ok whole) is (k AtEntry tt) in
    rw is next
options_again version store period true false options more whole h k =
    let is : options ≡ codes "RESIDENT" ∷ [] = h in
    let next = subst (λ (os : List (List ℕ)). read_on (draft AtDebug (clock_session version store period true false)) (4 + length os) more ≡ Ok whole) is (k AtDebug tt) in
    rw is next
options_again version store period false true options more whole h k = absurd h
options_again version store period false false options more whole h k =
    let is : options ≡ [] = h in
    let next = subst (λ (os : List (List ℕ)). read_on (draft AtResident (clock_session version store period false false)) (4 + length os) more ≡ Ok whole) is (k AtResident tt) in
    rw is next

-- ---- the whole text

-- a bare session is the one that reading makes of its parts
bare_is : (s : Session) → IsBare s → record (bare_session s.version s.store) { lines = s.lines; go = s.go } ≡ s
bare_is s h = λ i. record {
  version = s.version;
  store = s.store;
  period = sym h.period i;
  bare = sym h.bare i;
  resident = sym h.resident i;
  debug = sym h.debug i;
  lines = s.lines;
  keys = sym h.keys i;
  go = s.go;
}

-- a session with a clock is the one that reading makes of its parts
clock_is : (s : Session) (h : s.bare ≡ false) (m : ℕ) (entries : List Entry) → s.lines ≡ lines_in m entries → s.keys ≡ keys_in entries
    → made (clock_session s.version s.store s.period s.resident s.debug) [] m entries s.go ≡ s
clock_is s h m entries l k = λ i. record {
  version = s.version;
  store = s.store;
  period = s.period;
  bare = sym h i;
  resident = s.resident;
  debug = s.debug;
  lines = sym l i;
  keys = sym k i;
  go = s.go;
}

-- the lines from the third on give the session
bare_again : (s : Session) (machine : List (List ℕ)) (go : List ℕ) → AreBareLines s machine → IsNumberLine (codes "GO ") s.go go → is_step s.go ≡ true
    → read_on (draft AtMachine (clock_session s.version s.store 0 false false)) 3 (machine ++ go ∷ []) ≡ Ok s
unfolding step
bare_again s machine go h g t =
    let code = code_again (bare_session s.version s.store) 4 s.lines h.code go s.go h.code_lines g t in
    rw h.all (code ∙ ap (λ (k : Session). Ok k) (bare_is s h.machine))

-- a clock is no bare machine
no_bare : (period : ℕ) (line : List ℕ) → IsNumberLine (codes "TICK ") period line → bytes_eq line (codes "BARE") ≡ false
no_bare period line h = ap (λ l. bytes_eq l (codes "BARE")) h.1

clock_again : (s : Session) (machine : List (List ℕ)) (go : List ℕ) → AreClockLines s machine → IsNumberLine (codes "GO ") s.go go → is_step s.go ≡ true
    → read_on (draft AtMachine (clock_session s.version s.store 0 false false)) 3 (machine ++ go ∷ []) ≡ Ok s
unfolding step
clock_again s machine go h g t =
    let tick = number_line-again (codes "TICK ") is_period 3 s.period h.tick h.tick_line h.period in
    let same = clock_is s h.clock (4 + length h.options) h.entries h.lines_are h.keys_are in
    let rest = options_again s.version s.store s.period s.resident s.debug h.options (h.rest ++ go ∷ []) s h.option_lines
    (λ p a. entries_again (clock_session s.version s.store s.period s.resident s.debug) p (4 + length h.options) h.entries h.rest go s.go a h.entry_lines g t ∙ ap (λ (k : Session). Ok k) same) in
    let lines : machine ++ go ∷ [] ≡ h.tick ∷ (h.options ++ (h.rest ++ go ∷ []))
    = ap (λ (ls : List (List ℕ)). ls ++ go ∷ []) h.all ∙ ap (λ (ls : List (List ℕ)). h.tick ∷ ls) (append_assoc h.options h.rest (go ∷ [])) in
    rw (lines, no_bare s.period h.tick h.tick_line, tick) rest

machine_again : (s : Session) (machine : List (List ℕ)) (go : List ℕ) → AreBareLines s machine ⊎ AreClockLines s machine → IsNumberLine (codes "GO ") s.go go → is_step s.go ≡ true
    → read_on (draft AtMachine (clock_session s.version s.store 0 false false)) 3 (machine ++ go ∷ []) ≡ Ok s
machine_again s machine go (inl h) g t = bare_again s machine go h g t
machine_again s machine go (inr h) g t = clock_again s machine go h g t

-- the lines of a session give it
pub complete_lines : (lines : List (List ℕ)) (s : Session) → AreSessionLines s lines → session_lines lines ≡ Ok s
unfolding step
complete_lines lines s h =
    let v = version_again 1 s.version h.version h.version_line in
    let w = number_line-again (codes "STORE ") (is_store_size s.version) 2 s.store h.store h.store_line h.store_size in
    rw (h.all, v, w) (machine_again s h.machine h.go h.machine_lines h.go_line h.steps)

-- a text of a session gives it
pub complete : (text : List ℕ) (s : Session) → IsSession text s → session_of text ≡ Ok s
complete text s h = complete_lines (lines_of text) s h
