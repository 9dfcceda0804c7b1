-- A session that was read is within the rules.
use Rattle.std.proofs.Common.{◌≡◌, ℕ, ◌+◌, ◌==◌, ◌||◌, ◌⊎◌, inl, inr, Bool, true, false, Result, Ok, Err, List, [], ◌∷◌, ◌++◌, map, length, nat_le, refl, sym, subst, arith}
use Rattle.std.specs.Prelude.{IfOk}
use Rattle.std.specs.Char.{is_ascii_graphic}
use Rattle.std.specs.List.{AllByRecursion}
use Rattle.std.proofs.lemmas.Bool.{and_parts}
use Rattle.std.proofs.lemmas.Bool.Decides.{nat_tests}
use Rattle.hex.proofs.HexLemmas.{decode_of-ok}
use Rattle.module_text.specs.TextReader.Answers.{Gives}
use Rattle.module_text.specs.TextReader.Lines.{lines_of, text_of_lines}
use Rattle.module_text.specs.declared.text_reader.ends.TextEnd.{TextEnd}
use Rattle.session_text.specs.Canonical.{IsLawful, IsLawfulForm, IsLawfulKey, IsLawfulMachine}
use Rattle.session_text.specs.Entries.{AreEntries, Entry, MayHave, is_in_range, keys_in, lines_in, names_fit, statement_keys, statement_lines}
use Rattle.session_text.specs.Ranges.{is_step, most_names}
use Rattle.session_text.specs.SessionForm.{AreBareLines, AreClockLines, AreCodeLines, AreOptions, AreSessionLines}
use Rattle.session_text.specs.SessionOfText.{session_of}
use Rattle.session_text.specs.Statements.{Statement, File, Task, At, Key, Go, States, is_text}
use Rattle.session_text.specs.declared.sessions.Session.{Session}
use Rattle.session_text.specs.declared.sessions.SessionLine.{SessionLine}
use Rattle.word_store.proofs.Elements.{all-append}
use Rattle.session_text.proofs.Sound.{sound}

-- ---- a bare machine

code_is_lawful : (version n : ℕ) (code : List SessionLine) (lines : List (List ℕ)) → AreCodeLines n code lines → AllByRecursion (λ line. IsLawfulForm true version line.form) code
code_is_lawful version n [] lines h = tt
code_is_lawful version n (c ∷ cs) [] h = absurd h
code_is_lawful version n (c ∷ cs) (l ∷ ls) h =
    let line = h.0 in
    (subst (λ (x : SessionLine). IsLawfulForm true version x.form) (sym line.4) (decode_of-ok line.0 line.1 line.3).3, code_is_lawful version (n + 1) cs ls h.1)

-- ---- a machine with a clock

abbrev LineIsLawful : ℕ → SessionLine → Type 0
LineIsLawful version line = IsLawfulForm false version line.form

-- the line of a statement
statement_is_lawful : (version n : ℕ) (x : Statement) (texts : List (List ℕ)) (head : List ℕ) → States x head → names_fit version x ≡ true → is_in_range version x ≡ true → MayHave x texts
    → AllByRecursion (LineIsLawful version) (statement_lines n x (text_of_lines texts))
statement_is_lawful version n (File name) texts head h f r m = ((r, (texts, refl, m)), tt)
statement_is_lawful version n (Task id pri stack names) texts head h f r m =
    let few : nat_le (length names) (most_names version) ≡ true = f in
    ((h.6, grind (arith, nat_tests), r), tt)
statement_is_lawful version n (At step text) texts head h f r m = tt
statement_is_lawful version n (Key step byte) texts head h f r m = tt
statement_is_lawful version n (Go steps) texts head h f r m = tt

-- the keys of a text
typed_is_lawful : (step : ℕ) (text : List ℕ) → is_step step ≡ true → is_text text ≡ true → AllByRecursion IsLawfulKey (map (λ c. (step, c)) (text ++ 10 ∷ []))
typed_is_lawful step [] s t = ((s, omega arith), tt)
typed_is_lawful step (c ∷ cs) s t =
    let p = and_parts (is_ascii_graphic c || (c == 32)) (is_text cs) t in
    let g : (is_ascii_graphic c || (c == 32)) ≡ true = p.0 in
    ((s, grind (arith, nat_tests)), typed_is_lawful step cs s p.1)

keys_are_lawful : (version : ℕ) (x : Statement) (head : List ℕ) → States x head → is_in_range version x ≡ true → AllByRecursion IsLawfulKey (statement_keys x)
keys_are_lawful version (File name) head h r = tt
keys_are_lawful version (Task id pri stack names) head h r = tt
keys_are_lawful version (At step text) head h r = typed_is_lawful step text r h.2
keys_are_lawful version (Key step byte) head h r = ((r, (decode_of-ok h.1 (byte ∷ []) h.3).3 0), tt)
keys_are_lawful version (Go steps) head h r = tt

entries_are_lawful : (version n : ℕ) (entries : List Entry) (lines : List (List ℕ)) → AreEntries version entries lines
    → AllByRecursion (LineIsLawful version) (lines_in n entries) × AllByRecursion IsLawfulKey (keys_in entries)
entries_are_lawful version n [] lines h = (tt, tt)
entries_are_lawful version n (entry ∷ entries) lines h =
    let e = h.3 in
    let more = entries_are_lawful version (n + 1 + length entry.texts) entries h.1 h.4 in
    let line = statement_is_lawful version n entry.statement entry.texts e.head e.states e.fits e.in_range e.texts_are in
    let keys = keys_are_lawful version entry.statement e.head e.states e.in_range in (
      all-append (LineIsLawful version) (statement_lines n entry.statement (text_of_lines entry.texts)) (lines_in (n + 1 + length entry.texts) entries) line more.0,
      all-append IsLawfulKey (statement_keys entry.statement) (keys_in entries) keys more.1,
    )

options_are_lawful : (resident debug : Bool) (lines : List (List ℕ)) → AreOptions resident debug lines → debug ≡ true → resident ≡ true
options_are_lawful true debug lines h e = refl
options_are_lawful false true lines h e = absurd h
options_are_lawful false false lines h e = cc e

-- ---- both

machine_is_lawful : (s : Session) (lines : List (List ℕ)) → AreBareLines s lines ⊎ AreClockLines s lines
    → IsLawfulMachine s.bare s × AllByRecursion (λ line. IsLawfulForm s.bare s.version line.form) s.lines
machine_is_lawful s lines (inl h) =
    let code = code_is_lawful s.version 4 s.lines h.code h.code_lines in (
      subst (λ (b : Bool). IsLawfulMachine b s) (sym h.machine.bare) h.machine,
      subst (λ (b : Bool). AllByRecursion (λ line. IsLawfulForm b s.version line.form) s.lines) (sym h.machine.bare) code,
    )
machine_is_lawful s lines (inr h) =
    let e = entries_are_lawful s.version (4 + length h.options) h.entries h.rest h.entry_lines in
    let lines_are = subst (λ (ls : List SessionLine). AllByRecursion (LineIsLawful s.version) ls) (sym h.lines_are) e.0 in
    let keys_are = subst (λ (ks : List (ℕ × ℕ)). AllByRecursion IsLawfulKey ks) (sym h.keys_are) e.1 in (
      subst (λ (b : Bool). IsLawfulMachine b s) (sym h.clock) (h.period, options_are_lawful s.resident s.debug h.options h.option_lines, keys_are),
      subst (λ (b : Bool). AllByRecursion (λ line. IsLawfulForm b s.version line.form) s.lines) (sym h.clock) lines_are,
    )

pub session_is_lawful : (s : Session) (lines : List (List ℕ)) → AreSessionLines s lines → IsLawful s
session_is_lawful s lines h =
    let m = machine_is_lawful s h.machine h.machine_lines in
    record { version = h.version_line.0; store = h.store_size; machine = m.0; lines = m.1; steps = h.steps }

-- so is the session that a call gives
pub is_lawful : (text : List ℕ) (r : Result Session TextEnd) → Gives (λ s. s) r (session_of text) → IfOk r IsLawful
is_lawful text (Ok s) e = session_is_lawful s (lines_of text) (sound text s e)
is_lawful text (Err d) e = tt
