-- The lines of a session are those of a text.
use Rattle.std.proofs.Common.{◌≡◌, ℕ, Bool, true, false, ◌≤◌, ◌+◌, ◌==◌, ◌||◌, ◌⊎◌, inl, inr, Ok, List, [], ◌∷◌, ◌++◌, map, refl, sym, subst, arith}
use Rattle.std.specs.Prelude.{codes, decimal, IsTrue}
use Rattle.std.specs.Char.{is_ascii_graphic}
use Rattle.std.specs.List.{AllByRecursion, list_all}
use Rattle.std.proofs.lemmas.Bool.{and_parts}
use Rattle.std.proofs.lemmas.Bool.Decides.{nat_tests}
use Rattle.std.proofs.lemmas.List.Elements.{All-weaker, recursion_from_All}
use Rattle.hex.specs.Hex.{decode_of, is_hex_digit}
use Rattle.hex.proofs.HexLemmas.{decode_of-ok}
use Rattle.module_text.specs.TextReader.Fields.{IsNumberLine}
use Rattle.module_text.specs.TextReader.Lines.{text_of_lines}
use Rattle.module_text.proofs.TextReader.PlainLines.{IsPlain, IsPlainByte, lines_of_text_of_lines, plain_append, plain_decimal, plain_digits, plain_hex_digit, plain_literal}
use Rattle.session_text.specs.Entries.{AreEntries, Entry, MayHave, colon_line}
use Rattle.session_text.specs.FirstError.{BeginSession}
use Rattle.session_text.specs.SessionForm.{AreBareLines, AreClockLines, AreCodeLines, AreOptions, AreSessionLines}
use Rattle.session_text.specs.Statements.{Statement, File, Task, At, Key, Go, States, is_field, is_text, names_text}
use Rattle.session_text.specs.declared.sessions.Session.{Session}
use Rattle.session_text.specs.declared.sessions.SessionLine.{SessionLine}
use Rattle.session_text.proofs.Advances.{BeginLines}
use Rattle.word_store.proofs.Elements.{all-append}

-- ---- bytes

-- text has no LF and no CR
pub plain_text : (text : List ℕ) → is_text text ≡ true → IsPlain text
plain_text [] h = tt
plain_text (c ∷ cs) h =
    let p = and_parts (is_ascii_graphic c || (c == 32)) (is_text cs) h in
    let t : (is_ascii_graphic c || (c == 32)) ≡ true = p.0 in
    ((grind (arith, nat_tests), grind (arith, nat_tests)), plain_text cs p.1)

plain_graphic : (text : List ℕ) → list_all is_ascii_graphic text ≡ true → IsPlain text
plain_graphic [] h = tt
plain_graphic (c ∷ cs) h =
    let p = and_parts (is_ascii_graphic c) (list_all is_ascii_graphic cs) h in
    let t : is_ascii_graphic c ≡ true = p.0 in
    ((grind (arith, nat_tests), grind (arith, nat_tests)), plain_graphic cs p.1)

-- nor have several texts
pub plain_texts : (texts : List (List ℕ)) → AllByRecursion (λ text. IsTrue (is_text text)) texts → AllByRecursion IsPlain texts
plain_texts [] h = tt
plain_texts (t ∷ ts) h = (plain_text t h.0, plain_texts ts h.1)

-- nor has a field
pub plain_field : (field : List ℕ) → is_field field ≡ true → IsPlain field
plain_field field h = plain_graphic field (and_parts _ (list_all is_ascii_graphic field) h).1

-- nor have names
plain_names : (names : List (List ℕ)) → list_all is_field names ≡ true → IsPlain (names_text names)
plain_names [] h = tt
plain_names (name ∷ names) h =
    let p = and_parts (is_field name) (list_all is_field names) h in
    ((plain_literal (codes " ") refl).0, plain_append name (names_text names) (plain_field name p.0) (plain_names names p.1))

-- nor have digits that are bytes
pub plain_bytes : (digits bytes : List ℕ) → decode_of digits ≡ Ok bytes → IsPlain digits
plain_bytes digits bytes h = recursion_from_All IsPlainByte digits (All-weaker (λ c. is_hex_digit c ≡ true) IsPlainByte plain_hex_digit digits (decode_of-ok digits bytes h).1)

-- ---- lines

-- a line of a word and a number has no LF and no CR
pub plain_number : (word line : List ℕ) (n : ℕ) → IsPlain word → IsNumberLine word n line → IsPlain line
plain_number word line n w h = subst IsPlain (sym h.1) (plain_append word h.0 w (plain_digits h.0 h.2.numeral.1))

-- nor has a statement
pub plain_states : (x : Statement) (line : List ℕ) → States x line → IsPlain line
plain_states (File name) line h = subst IsPlain (sym h.1) (plain_append (codes "FILE ") name (plain_literal (codes "FILE ") refl) (plain_field name h.0))
plain_states (Task id pri stack names) line h =
    let blank = (plain_literal (codes " ") refl).0 in
    let names_plain = plain_append h.2 (names_text names) (plain_digits h.2 h.5.numeral.1) (plain_names names h.7) in
    let pri_plain = plain_append h.1 (32 ∷ (h.2 ++ names_text names)) (plain_digits h.1 h.4.numeral.1) (blank, names_plain) in
    let id_plain = plain_append h.0 (32 ∷ (h.1 ++ 32 ∷ (h.2 ++ names_text names))) (plain_digits h.0 h.3.numeral.1) (blank, pri_plain) in
    subst IsPlain (sym h.8) (plain_append (codes "TASK ") (h.0 ++ 32 ∷ (h.1 ++ 32 ∷ (h.2 ++ names_text names))) (plain_literal (codes "TASK ") refl) id_plain)
plain_states (At k text) line h =
    let text_plain = plain_append (codes " :") text (plain_literal (codes " :") refl) (plain_text text h.2) in
    subst IsPlain (sym h.3) (plain_append (codes "AT ") (h.0 ++ (codes " :" ++ text)) (plain_literal (codes "AT ") refl) (plain_append h.0 (codes " :" ++ text) (plain_digits h.0 h.1.numeral.1) text_plain))
plain_states (Key k byte) line h =
    let byte_plain = plain_append (codes " ") h.1 (plain_literal (codes " ") refl) (plain_bytes h.1 (byte ∷ []) h.3) in
    subst IsPlain (sym h.4) (plain_append (codes "KEY ") (h.0 ++ (codes " " ++ h.1)) (plain_literal (codes "KEY ") refl) (plain_append h.0 (codes " " ++ h.1) (plain_digits h.0 h.2.numeral.1) byte_plain))
plain_states (Go steps) line h = plain_number (codes "GO ") line steps (plain_literal (codes "GO ") refl) h

-- lines of text
plain_colon_lines : (texts : List (List ℕ)) → AllByRecursion (λ text. IsTrue (is_text text)) texts → AllByRecursion IsPlain (map colon_line texts)
plain_colon_lines [] h = tt
plain_colon_lines (t ∷ ts) h = (((plain_literal (codes ":") refl).0, plain_text t h.0), plain_colon_lines ts h.1)

plain_may : (x : Statement) (texts : List (List ℕ)) → MayHave x texts → AllByRecursion IsPlain (map colon_line texts)
plain_may (File name) texts h = plain_colon_lines texts h
plain_may (Task id pri stack names) [] h = tt
plain_may (Task id pri stack names) (t ∷ ts) h = cc h
plain_may (At k text) [] h = tt
plain_may (At k text) (t ∷ ts) h = cc h
plain_may (Key k byte) [] h = tt
plain_may (Key k byte) (t ∷ ts) h = cc h
plain_may (Go steps) texts h = absurd h

-- entries
plain_entries : (version : ℕ) (entries : List Entry) (lines : List (List ℕ)) → AreEntries version entries lines → AllByRecursion IsPlain lines
plain_entries version [] lines h = let none : lines ≡ [] = h in subst (AllByRecursion IsPlain) (sym none) tt
plain_entries version (entry ∷ entries) lines h =
    let e = h.3 in
    let front = subst (AllByRecursion IsPlain) (sym e.all) (plain_states entry.statement e.head e.states, plain_may entry.statement entry.texts e.texts_are) in
    subst (AllByRecursion IsPlain) (sym h.2) (all-append IsPlain h.0 h.1 front (plain_entries version entries h.1 h.4))

-- lines of code
plain_codes : (n : ℕ) (code : List SessionLine) (lines : List (List ℕ)) → AreCodeLines n code lines → AllByRecursion IsPlain lines
plain_codes n [] [] h = tt
plain_codes n [] (l ∷ ls) h = absurd h
plain_codes n (c ∷ cs) [] h = absurd h
plain_codes n (c ∷ cs) (l ∷ ls) h =
    let line = h.0 in
    (subst IsPlain (sym line.2) (plain_append (codes ":") line.0 (plain_literal (codes ":") refl) (plain_bytes line.0 line.1 line.3)), plain_codes (n + 1) cs ls h.1)

plain_options : (resident debug : Bool) (lines : List (List ℕ)) → AreOptions resident debug lines → AllByRecursion IsPlain lines
plain_options true true lines h = let is : lines ≡ codes "RESIDENT" ∷ codes "DEBUG" ∷ [] = h in subst (AllByRecursion IsPlain) (sym is) (plain_literal (codes "RESIDENT") refl, (plain_literal (codes "DEBUG") refl, tt))
plain_options true false lines h = let is : lines ≡ codes "RESIDENT" ∷ [] = h in subst (AllByRecursion IsPlain) (sym is) (plain_literal (codes "RESIDENT") refl, tt)
plain_options false true lines h = absurd h
plain_options false false lines h = let is : lines ≡ [] = h in subst (AllByRecursion IsPlain) (sym is) tt

plain_machine : (s : Session) (lines : List (List ℕ)) → AreBareLines s lines ⊎ AreClockLines s lines → AllByRecursion IsPlain lines
plain_machine s lines (inl h) = subst (AllByRecursion IsPlain) (sym h.all) (plain_literal (codes "BARE") refl, plain_codes 4 s.lines h.code h.code_lines)
plain_machine s lines (inr h) =
    let tick = plain_number (codes "TICK ") h.tick s.period (plain_literal (codes "TICK ") refl) h.tick_line in
    let rest = all-append IsPlain h.options h.rest (plain_options s.resident s.debug h.options h.option_lines) (plain_entries s.version h.entries h.rest h.entry_lines) in
    subst (AllByRecursion IsPlain) (sym h.all) (tick, rest)

-- no line of a session has an LF or a CR
pub plain_session : (s : Session) (lines : List (List ℕ)) → AreSessionLines s lines → AllByRecursion IsPlain lines
plain_session s lines h =
    let high : s.version ≤ 2 = h.version_line.0.1 in
    let version : IsPlain h.version = subst IsPlain (sym h.version_line.1) (plain_append (codes "TRIPOS ") (decimal s.version) (plain_literal (codes "TRIPOS ") refl) (plain_decimal s.version (omega arith))) in
    let store = plain_number (codes "STORE ") h.store s.store (plain_literal (codes "STORE ") refl) h.store_line in
    let go = plain_number (codes "GO ") h.go s.go (plain_literal (codes "GO ") refl) h.go_line in
    subst (AllByRecursion IsPlain) (sym h.all) (version, (store, all-append IsPlain h.machine (h.go ∷ []) (plain_machine s h.machine h.machine_lines) (go, tt)))

-- lines that begin a session's lines begin a text of it
pub begin_text : (front : List (List ℕ)) → BeginLines front → BeginSession front
begin_text front b =
    let lines = front ++ b.1 in
    let same = lines_of_text_of_lines lines (plain_session b.0 lines b.2) in
    (text_of_lines lines, b.0, b.1, subst (AreSessionLines b.0) (sym same) b.2, same)

-- and lines that begin a text of it begin its lines
pub begin_lines : (front : List (List ℕ)) → BeginSession front → BeginLines front
begin_lines front b = (b.1, b.2, subst (AreSessionLines b.1) b.4 b.3)
