-- What is printed is read as the same session.
use Rattle.std.proofs.Common.{◌≡◌, ◌∙◌, ℕ, ◌<◌, ◌≤◌, ◌+◌, ◌%◌, ◌^◌, ◌==◌, ◌&&◌, Bool, true, false, cond, Ok, inl, inr, ◌⊎◌, List, [], ◌∷◌, ◌++◌, map, length, append_assoc, append-nil, refl, sym, ap, subst, arith, nat_le}
use Rattle.std.specs.Prelude.{codes, decimal, IsTrue}
use Rattle.std.specs.List.{AllByRecursion, list_all}
use Rattle.std.proofs.lemmas.Bool.{and_parts}
use Rattle.std.proofs.lemmas.Bool.Decides.{nat_tests}
use Rattle.std.proofs.lemmas.List.{length-map}
use Rattle.hex.specs.Hex.{encode_lower}
use Rattle.hex.proofs.HexLemmas.{decode_of-encode_lower}
use Rattle.module_text.specs.TextReader.Lines.{lines_of, text_of_lines}
use Rattle.module_text.proofs.TextReader.NumberLemmas.{decimal_number}
use Rattle.module_text.proofs.TextReader.PlainLines.{lines_of_text_of_lines}
use Rattle.session_text.specs.Canonical.{IsFileText, IsLawful, IsLawfulForm, IsLawfulKey, IsLawfulMachine, canonical, canonical_lines, form_text, keys_text, lines_text, machine_text, numbered_lines, statement_text, with_numbers}
use Rattle.session_text.specs.Entries.{AreEntries, Entry, IsEntry, colon_line, is_in_range, keys_in, lines_in, statement_lines}
use Rattle.session_text.specs.Ranges.{highest_task, is_priority, is_stack, is_step, is_task, most_names}
use Rattle.ram_disc.specs.Name.{is_name}
use Rattle.kernel_model.specs.KernelRecord.Ranges.{is_period, is_store_size, most_steps, most_words}
use Rattle.session_text.specs.SessionForm.{AreBareLines, AreClockLines, AreCodeLines, AreOptions, AreSessionLines, IsCodeLine}
use Rattle.session_text.specs.SessionOfText.{session_of}
use Rattle.session_text.specs.Statements.{File as FileOf, Task as TaskOf, At as AtOf, Key as KeyOf, is_text}
use Rattle.session_text.specs.declared.sessions.Session.{Session}
use Rattle.session_text.specs.declared.sessions.SessionLine.{SessionLine}
use Rattle.session_text.specs.declared.sessions.LineForm.{LineForm}
use Rattle.session_text.specs.declared.sessions.LineForm.TheVariants.{Code, File, Task}
use Rattle.session_text.proofs.Complete.{complete}
use Rattle.session_text.proofs.SessionTexts.{plain_session, plain_texts}
use Rattle.session_text.proofs.StatementTexts.{IsBytes-one, are_fields-names, is_field-name, states_text}

-- ---- ranges are below 10 ^ 10

pub store_bound : (version store : ℕ) → is_store_size version store ≡ true → store < 10 ^ 10
store_bound version store e =
    let a = and_parts (nat_le 1024 store && nat_le store (most_words version)) (store % 2 == 0) e in
    let b = and_parts (nat_le 1024 store) (nat_le store (most_words version)) a.0 in
    let most : nat_le store (most_words version) ≡ true = b.1 in
    grind (arith, nat_tests)

pub step_bound : (n : ℕ) → is_step n ≡ true → n < 10 ^ 10
step_bound n e = let most : nat_le n most_steps ≡ true = e in grind (arith, nat_tests)

pub period_bound : (n : ℕ) → is_period n ≡ true → n < 10 ^ 10
period_bound n e =
    let b = and_parts (nat_le 1 n) (nat_le n 1000000) e in
    let most : nat_le n 1000000 ≡ true = b.1 in
    grind (arith, nat_tests)

task_bound : (version id pri stack : ℕ) (names : List (List ℕ)) → is_in_range version (TaskOf id pri stack names) ≡ true
    → (id < 10 ^ 10) × (pri < 10 ^ 10) × (stack < 10 ^ 10) × (list_all is_name names ≡ true)
task_bound version id pri stack names e =
    let a = and_parts (is_task version id && is_priority pri && is_stack stack) (list_all is_name names) e in
    let b = and_parts (is_task version id && is_priority pri) (is_stack stack) a.0 in
    let c = and_parts (is_task version id) (is_priority pri) b.0 in
    let i = and_parts (nat_le 5 id) (nat_le id (highest_task version)) c.0 in
    let j = and_parts (nat_le 1 pri) (nat_le pri 10000) c.1 in
    let k = and_parts (nat_le 20 stack) (nat_le stack 100000) b.1 in
    let id_most : nat_le id (highest_task version) ≡ true = i.1 in
    let pri_most : nat_le pri 10000 ≡ true = j.1 in
    let stack_most : nat_le stack 100000 ≡ true = k.1 in
    (grind (arith, nat_tests), grind (arith, nat_tests), grind (arith, nat_tests), a.1)

-- ---- a bare machine

-- a printed line of code is one
code_again : (version n : ℕ) (form : LineForm) → IsLawfulForm true version form → (line : List ℕ) × (form_text form ≡ line ∷ []) × IsCodeLine n (record { line = n; form = form }) line
code_again version n (Code bytes) h = (codes ":" ++ encode_lower bytes, refl, (encode_lower bytes, bytes, refl, decode_of-encode_lower bytes h, refl))
code_again version n (File name bytes) h = absurd h
code_again version n (Task id pri stack names) h = absurd h

-- and so are several, with the numbers that they have there
codes_again : (version n : ℕ) (lines : List SessionLine) → AllByRecursion (λ line. IsLawfulForm true version line.form) lines → AreCodeLines n (numbered_lines n lines) (lines_text lines)
codes_again version n [] h = tt
codes_again version n (line ∷ lines) h =
    let one = code_again version n line.form h.0 in
    let more = codes_again version (n + 1) lines h.1 in
    subst (λ (t : List (List ℕ)). AreCodeLines n (record line { line = n } ∷ numbered_lines (n + length t) lines) (t ++ lines_text lines)) (sym one.1) (one.2, more)

-- ---- a machine with a clock

-- the entry of a file or a task
abbrev entry_of : LineForm → Entry
entry_of (Code bytes) = record { statement = AtOf 0 []; texts = [] }
entry_of (File name bytes) = record { statement = FileOf name; texts = lines_of bytes }
entry_of (Task id pri stack names) = record { statement = TaskOf id pri stack names; texts = [] }

-- the entry of a key
abbrev key_entry : ℕ × ℕ → Entry
key_entry key = record { statement = KeyOf key.0 key.1; texts = [] }

-- the lines of a file's text
text_again : (bytes : List ℕ) → IsFileText bytes → (text_of_lines (lines_of bytes) ≡ bytes) × AllByRecursion (λ text. IsTrue (is_text text)) (lines_of bytes)
text_again bytes h =
    let same : lines_of bytes ≡ h.0 = ap lines_of h.1 ∙ lines_of_text_of_lines h.0 (plain_texts h.0 h.2) in
    (ap text_of_lines same ∙ sym h.1, subst (λ (ts : List (List ℕ)). AllByRecursion (λ text. IsTrue (is_text text)) ts) (sym same) h.2)

-- a printed file or task is its entry
form_again : (version : ℕ) (form : LineForm) → IsLawfulForm false version form → IsEntry version (entry_of form) (form_text form)
form_again version (Code bytes) h = absurd h
form_again version (File name bytes) h =
    record { head = statement_text (FileOf name); all = refl; states = states_text (FileOf name) (is_field-name name h.0); fits = refl; in_range = h.0; texts_are = (text_again bytes h.1).1 }
form_again version (Task id pri stack names) h =
    let b = task_bound version id pri stack names h.2 in
    let few : length names ≤ most_names version = h.1 in
    let fits : nat_le (length names) (most_names version) ≡ true = grind (arith, nat_tests) in
    record {
      head = statement_text (TaskOf id pri stack names);
      all = refl;
      states = states_text (TaskOf id pri stack names) (b.0, b.1, b.2, h.0, are_fields-names names b.3);
      fits = fits;
      in_range = h.2;
      texts_are = refl;
    }

key_again : (version : ℕ) (key : ℕ × ℕ) → IsLawfulKey key → IsEntry version (key_entry key) (statement_text (KeyOf key.0 key.1) ∷ [])
key_again version key h = record {
  head = statement_text (KeyOf key.0 key.1);
  all = refl;
  states = states_text (KeyOf key.0 key.1) (step_bound key.0 h.0, IsBytes-one key.1 h.1);
  fits = refl;
  in_range = h.0;
  texts_are = refl;
}

-- all entries of a session
abbrev entries_of : List SessionLine → List (ℕ × ℕ) → List Entry
entries_of [] keys = map key_entry keys
entries_of (line ∷ lines) keys = entry_of line.form ∷ entries_of lines keys

keys_again : (version : ℕ) (keys : List (ℕ × ℕ)) → AllByRecursion IsLawfulKey keys → AreEntries version (map key_entry keys) (keys_text keys)
keys_again version [] h = refl
keys_again version (key ∷ keys) h = (statement_text (KeyOf key.0 key.1) ∷ [], keys_text keys, refl, key_again version key h.0, keys_again version keys h.1)

entries_again : (version : ℕ) (lines : List SessionLine) (keys : List (ℕ × ℕ)) → AllByRecursion (λ line. IsLawfulForm false version line.form) lines → AllByRecursion IsLawfulKey keys
    → AreEntries version (entries_of lines keys) (lines_text lines ++ keys_text keys)
entries_again version [] keys h k = keys_again version keys k
entries_again version (line ∷ lines) keys h k =
    (form_text line.form, lines_text lines ++ keys_text keys, append_assoc (form_text line.form) (lines_text lines) (keys_text keys), form_again version line.form h.0, entries_again version lines keys h.1 k)

-- their lines, with the numbers that they have there
line_again : (version n : ℕ) (form : LineForm) → IsLawfulForm false version form
    → (record { line = n; form = form } ∷ [] ≡ statement_lines n (entry_of form).statement (text_of_lines (entry_of form).texts)) × (n + length (form_text form) ≡ n + 1 + length (entry_of form).texts)
line_again version n (Code bytes) h = absurd h
line_again version n (File name bytes) h =
    (ap (λ (b : List ℕ). record { line = n; form = File name b } ∷ []) (sym (text_again bytes h.1).0), omega (arith, length-map (lines_of bytes) colon_line))
line_again version n (Task id pri stack names) h = (refl, omega arith)

keys_have_no_lines : (n : ℕ) (keys : List (ℕ × ℕ)) → lines_in n (map key_entry keys) ≡ []
keys_have_no_lines n [] = refl
keys_have_no_lines n (key ∷ keys) = keys_have_no_lines (n + 1 + 0) keys

lines_again : (version n : ℕ) (lines : List SessionLine) (keys : List (ℕ × ℕ)) → AllByRecursion (λ line. IsLawfulForm false version line.form) lines → numbered_lines n lines ≡ lines_in n (entries_of lines keys)
lines_again version n [] keys h = sym (keys_have_no_lines n keys)
lines_again version n (line ∷ lines) keys h =
    let one = line_again version n line.form h.0 in
    let more = lines_again version (n + length (form_text line.form)) lines keys h.1 in
    ap (λ (ls : List SessionLine). record line { line = n } ∷ ls) (more ∙ ap (λ (k : ℕ). lines_in k (entries_of lines keys)) one.1)
    ∙ ap (λ (ls : List SessionLine). ls ++ lines_in (n + 1 + length (entry_of line.form).texts) (entries_of lines keys)) one.0

-- and their keys
keys_are : (keys : List (ℕ × ℕ)) → keys ≡ keys_in (map key_entry keys)
keys_are [] = refl
keys_are (key ∷ keys) = ap (λ (ks : List (ℕ × ℕ)). key ∷ ks) (keys_are keys)

form_has_no_keys : (version : ℕ) (form : LineForm) (keys : List (ℕ × ℕ)) (entries : List Entry) → IsLawfulForm false version form → keys ≡ keys_in entries → keys ≡ keys_in (entry_of form ∷ entries)
form_has_no_keys version (Code bytes) keys entries h e = absurd h
form_has_no_keys version (File name bytes) keys entries h e = e
form_has_no_keys version (Task id pri stack names) keys entries h e = e

all_keys_are : (version : ℕ) (lines : List SessionLine) (keys : List (ℕ × ℕ)) → AllByRecursion (λ line. IsLawfulForm false version line.form) lines → keys ≡ keys_in (entries_of lines keys)
all_keys_are version [] keys h = keys_are keys
all_keys_are version (line ∷ lines) keys h = form_has_no_keys version line.form keys (entries_of lines keys) h.0 (all_keys_are version lines keys h.1)

-- the printed options
abbrev options_text : Bool → Bool → List (List ℕ)
options_text resident debug = cond resident (codes "RESIDENT" ∷ []) [] ++ cond debug (codes "DEBUG" ∷ []) []

options_again : (resident debug : Bool) → (debug ≡ true → resident ≡ true) → AreOptions resident debug (options_text resident debug)
options_again true true h = refl
options_again true false h = refl
options_again false true h = cc (h refl)
options_again false false h = refl

-- ---- the whole text

-- the session, with its lines numbered after those of its machine
abbrev numbered_behind : Bool → Session → Session
numbered_behind bare s = record s { lines = numbered_lines (3 + length (machine_text bare s.period s.resident s.debug)) s.lines }

machine_again : (bare : Bool) (s : Session) → s.bare ≡ bare → IsLawfulMachine bare s → AllByRecursion (λ line. IsLawfulForm bare s.version line.form) s.lines
    → AreBareLines (numbered_behind bare s) (machine_text bare s.period s.resident s.debug ++ (lines_text s.lines ++ keys_text s.keys))
    ⊎ AreClockLines (numbered_behind bare s) (machine_text bare s.period s.resident s.debug ++ (lines_text s.lines ++ keys_text s.keys))
machine_again true s e m h = inl (record {
  code = lines_text s.lines;
  all = ap (λ (ls : List (List ℕ)). codes "BARE" ∷ ls) (ap (λ (ks : List (ℕ × ℕ)). lines_text s.lines ++ keys_text ks) m.keys ∙ append-nil (lines_text s.lines));
  code_lines = codes_again s.version 4 s.lines h;
  machine = record { bare = e; period = m.period; resident = m.resident; debug = m.debug; keys = m.keys };
})
machine_again false s e m h =
    let options = options_text s.resident s.debug in
    let tick = codes "TICK " ++ decimal s.period in
    let numbers : 3 + length (tick ∷ options) ≡ 4 + length options = omega arith in
    inr (record {
      tick = tick;
      options = options;
      rest = lines_text s.lines ++ keys_text s.keys;
      entries = entries_of s.lines s.keys;
      all = refl;
      clock = e;
      tick_line = (decimal s.period, refl, decimal_number s.period (period_bound s.period m.0));
      period = m.0;
      option_lines = options_again s.resident s.debug m.1;
      entry_lines = entries_again s.version s.lines s.keys h m.2;
      lines_are = lines_again s.version (3 + length (tick ∷ options)) s.lines s.keys h ∙ ap (λ (k : ℕ). lines_in k (entries_of s.lines s.keys)) numbers;
      keys_are = all_keys_are s.version s.lines s.keys h;
    })

-- the canonical text is a text of its session
pub printed_again : (s : Session) → IsLawful s → session_of (canonical s) ≡ Ok (with_numbers s)
unfolding canonical
printed_again s h =
    let machine = machine_text s.bare s.period s.resident s.debug in
    let go = codes "GO " ++ decimal s.go in
    let rest : machine ++ (lines_text s.lines ++ (keys_text s.keys ++ go ∷ [])) ≡ (machine ++ (lines_text s.lines ++ keys_text s.keys)) ++ go ∷ []
    = sym (append_assoc machine (lines_text s.lines ++ keys_text s.keys) (go ∷ []) ∙ ap (λ (ls : List (List ℕ)). machine ++ ls) (append_assoc (lines_text s.lines) (keys_text s.keys) (go ∷ []))) in
    let form : AreSessionLines (with_numbers s) (canonical_lines s) = record {
      version = codes "TRIPOS " ++ decimal s.version;
      store = codes "STORE " ++ decimal s.store;
      machine = machine ++ (lines_text s.lines ++ keys_text s.keys);
      go = go;
      all = ap (λ (ls : List (List ℕ)). (codes "TRIPOS " ++ decimal s.version) ∷ (codes "STORE " ++ decimal s.store) ∷ ls) rest;
      version_line = (h.version, refl);
      store_line = (decimal s.store, refl, decimal_number s.store (store_bound s.version s.store h.store));
      store_size = h.store;
      machine_lines = machine_again s.bare s refl h.machine h.lines;
      go_line = (decimal s.go, refl, decimal_number s.go (step_bound s.go h.steps));
      steps = h.steps;
    } in
    let same : lines_of (text_of_lines (canonical_lines s)) ≡ canonical_lines s = lines_of_text_of_lines (canonical_lines s) (plain_session (with_numbers s) (canonical_lines s) form) in
    complete (text_of_lines (canonical_lines s)) (with_numbers s) (rw same form)
