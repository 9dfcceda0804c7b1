-- The parts of a session's text that are read one after another.
use Rattle.std.proofs.Common.{◌≡◌, ◌∙◌, ℕ, ◌+◌, Bool, true, false, List, [], ◌∷◌, ◌++◌, map, length, append_assoc, append-nil, refl, sym, ap}
use Rattle.std.specs.Prelude.{codes, IsTrue}
use Rattle.std.specs.List.{AllByRecursion}
use Rattle.module_text.specs.TextReader.Fields.{IsNumberLine}
use Rattle.module_text.specs.TextReader.Lines.{text_of_lines}
use Rattle.session_text.specs.Entries.{AreEntries, Entry, MayHave, colon_line, keys_in, lines_in, statement_keys, statement_lines}
use Rattle.session_text.specs.FileText.{with_text}
use Rattle.session_text.specs.Ranges.{is_step}
use Rattle.session_text.specs.SessionForm.{AreCodeLines}
use Rattle.session_text.specs.SessionOfText.{with_statement}
use Rattle.session_text.specs.Statements.{Statement, File, Task, At, Key, Go, is_text}
use Rattle.session_text.specs.declared.drafts.Place.{Place}
use Rattle.session_text.specs.declared.drafts.Place.TheVariants.{Entry as AtEntry, Text as AtText}
use Rattle.session_text.specs.declared.sessions.Session.{Session}
use Rattle.session_text.specs.declared.sessions.SessionLine.{SessionLine}
use Rattle.session_text.specs.declared.sessions.LineForm.TheVariants.{File as FileForm}
use Rattle.session_text.proofs.FileTexts.{with_text-push}

-- ---- text of a file

-- lines of text for the last file, one after another
abbrev pub with_texts : List SessionLine → List (List ℕ) → List SessionLine
with_texts lines [] = lines
with_texts lines (text ∷ texts) = with_texts (with_text lines text) texts

-- they go to the file that was added last
with_texts-push : (lines : List SessionLine) (n : ℕ) (name bytes : List ℕ) (texts : List (List ℕ))
    → with_texts (lines ++ record { line = n; form = FileForm name bytes } ∷ []) texts ≡ lines ++ record { line = n; form = FileForm name (bytes ++ text_of_lines texts) } ∷ []
with_texts-push lines n name bytes [] = ap (λ (b : List ℕ). lines ++ record { line = n; form = FileForm name b } ∷ []) (sym (append-nil bytes))
with_texts-push lines n name bytes (text ∷ texts) =
    ap (λ (ls : List SessionLine). with_texts ls texts) (with_text-push lines (record { line = n; form = FileForm name bytes }) text)
    ∙ with_texts-push lines n name (bytes ++ (text ++ 10 ∷ [])) texts
    ∙ ap (λ (b : List ℕ). lines ++ record { line = n; form = FileForm name b } ∷ []) (append_assoc bytes (text ++ 10 ∷ []) (text_of_lines texts))

-- a statement with its text
with_texts-statement : (lines : List SessionLine) (n : ℕ) (x : Statement) (texts : List (List ℕ)) → MayHave x texts
    → with_texts (lines ++ statement_lines n x []) texts ≡ lines ++ statement_lines n x (text_of_lines texts)
with_texts-statement lines n (File name) texts h = with_texts-push lines n name [] texts
with_texts-statement lines n (Task id pri stack names) texts h = rw h refl
with_texts-statement lines n (At step text) texts h = rw h refl
with_texts-statement lines n (Key step byte) texts h = rw h refl
with_texts-statement lines n (Go steps) texts h = absurd h

-- ---- entries

-- the session with text for the last file, entries from line m on, and its steps
abbrev pub made : Session → List (List ℕ) → ℕ → List Entry → ℕ → Session
made s texts m entries go = record s {
  lines = with_texts s.lines texts ++ lines_in m entries;
  keys = s.keys ++ keys_in entries;
  go = go;
}

-- one entry, and those after it
pub made-entry : (s : Session) (n : ℕ) (x : Statement) (texts : List (List ℕ)) (entries : List Entry) (go : ℕ) → MayHave x texts
    → made (with_statement s n x).session texts (n + 1 + length texts) entries go ≡ made s [] n (record { statement = x; texts = texts } ∷ entries) go
made-entry s n x texts entries go h =
    let lines = ap (λ (ls : List SessionLine). ls ++ lines_in (n + 1 + length texts) entries) (with_texts-statement s.lines n x texts h)
    ∙ append_assoc s.lines (statement_lines n x (text_of_lines texts)) (lines_in (n + 1 + length texts) entries) in
    let keys = append_assoc s.keys (statement_keys x) (keys_in entries) in
    λ i. record s { lines = lines i; keys = keys i; go = go }

-- ---- what is left of a text

-- The place before an entry: whether text of the last file may be there.
abbrev pub entry_place : Bool → Place
entry_place true = AtText
entry_place false = AtEntry

-- lines from line n on are text of the last file (where it may be), entries and the steps
pub record HasRest (in_file : Bool) (s : Session) (n : ℕ) (lines : List (List ℕ)) (whole : Session) : Type 0 where
  pub texts : List (List ℕ)
  pub entries : List Entry
  pub rest : List (List ℕ)
  pub last : List ℕ
  pub go : ℕ
  pub m : ℕ
  pub all : lines ≡ map colon_line texts ++ (rest ++ last ∷ [])
  pub texts_are : AllByRecursion (λ text. IsTrue (is_text text)) texts
  pub closed : in_file ≡ false → texts ≡ []
  pub entry_lines : AreEntries s.version entries rest
  pub go_line : IsNumberLine (codes "GO ") go last
  pub steps : IsTrue (is_step go)
  pub number : m ≡ n + length texts
  pub is : made s texts m entries go ≡ whole

-- lines from line n on are code and the steps
pub record HasCode (s : Session) (n : ℕ) (lines : List (List ℕ)) (whole : Session) : Type 0 where
  pub code : List SessionLine
  pub front : List (List ℕ)
  pub last : List ℕ
  pub go : ℕ
  pub all : lines ≡ front ++ last ∷ []
  pub code_lines : AreCodeLines n code front
  pub go_line : IsNumberLine (codes "GO ") go last
  pub steps : IsTrue (is_step go)
  pub is : record s { lines = s.lines ++ code; go = go } ≡ whole
