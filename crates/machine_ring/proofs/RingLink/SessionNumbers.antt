-- The numbers of a session's lines are at most as many as its text has.
use Rattle.std.proofs.Common.{ℕ, ◌+◌, ◌≤◌, ◌⊎◌, inl, inr, List, [], ◌∷◌, length, sym, ap, subst, arith, length-append}
use Rattle.std.specs.List.{AllByRecursion}
use Rattle.std.proofs.lemmas.List.{length-map}
use Rattle.module_text.specs.TextReader.Lines.{text_of_lines}
use Rattle.session_text.specs.Entries.{AreEntries, Entry, colon_line, lines_in, statement_lines}
use Rattle.session_text.specs.SessionForm.{AreBareLines, AreClockLines, AreCodeLines, AreSessionLines}
use Rattle.session_text.specs.Statements.{Statement, File, Task, At, Key, Go}
use Rattle.session_text.specs.declared.sessions.Session.{Session}
use Rattle.session_text.specs.declared.sessions.SessionLine.{SessionLine}
use Rattle.word_store.proofs.Elements.{all-append}

abbrev pub AreUpTo : ℕ → List SessionLine → Type 0
AreUpTo most lines = AllByRecursion (λ line. line.line ≤ most) lines

codes_up_to : (most n : ℕ) (code : List SessionLine) (lines : List (List ℕ)) → AreCodeLines n code lines → n + length lines ≤ most + 1 → AreUpTo most code
codes_up_to most n [] lines h few = tt
codes_up_to most n (c ∷ cs) [] h few = absurd h
codes_up_to most n (c ∷ cs) (l ∷ ls) h few =
    let number = ap (λ (x : SessionLine). x.line) h.0.4 in
    (omega arith, codes_up_to most (n + 1) cs ls h.1 (omega arith))

statement_up_to : (most n : ℕ) (x : Statement) (bytes : List ℕ) → n ≤ most → AreUpTo most (statement_lines n x bytes)
statement_up_to most n (File name) bytes low = (low, tt)
statement_up_to most n (Task id pri stack names) bytes low = (low, tt)
statement_up_to most n (At step text) bytes low = tt
statement_up_to most n (Key step byte) bytes low = tt
statement_up_to most n (Go steps) bytes low = tt

entries_up_to : (most n version : ℕ) (entries : List Entry) (lines : List (List ℕ)) → AreEntries version entries lines → n + length lines ≤ most + 1 → AreUpTo most (lines_in n entries)
entries_up_to most n version [] lines h few = tt
entries_up_to most n version (entry ∷ entries) lines h few =
    let e = h.3 in
    let m = n + 1 + length entry.texts in
    let size = ap length h.2 in
    let front = ap length e.all in
    let left : m + length h.1 ≤ most + 1 = omega (arith, size, front, length-append h.0 h.1, length-map entry.texts colon_line) in
    let bytes = text_of_lines entry.texts in
    all-append (λ line. line.line ≤ most) (statement_lines n entry.statement bytes) (lines_in m entries) (statement_up_to most n entry.statement bytes (omega arith)) (entries_up_to most m version entries h.1 h.4 left)

machine_up_to : (most : ℕ) (s : Session) (lines : List (List ℕ)) → AreBareLines s lines ⊎ AreClockLines s lines → 3 + length lines ≤ most → AreUpTo most s.lines
machine_up_to most s lines (inl h) few = let size = ap length h.all in codes_up_to most 4 s.lines h.code h.code_lines (omega arith)
machine_up_to most s lines (inr h) few =
    let size = ap length h.all in
    let n = 4 + length h.options in
    let left : n + length h.rest ≤ most + 1 = omega (arith, size, length-append h.options h.rest) in
    subst (AreUpTo most) (sym h.lines_are) (entries_up_to most n s.version h.entries h.rest h.entry_lines left)

pub session_up_to : (s : Session) (lines : List (List ℕ)) → AreSessionLines s lines → AreUpTo (length lines) s.lines
session_up_to s lines h =
    let size = ap length h.all in
    machine_up_to (length lines) s h.machine h.machine_lines (omega (arith, size, length-append h.machine (h.go ∷ [])))
