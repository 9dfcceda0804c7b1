-- The lines of a session that was read have the numbers of lines.
use Rattle.std.proofs.Common.{◌≡◌, ℕ, ◌≤◌, ◌+◌, ◌⊎◌, inl, inr, Bool, Result, Ok, Err, List, [], ◌∷◌, ◌++◌, length, sym, ap, subst, arith}
use Rattle.std.specs.Prelude.{IfOk}
use Rattle.module_text.specs.TextReader.Answers.{Gives}
use Rattle.module_text.specs.TextReader.Lines.{lines_of, text_of_lines}
use Rattle.module_text.specs.declared.text_reader.ends.TextEnd.{TextEnd}
use Rattle.session_text.specs.Entries.{Entry, lines_in, statement_lines}
use Rattle.session_text.specs.Numbering.{AreNumbered, IsNumbered, RiseFrom}
use Rattle.session_text.specs.SessionForm.{AreBareLines, AreClockLines, AreCodeLines}
use Rattle.session_text.specs.SessionOfText.{session_of}
use Rattle.session_text.specs.Statements.{Statement, File, Task, At, Key, Go}
use Rattle.session_text.specs.declared.sessions.Session.{Session}
use Rattle.session_text.specs.declared.sessions.SessionLine.{SessionLine}
use Rattle.session_text.proofs.Sound.{sound}

-- lines of code have the numbers of their lines
code_numbers : (n : ℕ) (code : List SessionLine) (lines : List (List ℕ)) → AreCodeLines n code lines → AreNumbered n code
code_numbers n [] lines h = tt
code_numbers n (c ∷ cs) [] h = absurd h
code_numbers n (c ∷ cs) (l ∷ ls) h = (ap (λ (x : SessionLine). x.line) h.0.4, code_numbers (n + 1) cs ls h.1)

-- numbers that rise from m on rise from any number before it
RiseFrom-less : (n m : ℕ) (lines : List SessionLine) → n ≤ m → RiseFrom m lines → RiseFrom n lines
RiseFrom-less n m [] le h = tt
RiseFrom-less n m (l ∷ ls) le h = let low : m ≤ l.line = h.0 in (omega arith, h.1)

-- a statement of line n, and lines behind it
statement_rises : (n m : ℕ) (x : Statement) (bytes : List ℕ) (lines : List SessionLine) → n + 1 ≤ m → RiseFrom m lines → RiseFrom n (statement_lines n x bytes ++ lines)
statement_rises n m (File name) bytes lines le h = (omega arith, RiseFrom-less (n + 1) m lines le h)
statement_rises n m (Task id pri stack names) bytes lines le h = (omega arith, RiseFrom-less (n + 1) m lines le h)
statement_rises n m (At step text) bytes lines le h = RiseFrom-less n m lines (omega arith) h
statement_rises n m (Key step byte) bytes lines le h = RiseFrom-less n m lines (omega arith) h
statement_rises n m (Go steps) bytes lines le h = RiseFrom-less n m lines (omega arith) h

entries_rise : (n : ℕ) (entries : List Entry) → RiseFrom n (lines_in n entries)
entries_rise n [] = tt
entries_rise n (entry ∷ entries) =
    let m = n + 1 + length entry.texts in
    statement_rises n m entry.statement (text_of_lines entry.texts) (lines_in m entries) (omega arith) (entries_rise m entries)

machine_numbers : (s : Session) (lines : List (List ℕ)) → AreBareLines s lines ⊎ AreClockLines s lines → IsNumbered s.bare s.lines
machine_numbers s lines (inl h) = subst (λ (b : Bool). IsNumbered b s.lines) (sym h.machine.bare) (code_numbers 4 s.lines h.code h.code_lines)
machine_numbers s lines (inr h) =
    let m = 4 + length h.options in
    let rise = RiseFrom-less 4 m (lines_in m h.entries) (omega arith) (entries_rise m h.entries) in
    subst (λ (b : Bool). IsNumbered b s.lines) (sym h.clock) (subst (λ (ls : List SessionLine). RiseFrom 4 ls) (sym h.lines_are) rise)

pub is_numbered : (text : List ℕ) (r : Result Session TextEnd) → Gives (λ s. s) r (session_of text) → IfOk r (λ s. IsNumbered s.bare s.lines)
is_numbered text (Ok s) e = let h = sound text s e in machine_numbers s h.machine h.machine_lines
is_numbered text (Err d) e = tt
