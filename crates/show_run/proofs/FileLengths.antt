-- The files of a session are no longer than its text, so each is short enough to be read as a module.
use Rattle.std.proofs.Common.{◌≡◌, ◌∙◌, ℕ, suc, ◌+◌, ◌-◌, ◌<◌, ◌≤◌, ◌^◌, ◌==◌, ◌&&◌, Bool, true, false, cond, Ok, inl, inr, List, [], ◌∷◌, ◌++◌, length, map, nat_eq, sym, ap, subst, arith, length-append}
use Rattle.std.specs.List.{AllByRecursion, onto_first, starts_with}
use Rattle.module_text.specs.TextReader.Lines.{lines_of, text_of_lines}
use Rattle.session_text.specs.Entries.{AreEntries, Entry, IsEntry, colon_line, lines_in, statement_lines}
use Rattle.session_text.specs.SessionForm.{AreBareLines, AreClockLines, AreCodeLines, AreSessionLines}
use Rattle.session_text.specs.SessionOfText.{session_of}
use Rattle.session_text.specs.Statements.{Statement, File, Task, At, Key, Go}
use Rattle.session_text.specs.declared.sessions.Session.{Session}
use Rattle.session_text.specs.declared.sessions.SessionLine.{SessionLine}
use Rattle.session_text.proofs.PrintedTexts.{text_of_lines-append}
use Rattle.session_text.proofs.Sound.{sound}
use Rattle.show_run.specs.ShortFiles.{HasShortFiles, IsShortLine}
use Rattle.word_store.proofs.Elements.{all-append}

-- ---- how long lines are, each with its end

abbrev size : List (List ℕ) → ℕ
size lines = length (text_of_lines lines)

size-append : (xs ys : List (List ℕ)) → size (xs ++ ys) ≡ size xs + size ys
size-append xs ys = ap length (text_of_lines-append xs ys) ∙ length-append (text_of_lines xs) (text_of_lines ys)

size-cons : (x : List ℕ) (xs : List (List ℕ)) → size (x ∷ xs) ≡ length x + 1 + size xs
size-cons x xs = length-append (x ++ 10 ∷ []) (text_of_lines xs) ∙ ap (λ n. n + size xs) (length-append x (10 ∷ []))

-- a byte is put onto the first of the lines
size-onto : (c n : ℕ) (lines : List (List ℕ)) → size lines ≤ n + 1 → size (onto_first c lines) ≤ suc n + 1
size-onto c n [] le = omega arith
size-onto c n (l ∷ ls) le = omega (arith, le, size-cons l ls, size-cons (c ∷ l) ls)

-- the lines of a text have its bytes, or fewer, and the last may get an end
size-lines : (text : List ℕ) → size (lines_of text) ≤ length text + 1
size-lines [] = omega arith
size-lines (c ∷ cs) = on (c == 10) ((c == 13) && starts_with nat_eq cs (10 ∷ [])) (size-lines cs)
  where
    on : (lf cr : Bool) → size (lines_of cs) ≤ length cs + 1
        → size (cond lf ([] ∷ lines_of cs) (cond cr (lines_of cs) (onto_first c (lines_of cs)))) ≤ suc (length cs) + 1
    on true cr le = omega (arith, le, size-cons [] (lines_of cs))
    on false true le = omega (arith, le)
    on false false le = size-onto c (length cs) (lines_of cs) le

-- a colon more in each line
size-colons : (lines : List (List ℕ)) → size lines ≤ size (map colon_line lines)
size-colons [] = omega arith
size-colons (l ∷ ls) = omega (arith, size-colons ls, size-cons l ls, size-cons (colon_line l) (map colon_line ls))

-- ---- the files of such lines

-- a statement gives a file with this text, or none
short-statement : (n : ℕ) (st : Statement) (bytes : List ℕ) → length bytes < 2 ^ 32 - 1 → AllByRecursion IsShortLine (statement_lines n st bytes)
short-statement n (File name) bytes short = (short, tt)
short-statement n (Task id pri stack names) bytes short = (tt, tt)
short-statement n (At step text) bytes short = tt
short-statement n (Key step byte) bytes short = tt
short-statement n (Go steps) bytes short = tt

short-entry : (version n : ℕ) (e : Entry) (lines : List (List ℕ)) → IsEntry version e lines → size lines < 2 ^ 32 - 1 → AllByRecursion IsShortLine (statement_lines n e.statement (text_of_lines e.texts))
short-entry version n e lines is short =
    short-statement n e.statement (text_of_lines e.texts) (omega (arith, short, ap size is.all, size-cons is.head (map colon_line e.texts), size-colons e.texts))

short-entries : (version n : ℕ) (es : List Entry) (lines : List (List ℕ)) → AreEntries version es lines → size lines < 2 ^ 32 - 1 → AllByRecursion IsShortLine (lines_in n es)
short-entries version n [] lines are short = tt
short-entries version n (e ∷ es) lines (front, rest, all, is, more) short =
    let both = ap size all ∙ size-append front rest in
    all-append IsShortLine (statement_lines n e.statement (text_of_lines e.texts)) (lines_in (n + 1 + length e.texts) es)
    (short-entry version n e front is (omega (arith, short, both)))
    (short-entries version (n + 1 + length e.texts) es rest more (omega (arith, short, both)))

-- lines of bytes are no files
no-files : (n : ℕ) (codes : List SessionLine) (lines : List (List ℕ)) → AreCodeLines n codes lines → AllByRecursion IsShortLine codes
no-files n [] lines are = tt
no-files n (code ∷ more) [] are = absurd are
no-files n (code ∷ more) (line ∷ lines) ((digits, bytes, text, decoded, is), are) = (subst IsShortLine (sym is) tt, no-files (n + 1) more lines are)

short-bare : (s : Session) (lines : List (List ℕ)) → AreBareLines s lines → HasShortFiles s
short-bare s lines are = no-files 4 s.lines are.code are.code_lines

short-clock : (s : Session) (lines : List (List ℕ)) → AreClockLines s lines → size lines < 2 ^ 32 - 1 → HasShortFiles s
short-clock s lines are short =
    let all = ap size are.all ∙ (size-cons are.tick (are.options ++ are.rest) ∙ ap (λ n. length are.tick + 1 + n) (size-append are.options are.rest)) in
    subst (AllByRecursion IsShortLine) (sym are.lines_are) (short-entries s.version (4 + length are.options) are.entries are.rest are.entry_lines (omega (arith, short, all)))

short-lines : (s : Session) (lines : List (List ℕ)) → AreSessionLines s lines → size lines < 2 ^ 32 - 1 → HasShortFiles s
short-lines s lines are short =
    let all = ap size are.all ∙ (size-cons are.version (are.store ∷ (are.machine ++ are.go ∷ [])) ∙ ap (λ n. length are.version + 1 + n)
    (size-cons are.store (are.machine ++ are.go ∷ []) ∙ ap (λ n. length are.store + 1 + n) (size-append are.machine (are.go ∷ [])))) in
    elim are.machine_lines [
      | inl bare ↦ short-bare s are.machine bare
      | inr clock ↦ short-clock s are.machine clock (omega (arith, short, all))
    ]

pub short-files : (text : List ℕ) (s : Session) → session_of text ≡ Ok s → length text < 2 ^ 30 → HasShortFiles s
short-files text s is short = short-lines s (lines_of text) (sound text s is) (omega (arith, short, size-lines text))
