-- Of a session's lines the last alone begins with `GO `.
use Rattle.std.proofs.Common.{◌≡◌, ◌∙◌, ℕ, ◌+◌, ◌⊎◌, inl, inr, Bool, true, false, cond, List, [], ◌∷◌, ◌++◌, map, length, nat_eq, refl, sym, ap, subst, arith, append_assoc, length-append}
use Rattle.std.specs.Prelude.{codes}
use Rattle.std.specs.List.{AllByRecursion, starts_with}
use Rattle.module_text.specs.TextReader.Fields.{IsNumberLine}
use Rattle.session_text.specs.Entries.{AreEntries, Entry, MayHave, colon_line}
use Rattle.session_text.specs.Front.{front_count}
use Rattle.session_text.specs.SessionForm.{AreBareLines, AreClockLines, AreCodeLines, AreOptions, AreSessionLines}
use Rattle.session_text.specs.Statements.{Statement, File, Task, At, Key, Go, States}
use Rattle.session_text.specs.declared.sessions.Session.{Session}
use Rattle.session_text.specs.declared.sessions.SessionLine.{SessionLine}
use Rattle.word_store.proofs.Elements.{all-append}

-- the line begins with `GO `
abbrev pub is_go : List ℕ → Bool
is_go line = starts_with nat_eq line (codes "GO ")

abbrev pub IsNoGo : List ℕ → Type 0
IsNoGo line = is_go line ≡ false

-- ---- the lines before the last

no_go_texts : (texts : List (List ℕ)) → AllByRecursion IsNoGo (map colon_line texts)
no_go_texts [] = tt
no_go_texts (text ∷ texts) = (refl, no_go_texts texts)

no_go_states : (x : Statement) (line : List ℕ) (texts : List (List ℕ)) → States x line → MayHave x texts → IsNoGo line
no_go_states (File name) line texts h m = ap is_go h.1
no_go_states (Task id pri stack names) line texts h m = ap is_go h.8
no_go_states (At step text) line texts h m = ap is_go h.3
no_go_states (Key step byte) line texts h m = ap is_go h.4
no_go_states (Go steps) line texts h m = absurd m

no_go_entries : (version : ℕ) (entries : List Entry) (lines : List (List ℕ)) → AreEntries version entries lines → AllByRecursion IsNoGo lines
no_go_entries version [] lines h = let none : lines ≡ [] = h in subst (AllByRecursion IsNoGo) (sym none) tt
no_go_entries version (entry ∷ entries) lines h =
    let e = h.3 in
    let front = subst (AllByRecursion IsNoGo) (sym e.all) (no_go_states entry.statement e.head entry.texts e.states e.texts_are, no_go_texts entry.texts) in
    subst (AllByRecursion IsNoGo) (sym h.2) (all-append IsNoGo h.0 h.1 front (no_go_entries version entries h.1 h.4))

no_go_codes : (n : ℕ) (code : List SessionLine) (lines : List (List ℕ)) → AreCodeLines n code lines → AllByRecursion IsNoGo lines
no_go_codes n [] [] h = tt
no_go_codes n [] (l ∷ ls) h = absurd h
no_go_codes n (c ∷ cs) [] h = absurd h
no_go_codes n (c ∷ cs) (l ∷ ls) h = let line = h.0 in (ap is_go line.2, no_go_codes (n + 1) cs ls h.1)

no_go_options : (resident debug : Bool) (lines : List (List ℕ)) → AreOptions resident debug lines → AllByRecursion IsNoGo lines
no_go_options true true lines h = let is : lines ≡ codes "RESIDENT" ∷ codes "DEBUG" ∷ [] = h in subst (AllByRecursion IsNoGo) (sym is) (refl, (refl, tt))
no_go_options true false lines h = let is : lines ≡ codes "RESIDENT" ∷ [] = h in subst (AllByRecursion IsNoGo) (sym is) (refl, tt)
no_go_options false true lines h = absurd h
no_go_options false false lines h = let is : lines ≡ [] = h in subst (AllByRecursion IsNoGo) (sym is) tt

no_go_machine : (s : Session) (lines : List (List ℕ)) → AreBareLines s lines ⊎ AreClockLines s lines → AllByRecursion IsNoGo lines
no_go_machine s lines (inl h) = subst (AllByRecursion IsNoGo) (sym h.all) (refl, no_go_codes 4 s.lines h.code h.code_lines)
no_go_machine s lines (inr h) =
    let rest = all-append IsNoGo h.options h.rest (no_go_options s.resident s.debug h.options h.option_lines) (no_go_entries s.version h.entries h.rest h.entry_lines) in
    subst (AllByRecursion IsNoGo) (sym h.all) (ap is_go h.tick_line.1, rest)

-- ---- how many lines a session has

front_count-by : (b : Bool) (n : ℕ) → b ≡ false → cond b 1 (n + 1) ≡ n + 1
front_count-by true n e = cc e
front_count-by false n e = refl

-- lines of which none begins so are all of the front
pub front_count-append : (lines rest : List (List ℕ)) → AllByRecursion IsNoGo lines → front_count (lines ++ rest) ≡ length lines + front_count rest
front_count-append [] rest h = omega arith
front_count-append (line ∷ lines) rest h =
    let more = front_count-append lines rest h.1 in
    let one = front_count-by (is_go line) (front_count (lines ++ rest)) h.0 in
    omega (arith, one, more)

front_count-go : (steps : ℕ) (line : List ℕ) (rest : List (List ℕ)) → IsNumberLine (codes "GO ") steps line → front_count (line ∷ rest) ≡ 1
front_count-go steps line rest h = ap (λ (l : List ℕ). front_count (l ∷ rest)) h.1

-- so the front is a session's lines, whatever follows them
pub front_count-session : (s : Session) (lines rest : List (List ℕ)) → AreSessionLines s lines → front_count (lines ++ rest) ≡ length lines
front_count-session s lines rest h =
    let front = h.version ∷ h.store ∷ h.machine in
    let none : AllByRecursion IsNoGo front = (ap is_go h.version_line.1, (ap is_go h.store_line.1, no_go_machine s h.machine h.machine_lines)) in
    let all : lines ≡ front ++ h.go ∷ [] = h.all in
    let behind : lines ++ rest ≡ front ++ h.go ∷ rest = ap (λ (ls : List (List ℕ)). ls ++ rest) all ∙ append_assoc front (h.go ∷ []) rest in
    let count = ap front_count behind ∙ front_count-append front (h.go ∷ rest) none in
    let last = front_count-go s.go h.go rest h.go_line in
    let size = ap length all in
    omega (arith, count, last, size, length-append front (h.go ∷ []))
