-- Lines that are refused, and why.
use Rattle.std.proofs.Common.{◌≡◌, ◌∙◌, ℕ, ◌⊎◌, inl, inr, Bool, true, cond, Option, Some, None, Ok, Err, List, [], ◌++◌, refl, sym, ap, subst, nat_eq}
use Rattle.std.specs.Prelude.{codes}
use Rattle.std.specs.List.{starts_with}
use Rattle.std.specs.Option.{option_map_or}
use Rattle.std.specs.Str.{bytes_eq}
use Rattle.std.proofs.lemmas.Slice.Eq.{bytes_eq-Decides}
use Rattle.module_text.specs.TextReader.Fields.{after_word, number_line}
use Rattle.module_text.specs.TextReader.Refusal.{Refusal, refusal}
use Rattle.module_text.proofs.TextReader.FieldLemmas.{after_word-ok, number_line-ok}
use Rattle.module_text.proofs.TextReader.StepLemmas.{bind-ok, cond-cases}
use Rattle.session_text.specs.Forms.{Form, Store, Tick, File, Task, At, Key, Go, Fixed, HasForm, HasStatement, form_of}
use Rattle.kernel_model.specs.KernelRecord.Ranges.{is_period, is_store_size}
use Rattle.session_text.specs.Ranges.{is_step}
use Rattle.session_text.specs.SessionOfText.{bytes_step, draft, entry_step, file_step, go_step, step, version_line}
use Rattle.session_text.specs.Statements.{Statement, File as FileOf, Task as TaskOf, At as AtOf, Key as KeyOf, Go as GoOf, States}
use Rattle.session_text.specs.declared.drafts.Draft.{Draft}
use Rattle.session_text.specs.declared.drafts.Place.{Place}
use Rattle.session_text.specs.declared.drafts.Place.TheVariants.{Version as AtVersion, Store as AtStore, Machine as AtMachine, Code as AtCode, Resident as AtResident, Debug as AtDebug, Entry as AtEntry, Text as AtText, End as AtEnd}
use Rattle.session_text.specs.declared.sessions.Session.{Session}
use Rattle.session_text.proofs.Complete.{MayHaveEntry}
use Rattle.session_text.proofs.Sound.{entry_step-ok, version_ok}

-- ---- the kinds of lines

-- a form without its numbers: a count of names, or the bytes of a line
abbrev pub shape : Form → Form
shape Store = Store
shape Tick = Tick
shape File = File
shape (Task count) = Task 0
shape At = At
shape Key = Key
shape Go = Go
shape (Fixed bytes) = Fixed []

-- the shape that a line's first bytes tell
abbrev kind : List ℕ → Form
kind line =
    cond (starts_with nat_eq line (codes "STORE ")) Store
    (cond (starts_with nat_eq line (codes "TICK ")) Tick
    (cond (starts_with nat_eq line (codes "FILE ")) File
    (cond (starts_with nat_eq line (codes "TASK ")) (Task 0)
    (cond (starts_with nat_eq line (codes "AT ")) At
    (cond (starts_with nat_eq line (codes "KEY ")) Key
    (cond (starts_with nat_eq line (codes "GO ")) Go
    (Fixed [])))))))

kind-states : (x : Statement) (line : List ℕ) → States x line → kind line ≡ shape (form_of x)
kind-states (FileOf name) line h = ap kind h.1
kind-states (TaskOf id pri stack names) line h = ap kind h.8
kind-states (AtOf k text) line h = ap kind h.3
kind-states (KeyOf k byte) line h = ap kind h.4
kind-states (GoOf steps) line h = ap kind h.1

kind-statement : (form : Form) (line : List ℕ) → HasStatement form line → kind line ≡ shape form
kind-statement form line h = kind-states h.0 line h.1 ∙ ap shape h.2

-- a line with a number or a name has the kind of its form
kind-form : (form : Form) (line : List ℕ) → HasForm form line → (form ≡ Fixed line) ⊎ (kind line ≡ shape form)
kind-form Store line h = inr (ap kind h.1.1)
kind-form Tick line h = inr (ap kind h.1.1)
kind-form File line h = inr (kind-statement File line h)
kind-form (Task count) line h = inr (kind-statement (Task count) line h)
kind-form At line h = inr (kind-statement At line h)
kind-form Key line h = inr (kind-statement Key line h)
kind-form Go line h = inr (kind-statement Go line h)
kind-form (Fixed bytes) line h = inl (ap (λ (l : List ℕ). Fixed l) (sym h))

-- a line of no such kind has a form of its own
fixed_form : (form : Form) (line : List ℕ) → HasForm form line → shape form ≡ Fixed [] → form ≡ Fixed line
fixed_form Store line h e = cc e
fixed_form Tick line h e = cc e
fixed_form File line h e = cc e
fixed_form (Task count) line h e = cc e
fixed_form At line h e = cc e
fixed_form Key line h e = cc e
fixed_form Go line h e = cc e
fixed_form (Fixed bytes) line h e = ap (λ (l : List ℕ). Fixed l) (sym h)

-- ---- which forms are where

-- lines of this shape state something
abbrev pub IsEntryForm : Form → Type 0
IsEntryForm Store = ⊥
IsEntryForm Tick = ⊥
IsEntryForm (Fixed bytes) = ⊥
IsEntryForm _ = Unit {0}

-- lines of this shape may be at the place
abbrev pub MayComeAt : Place → Form → Type 0
MayComeAt AtStore Store = Unit {0}
MayComeAt AtMachine Tick = Unit {0}
MayComeAt AtCode Go = Unit {0}
MayComeAt AtResident form = IsEntryForm form
MayComeAt AtDebug form = IsEntryForm form
MayComeAt AtEntry form = IsEntryForm form
MayComeAt AtText form = IsEntryForm form
MayComeAt _ _ = ⊥

pub entry_from_place : (p : Place) (form : Form) → MayHaveEntry p → MayComeAt p form → IsEntryForm form
entry_from_place AtResident form a h = h
entry_from_place AtDebug form a h = h
entry_from_place AtEntry form a h = h
entry_from_place AtText form a h = h
entry_from_place AtVersion form a h = absurd a
entry_from_place AtStore form a h = absurd a
entry_from_place AtMachine form a h = absurd a
entry_from_place AtCode form a h = absurd a
entry_from_place AtEnd form a h = absurd a

entry_may_come : (p : Place) (form : Form) → MayHaveEntry p → IsEntryForm form → MayComeAt p form
entry_may_come AtResident form a h = h
entry_may_come AtDebug form a h = h
entry_may_come AtEntry form a h = h
entry_may_come AtText form a h = h
entry_may_come AtVersion form a h = absurd a
entry_may_come AtStore form a h = absurd a
entry_may_come AtMachine form a h = absurd a
entry_may_come AtCode form a h = absurd a
entry_may_come AtEnd form a h = absurd a

-- no line without a number or a name is among them
not_fixed : (p : Place) → ¬ MayComeAt p (Fixed [])
not_fixed AtResident h = h
not_fixed AtDebug h = h
not_fixed AtEntry h = h
not_fixed AtText h = h
not_fixed AtVersion h = h
not_fixed AtStore h = h
not_fixed AtMachine h = h
not_fixed AtCode h = h
not_fixed AtEnd h = h

abbrev IsKindAt : Place → List ℕ → Type 0
IsKindAt p line = (kind line ≡ Fixed []) ⊎ MayComeAt p (kind line)

-- a statement is at each place for entries
statement_may_come : (p : Place) (x : Statement) → MayHaveEntry p → MayComeAt p (shape (form_of x))
statement_may_come p (FileOf name) a = entry_may_come p File a tt
statement_may_come p (TaskOf id pri stack names) a = entry_may_come p (Task 0) a tt
statement_may_come p (AtOf k text) a = entry_may_come p At a tt
statement_may_come p (KeyOf k byte) a = entry_may_come p Key a tt
statement_may_come p (GoOf steps) a = entry_may_come p Go a tt

-- an accepted entry
entry_kind : (p : Place) (s : Session) (n : ℕ) (line : List ℕ) (e : Draft) → MayHaveEntry p → entry_step s n line ≡ Ok e → IsKindAt p line
entry_kind p s n line e a h =
    let x = entry_step-ok s n line e h in
    inr (subst (MayComeAt p) (sym (kind-states x.statement line x.states)) (statement_may_come p x.statement a))

word_kind : (p : Place) (line word : List ℕ) → kind word ≡ Fixed [] → bytes_eq line word ≡ true → IsKindAt p line
word_kind p line word k t = inl (ap kind ((bytes_eq-Decides line word).0 t) ∙ k)

number_kind : (p : Place) (word : List ℕ) (k : Form) (test : ℕ → Bool) (n v : ℕ) (line : List ℕ) → ((digits : List ℕ) → kind (word ++ digits) ≡ k) → MayComeAt p k → number_line word test n line ≡ Ok v → IsKindAt p line
number_kind p word k test n v line is comes h =
    let g = number_line-ok word test n line v h in
    inr (subst (MayComeAt p) (sym (ap kind g.0.1 ∙ is g.0.0)) comes)

colon_kind : (p : Place) (line rest : List ℕ) → after_word (codes ":") line ≡ Some rest → IsKindAt p line
colon_kind p line rest w = inl (ap kind (after_word-ok (codes ":") line rest w))

code_kind : (s : Session) (n : ℕ) (line : List ℕ) (e : Draft) (o : Option (List ℕ)) → after_word (codes ":") line ≡ o → option_map_or (bytes_step s n) o (go_step s n line) ≡ Ok e → IsKindAt AtCode line
code_kind s n line e None w h =
    let b = bind-ok (number_line (codes "GO ") is_step n line) (λ go. Ok (draft AtEnd (record s { go = go }))) e h in
    number_kind AtCode (codes "GO ") Go is_step n b.0 line (λ digits. refl) tt b.1
code_kind s n line e (Some digits) w h = colon_kind AtCode line digits w

text_kind : (s : Session) (n : ℕ) (line : List ℕ) (e : Draft) (o : Option (List ℕ)) → after_word (codes ":") line ≡ o → option_map_or (file_step s n) o (entry_step s n line) ≡ Ok e → IsKindAt AtText line
text_kind s n line e None w h = entry_kind AtText s n line e tt h
text_kind s n line e (Some text) w h = colon_kind AtText line text w

-- an accepted line is of a kind that may be there
accepted_kind : (p : Place) (s : Session) (n : ℕ) (line : List ℕ) (e : Draft) → step (draft p s) n line ≡ Ok e → IsKindAt p line
unfolding step
accepted_kind AtVersion s n line e h =
    let b = bind-ok (version_line n line) (λ version. Ok (draft AtStore (record s { version = version }))) e h in
    inl (ap kind (version_ok n line b.0 b.1).1)
accepted_kind AtStore s n line e h =
    let b = bind-ok (number_line (codes "STORE ") (is_store_size s.version) n line) (λ store. Ok (draft AtMachine (record s { store = store }))) e h in
    number_kind AtStore (codes "STORE ") Store (is_store_size s.version) n b.0 line (λ digits. refl) tt b.1
accepted_kind AtMachine s n line e h =
    elim (cond-cases (bytes_eq line (codes "BARE")) _ _ _ h) [
      | inl p ↦ word_kind AtMachine line (codes "BARE") refl p.0
      | inr p ↦
          let b = bind-ok (number_line (codes "TICK ") is_period n line) (λ period. Ok (draft AtResident (record s { period = period }))) e p.1 in
          number_kind AtMachine (codes "TICK ") Tick is_period n b.0 line (λ digits. refl) tt b.1
    ]
accepted_kind AtCode s n line e h = code_kind s n line e (after_word (codes ":") line) refl h
accepted_kind AtResident s n line e h =
    elim (cond-cases (bytes_eq line (codes "RESIDENT")) _ _ _ h) [
      | inl p ↦ word_kind AtResident line (codes "RESIDENT") refl p.0
      | inr p ↦ entry_kind AtResident s n line e tt p.1
    ]
accepted_kind AtDebug s n line e h =
    elim (cond-cases (bytes_eq line (codes "DEBUG")) _ _ _ h) [
      | inl p ↦ word_kind AtDebug line (codes "DEBUG") refl p.0
      | inr p ↦ entry_kind AtDebug s n line e tt p.1
    ]
accepted_kind AtEntry s n line e h = entry_kind AtEntry s n line e tt h
accepted_kind AtText s n line e h = text_kind s n line e (after_word (codes ":") line) refl h
accepted_kind AtEnd s n line e h = cc h

-- so a form that has an accepted line has that line alone, or is there
accepted_form : (p : Place) (s : Session) (n : ℕ) (form : Form) (line : List ℕ) (e : Draft) → HasForm form line → step (draft p s) n line ≡ Ok e → (form ≡ Fixed line) ⊎ MayComeAt p (shape form)
accepted_form p s n form line e has h =
    elim (kind-form form line has) [
      | inl fixed ↦ inl fixed
      | inr is ↦
          elim (accepted_kind p s n line e h) [
            | inl other ↦ inl (fixed_form form line has (sym is ∙ other))
            | inr comes ↦ inr (subst (MayComeAt p) is comes)
          ]
    ]

-- ---- why a line is refused

-- some line of the form is accepted
abbrev pub Accepts : Draft → ℕ → Form → Type 0
Accepts d n form = (line : List ℕ) × HasForm form line × (e : Draft) × (step d n line ≡ Ok e)

-- no form of which some line is accepted has the line, or one has it but for its numbers and names
abbrev pub IsWrong : Draft → ℕ → List ℕ → Refusal → Type 0
IsWrong d n line r =
    ((refusal n 1 ≡ r) × ((form : Form) → Accepts d n form → ¬ HasForm form line))
    ⊎ ((refusal n 2 ≡ r) × ((form : Form) × Accepts d n form × HasForm form line))

-- a line that has none of the forms that are there
module _ (p : Place) (s : Session) (n : ℕ) (line : List ℕ) (r : Refusal) (refused : step (draft p s) n line ≡ Err r) where
  pub wrong_form : refusal n 1 ≡ r → ((form : Form) → MayComeAt p (shape form) → Accepts (draft p s) n form → ¬ HasForm form line) → IsWrong (draft p s) n line r
  wrong_form code lacks = inl (
    code,
    λ form accepts has. elim (accepted_form p s n form accepts.0 accepts.2 accepts.1 accepts.3) [
      | inl fixed ↦
          let same : line ≡ accepts.0 = subst (λ (f : Form). HasForm f line) fixed has in
          cc (sym refused ∙ ap (step (draft p s) n) same ∙ accepts.3)
      | inr comes ↦ lacks form comes accepts has
    ],
  )

  -- a line that begins with a colon has none
  pub wrong_colon : (rest : List ℕ) → after_word (codes ":") line ≡ Some rest → refusal n 1 ≡ r → IsWrong (draft p s) n line r
  wrong_colon rest w code =
      let fixed : kind line ≡ Fixed [] = ap kind (after_word-ok (codes ":") line rest w) in
      wrong_form code (λ form comes accepts has. elim (kind-form form line has) [
        | inl same ↦ not_fixed p (subst (λ (f : Form). MayComeAt p (shape f)) same comes)
        | inr is ↦ not_fixed p (subst (MayComeAt p) (sym is ∙ fixed) comes)
      ])
