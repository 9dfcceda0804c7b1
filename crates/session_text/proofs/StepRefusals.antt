-- Why a step is refused.
use Rattle.std.proofs.Common.{◌≡◌, ◌∙◌, ℕ, ◌<◌, ◌≤◌, ◌^◌, inl, inr, Bool, true, false, cond, ◌&&◌, ◌==◌, Option, Some, None, Result, Ok, Err, List, [], ◌∷◌, ◌++◌, map, length, refl, sym, ap, subst, arith, nat_le}
use Rattle.std.specs.Prelude.{codes, decimal}
use Rattle.std.specs.List.{list_all}
use Rattle.std.specs.Option.{ok_or, option_map_or}
use Rattle.std.specs.Str.{bytes_eq}
use Rattle.std.proofs.lemmas.List.{length-map}
use Rattle.hex.specs.Hex.{decode_of}
use Rattle.hex.specs.declared.error.FromHexError.{FromHexError}
use Rattle.module_text.specs.TextReader.Fields.{IsNumberLine, after_word, number_line}
use Rattle.module_text.specs.TextReader.Refusal.{Refusal, refusal}
use Rattle.module_text.proofs.TextReader.FieldLemmas.{number_line-again, number_line-err}
use Rattle.module_text.proofs.TextReader.NumberLemmas.{decimal_number}
use Rattle.module_text.proofs.TextReader.StepLemmas.{Err-same, bind-err, cond-cases, guard-err, ok_or-err, ok_or-ok}
use Rattle.session_text.specs.Canonical.{statement_text}
use Rattle.session_text.specs.Entries.{is_in_range, names_fit}
use Rattle.session_text.specs.FileText.{with_text}
use Rattle.session_text.specs.Forms.{Form, Store, Tick, File, Task, At, Key, Go, Fixed, HasForm, HasStatement, form_of}
use Rattle.ram_disc.specs.Name.{is_name}
use Rattle.kernel_model.specs.KernelRecord.Ranges.{is_period, is_store_size}
use Rattle.session_text.specs.Ranges.{is_step, most_names}
use Rattle.session_text.specs.SessionOfText.{bytes_or_refusal, bytes_step, draft, entry_step, file_step, go_step, statement_step, step, store_step, tick_step, version_line, with_statement}
use Rattle.session_text.specs.SessionForm.{code_line}
use Rattle.session_text.specs.Statements.{Statement, File as FileOf, Task as TaskOf, At as AtOf, Key as KeyOf, Go as GoOf, States, is_field, is_text, statement_of}
use Rattle.session_text.specs.declared.drafts.Draft.{Draft}
use Rattle.session_text.specs.declared.drafts.Place.{Place}
use Rattle.session_text.specs.declared.drafts.Place.TheVariants.{Version as AtVersion, Store as AtStore, Machine as AtMachine, Code as AtCode, Resident as AtResident, Debug as AtDebug, Entry as AtEntry, Text as AtText, End as AtEnd}
use Rattle.session_text.specs.declared.sessions.Session.{Session}
use Rattle.session_text.proofs.Advances.{least_store}
use Rattle.session_text.proofs.Complete.{MayHaveEntry, enters, statement_again}
use Rattle.session_text.proofs.Sound.{entry_step-ok, fits_by}
use Rattle.session_text.proofs.StatementLines.{statement_of-again, statement_of-ok}
use Rattle.session_text.proofs.StatementTexts.{IsBytes-one, IsPrintable, states_text}
use Rattle.session_text.proofs.LineRefusals.{Accepts, IsEntryForm, IsWrong, MayComeAt, entry_from_place, shape, wrong_colon, wrong_form}

-- ---- numbers after a word

no_store : (form : Form) (line : List ℕ) → MayComeAt AtStore (shape form) → HasForm form line → ((v : ℕ) → ¬ IsNumberLine (codes "STORE ") v line) → ⊥
no_store Store line comes has none = none has.0 has.1
no_store Tick line comes has none = comes
no_store File line comes has none = comes
no_store (Task count) line comes has none = comes
no_store At line comes has none = comes
no_store Key line comes has none = comes
no_store Go line comes has none = comes
no_store (Fixed bytes) line comes has none = comes

no_tick : (form : Form) (line : List ℕ) → MayComeAt AtMachine (shape form) → HasForm form line → ((v : ℕ) → ¬ IsNumberLine (codes "TICK ") v line) → ⊥
no_tick Tick line comes has none = none has.0 has.1
no_tick Store line comes has none = comes
no_tick File line comes has none = comes
no_tick (Task count) line comes has none = comes
no_tick At line comes has none = comes
no_tick Key line comes has none = comes
no_tick Go line comes has none = comes
no_tick (Fixed bytes) line comes has none = comes

go_number : (x : Statement) (line : List ℕ) → States x line → form_of x ≡ Go → (v : ℕ) × IsNumberLine (codes "GO ") v line
go_number (FileOf name) line h e = cc e
go_number (TaskOf id pri stack names) line h e = cc e
go_number (AtOf k text) line h e = cc e
go_number (KeyOf k byte) line h e = cc e
go_number (GoOf steps) line h e = (steps, h)

no_go : (form : Form) (line : List ℕ) → MayComeAt AtCode (shape form) → HasForm form line → ((v : ℕ) → ¬ IsNumberLine (codes "GO ") v line) → ⊥
no_go Go line comes has none = let g = go_number has.0 line has.1 has.2 in none g.0 g.1
no_go Store line comes has none = comes
no_go Tick line comes has none = comes
no_go File line comes has none = comes
no_go (Task count) line comes has none = comes
no_go At line comes has none = comes
no_go Key line comes has none = comes
no_go (Fixed bytes) line comes has none = comes

-- ---- statements

-- a form has as many names as its version allows
abbrev form_fits : ℕ → Form → Bool
form_fits version (Task count) = nat_le count (most_names version)
form_fits version _ = true

names_fit-form : (version : ℕ) (x : Statement) → names_fit version x ≡ form_fits version (form_of x)
names_fit-form version (FileOf name) = refl
names_fit-form version (TaskOf id pri stack names) = refl
names_fit-form version (AtOf k text) = refl
names_fit-form version (KeyOf k byte) = refl
names_fit-form version (GoOf steps) = refl

none_fits : (b : Bool) (x : Statement) → cond b (Some x) None ≡ None → b ≡ true → ⊥
none_fits true x e t = cc e
none_fits false x e t = cc t

module _ (p : Place) (s : Session) (n : ℕ) (a : MayHaveEntry p) where
  -- the names of an accepted line are not too many
  accepted_fits : (line : List ℕ) (x : Statement) (e : Draft) → States x line → step (draft p s) n line ≡ Ok e → names_fit s.version x ≡ true
  accepted_fits line x e h ok =
      let y = entry_step-ok s n line e (sym (enters p s n line x a h) ∙ ok) in
      let some : statement_of s.version line ≡ Some y.statement = statement_of-again s.version line y.statement y.states ∙ rw y.fits refl in
      fits_by (names_fit s.version x) x y.statement (sym (statement_of-again s.version line x h) ∙ some)

  -- a line that states nothing has no form of an accepted line
  statement_lacks : (line : List ℕ) (form : Form) → statement_of s.version line ≡ None → HasStatement form line → (l : List ℕ) → HasStatement form l → (e : Draft) → step (draft p s) n l ≡ Ok e → ⊥
  statement_lacks line form none has l has_l e ok =
      let f = accepted_fits l has_l.0 e has_l.1 ok in
      let same : names_fit s.version has.0 ≡ names_fit s.version has_l.0
      = names_fit-form s.version has.0 ∙ ap (form_fits s.version) (has.2 ∙ sym has_l.2) ∙ sym (names_fit-form s.version has_l.0) in
      none_fits (names_fit s.version has.0) has.0 (sym (statement_of-again s.version line has.0 has.1) ∙ none) (same ∙ f)

  entry_lacks : (line : List ℕ) → statement_of s.version line ≡ None → (form : Form) → IsEntryForm (shape form) → Accepts (draft p s) n form → ¬ HasForm form line
  entry_lacks line none Store comes acc has = comes
  entry_lacks line none Tick comes acc has = comes
  entry_lacks line none File comes acc has = statement_lacks line File none has acc.0 acc.1 acc.2 acc.3
  entry_lacks line none (Task count) comes acc has = statement_lacks line (Task count) none has acc.0 acc.1 acc.2 acc.3
  entry_lacks line none At comes acc has = statement_lacks line At none has acc.0 acc.1 acc.2 acc.3
  entry_lacks line none Key comes acc has = statement_lacks line Key none has acc.0 acc.1 acc.2 acc.3
  entry_lacks line none Go comes acc has = statement_lacks line Go none has acc.0 acc.1 acc.2 acc.3
  entry_lacks line none (Fixed bytes) comes acc has = comes

has_form : (x : Statement) (line : List ℕ) → States x line → HasForm (form_of x) line
has_form (FileOf name) line h = (FileOf name, h, refl)
has_form (TaskOf id pri stack names) line h = (TaskOf id pri stack names, h, refl)
has_form (AtOf k text) line h = (AtOf k text, h, refl)
has_form (KeyOf k byte) line h = (KeyOf k byte, h, refl)
has_form (GoOf steps) line h = (GoOf steps, h, refl)

-- a statement of the same form whose numbers and names are in their ranges
abbrev sample : Statement → Statement
sample (FileOf name) = FileOf (codes "-")
sample (TaskOf id pri stack names) = TaskOf 5 1 20 (map (λ name. codes "-") names)
sample (AtOf k text) = AtOf 0 []
sample (KeyOf k byte) = KeyOf 0 0
sample (GoOf steps) = GoOf 0

form_of-sample : (x : Statement) → form_of (sample x) ≡ form_of x
form_of-sample (FileOf name) = refl
form_of-sample (TaskOf id pri stack names) = ap (λ (k : ℕ). Task k) (length-map names (λ name. codes "-"))
form_of-sample (AtOf k text) = refl
form_of-sample (KeyOf k byte) = refl
form_of-sample (GoOf steps) = refl

dashes_are_fields : (names : List (List ℕ)) → list_all is_field (map (λ name. codes "-") names) ≡ true
dashes_are_fields [] = refl
dashes_are_fields (name ∷ names) = dashes_are_fields names

dashes_are_names : (names : List (List ℕ)) → list_all is_name (map (λ name. codes "-") names) ≡ true
dashes_are_names [] = refl
dashes_are_names (name ∷ names) = dashes_are_names names

sample_prints : (x : Statement) (line : List ℕ) → States x line → IsPrintable (sample x)
sample_prints (FileOf name) line h = refl
sample_prints (TaskOf id pri stack names) line h =
    let some : 1 ≤ length (map (λ name. codes "-") names) = let f = h.6 in omega (arith, length-map names (λ name. codes "-")) in
    (omega arith, omega arith, omega arith, some, dashes_are_fields names)
sample_prints (AtOf k text) line h = (omega arith, refl)
sample_prints (KeyOf k byte) line h = (omega arith, IsBytes-one 0 (omega arith))
sample_prints (GoOf steps) line h = omega arith

least_task : (b : Bool) → (nat_le 5 5 && nat_le 5 (cond b 20 63)) ≡ true
least_task true = refl
least_task false = refl

sample_in_range : (version : ℕ) (x : Statement) → is_in_range version (sample x) ≡ true
sample_in_range version (FileOf name) = refl
sample_in_range version (TaskOf id pri stack names) = rw (least_task (version == 1), dashes_are_names names) refl
sample_in_range version (AtOf k text) = refl
sample_in_range version (KeyOf k byte) = refl
sample_in_range version (GoOf steps) = refl

-- ---- the steps

-- a line of a number, printed
pub number_printed : (word : List ℕ) (n : ℕ) → n < 10 ^ 10 → IsNumberLine word n (word ++ decimal n)
number_printed word n lt = (decimal n, refl, decimal_number n lt)

version_err : (n : ℕ) (r : Refusal) (one two : Bool) → cond {A = Result ℕ Refusal} one (Ok 1) (cond two (Ok 2) (Err (refusal n 1))) ≡ Err r → refusal n 1 ≡ r
version_err n r true two e = cc e
version_err n r false true e = cc e
version_err n r false false e = Err-same {A = ℕ} (refusal n 1) r e

bytes_err : (n : ℕ) (d : Result (List ℕ) FromHexError) (r : Refusal) → bytes_or_refusal n d ≡ Err r → refusal n 1 ≡ r
bytes_err n (Ok bytes) r e = cc e
bytes_err n (Err x) r e = Err-same {A = List ℕ} (refusal n 1) r e

module _ (p : Place) (s : Session) (n : ℕ) (line : List ℕ) (r : Refusal) (refused : step (draft p s) n line ≡ Err r) where
  -- an entry
  entry_wrong : MayHaveEntry p → entry_step s n line ≡ Err r → IsWrong (draft p s) n line r
  entry_wrong a e =
      elim (bind-err (ok_or (statement_of s.version line) (refusal n 1)) (statement_step s n) r e) [
        | inl q ↦
            let none = ok_or-err (statement_of s.version line) (refusal n 1) r q in
            wrong_form p s n line r refused none.1 (λ form comes accepts has. entry_lacks p s n a line none.0 form (entry_from_place p (shape form) a comes) accepts has)
        | inr q ↦
            let x = q.0 in
            let some = ok_or-ok (statement_of s.version line) (refusal n 1) x q.1 in
            let states = statement_of-ok s.version line x some in
            let g = guard-err (is_in_range s.version x) (with_statement s n x) (refusal n 2) r q.2 in
            let y = sample x in
            let printed = states_text y (sample_prints x line states) in
            let fit : names_fit s.version x ≡ true = fits_by (names_fit s.version x) x x (sym (statement_of-again s.version line x states) ∙ some) in
            let fits : names_fit s.version y ≡ true = names_fit-form s.version y ∙ ap (form_fits s.version) (form_of-sample x) ∙ sym (names_fit-form s.version x) ∙ fit in
            let has_y = subst (λ (f : Form). HasForm f (statement_text y)) (form_of-sample x) (has_form y (statement_text y) printed) in
            inr (g.1, (form_of x, (statement_text y, has_y, with_statement s n y, statement_again p s n (statement_text y) y a printed fits (sample_in_range s.version x)), has_form x line states))
      ]

-- a number after `GO`, on a bare machine
go_wrong : (s : Session) (n : ℕ) (line : List ℕ) (r : Refusal) → step (draft AtCode s) n line ≡ Err r → go_step s n line ≡ Err r → IsWrong (draft AtCode s) n line r
unfolding step
go_wrong s n line r refused e =
    elim (bind-err (number_line (codes "GO ") is_step n line) (λ go. Ok (draft AtEnd (record s { go = go }))) r e) [
      | inl p ↦
          elim (number_line-err (codes "GO ") is_step n line r p) [
            | inl q ↦ wrong_form AtCode s n line r refused q.0 (λ form comes accepts has. no_go form line comes has q.1)
            | inr q ↦
                let sample_line = codes "GO " ++ decimal 0 in
                let printed = number_printed (codes "GO ") 0 (omega arith) in
                let ok = number_line-again (codes "GO ") is_step n 0 sample_line printed refl in
                inr (q.0, (Go, (sample_line, (GoOf 0, printed, refl), draft AtEnd (record s { go = 0 }), rw ok refl), (GoOf q.1.number, q.1.line_is, refl)))
          ]
      | inr p ↦ cc p.2
    ]

code_wrong : (s : Session) (n : ℕ) (line : List ℕ) (r : Refusal) → step (draft AtCode s) n line ≡ Err r → (o : Option (List ℕ)) → after_word (codes ":") line ≡ o
    → option_map_or (bytes_step s n) o (go_step s n line) ≡ Err r → IsWrong (draft AtCode s) n line r
code_wrong s n line r refused None w e = go_wrong s n line r refused e
code_wrong s n line r refused (Some digits) w e =
    elim (bind-err (bytes_or_refusal n (decode_of digits)) (λ bytes. Ok (draft AtCode (record s { lines = s.lines ++ code_line n bytes ∷ [] }))) r e) [
      | inl p ↦ wrong_colon AtCode s n line r refused digits w (bytes_err n (decode_of digits) r p)
      | inr p ↦ cc p.2
    ]

text_wrong : (s : Session) (n : ℕ) (line : List ℕ) (r : Refusal) → step (draft AtText s) n line ≡ Err r → (o : Option (List ℕ)) → after_word (codes ":") line ≡ o
    → option_map_or (file_step s n) o (entry_step s n line) ≡ Err r → IsWrong (draft AtText s) n line r
text_wrong s n line r refused None w e = entry_wrong AtText s n line r refused tt e
text_wrong s n line r refused (Some text) w e =
    wrong_colon AtText s n line r refused text w (guard-err (is_text text) (draft AtText (record s { lines = with_text s.lines text })) (refusal n 1) r e).1

store_wrong : (s : Session) (n : ℕ) (line : List ℕ) (r : Refusal) → step (draft AtStore s) n line ≡ Err r → store_step s n line ≡ Err r → IsWrong (draft AtStore s) n line r
unfolding step
store_wrong s n line r refused e =
    elim (bind-err (number_line (codes "STORE ") (is_store_size s.version) n line) (λ store. Ok (draft AtMachine (record s { store = store }))) r e) [
      | inl p ↦
          elim (number_line-err (codes "STORE ") (is_store_size s.version) n line r p) [
            | inl q ↦ wrong_form AtStore s n line r refused q.0 (λ form comes accepts has. no_store form line comes has q.1)
            | inr q ↦
                let sample_line = codes "STORE " ++ decimal 1024 in
                let printed = number_printed (codes "STORE ") 1024 (omega arith) in
                let ok = number_line-again (codes "STORE ") (is_store_size s.version) n 1024 sample_line printed (least_store s.version) in
                inr (q.0, (Store, (sample_line, (1024, printed), draft AtMachine (record s { store = 1024 }), rw ok refl), (q.1.number, q.1.line_is)))
          ]
      | inr p ↦ cc p.2
    ]

tick_wrong : (s : Session) (n : ℕ) (line : List ℕ) (r : Refusal) → step (draft AtMachine s) n line ≡ Err r → tick_step s n line ≡ Err r → IsWrong (draft AtMachine s) n line r
unfolding step
tick_wrong s n line r refused e =
    elim (bind-err (number_line (codes "TICK ") is_period n line) (λ period. Ok (draft AtResident (record s { period = period }))) r e) [
      | inl p ↦
          elim (number_line-err (codes "TICK ") is_period n line r p) [
            | inl q ↦ wrong_form AtMachine s n line r refused q.0 (λ form comes accepts has. no_tick form line comes has q.1)
            | inr q ↦
                let sample_line = codes "TICK " ++ decimal 1 in
                let printed = number_printed (codes "TICK ") 1 (omega arith) in
                let ok = number_line-again (codes "TICK ") is_period n 1 sample_line printed refl in
                inr (q.0, (Tick, (sample_line, (1, printed), draft AtResident (record s { period = 1 }), rw ok refl), (q.1.number, q.1.line_is)))
          ]
      | inr p ↦ cc p.2
    ]

-- a refused line has no form that is there, or one but for its numbers and names
pub step-err : (p : Place) (s : Session) (n : ℕ) (line : List ℕ) (r : Refusal) → step (draft p s) n line ≡ Err r → IsWrong (draft p s) n line r
unfolding step
step-err AtVersion s n line r h =
    elim (bind-err (version_line n line) (λ version. Ok (draft AtStore (record s { version = version }))) r h) [
      | inl p ↦ wrong_form AtVersion s n line r h (version_err n r (bytes_eq line (codes "TRIPOS 1")) (bytes_eq line (codes "TRIPOS 2")) p) (λ form comes accepts has. comes)
      | inr p ↦ cc p.2
    ]
step-err AtStore s n line r h = store_wrong s n line r h h
step-err AtMachine s n line r h =
    elim (cond-cases (bytes_eq line (codes "BARE")) _ _ _ h) [
      | inl p ↦ let e = p.1 in cc e
      | inr p ↦ tick_wrong s n line r h p.1
    ]
step-err AtCode s n line r h = code_wrong s n line r h (after_word (codes ":") line) refl h
step-err AtResident s n line r h =
    elim (cond-cases (bytes_eq line (codes "RESIDENT")) _ _ _ h) [
      | inl p ↦ let e = p.1 in cc e
      | inr p ↦ entry_wrong AtResident s n line r h tt p.1
    ]
step-err AtDebug s n line r h =
    elim (cond-cases (bytes_eq line (codes "DEBUG")) _ _ _ h) [
      | inl p ↦ let e = p.1 in cc e
      | inr p ↦ entry_wrong AtDebug s n line r h tt p.1
    ]
step-err AtEntry s n line r h = entry_wrong AtEntry s n line r h tt h
step-err AtText s n line r h = text_wrong s n line r h (after_word (codes ":") line) refl h
step-err AtEnd s n line r h = wrong_form AtEnd s n line r h (Err-same {A = Draft} (refusal n 1) r h) (λ form comes accepts has. comes)
