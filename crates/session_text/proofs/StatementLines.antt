-- What a line states, from its bytes and back.
use Rattle.std.proofs.Common.{◌≡◌, ◌∙◌, ℕ, ◌≤◌, true, cond, Option, Some, None, Result, Ok, Err, List, [], ◌∷◌, ◌++◌, length, nat_le, refl, sym, ap, subst, arith}
use Rattle.std.specs.Prelude.{codes, option_and_then, option_map}
use Rattle.std.specs.List.{list_all}
use Rattle.std.specs.Option.{option_map_or}
use Rattle.std.proofs.lemmas.Bool.{and_parts}
use Rattle.std.proofs.lemmas.Bool.Decides.{nat_tests}
use Rattle.std.proofs.lemmas.Option.{cond_some}
use Rattle.hex.specs.Hex.{decode_of}
use Rattle.hex.specs.declared.error.FromHexError.{FromHexError}
use Rattle.module_text.specs.TextReader.Fields.{after_word}
use Rattle.module_text.specs.TextReader.Numbers.{IsNumber, number_of}
use Rattle.module_text.proofs.TextReader.FieldLemmas.{after_word-ok}
use Rattle.module_text.proofs.TextReader.NumberLemmas.{number_in-again, number_in-ok}
use Rattle.session_text.specs.Entries.{names_fit}
use Rattle.session_text.specs.Ranges.{most_names}
use Rattle.session_text.specs.Statements.{Statement, File, Task, At, Key, Go, States, are_fields, at_of, fields, file_of, go_of, is_field, is_text, key_of, names_text, number_field, one_byte, statement_of, task_of}
use Rattle.session_text.proofs.Blanks.{fields-again, names_text-fields, number_field-again, number_field-ok}

-- ---- from what was stated to the bytes

file-ok : (rest : List ℕ) (x : Statement) → file_of rest ≡ Some x → States x (codes "FILE " ++ rest)
file-ok rest x e =
    let p = cond_some (is_field rest) (File rest) x e in
    subst (λ (y : Statement). States y (codes "FILE " ++ rest)) p.1 (p.0, refl)

some_field : (text : List ℕ) (parts : List (List ℕ)) → 32 ∷ text ≡ names_text parts → 1 ≤ length parts
some_field text [] e = cc e
some_field text (p ∷ ps) e = omega arith

-- names that were fields of a text
names_are : (most : ℕ) (text : List ℕ) → are_fields most (fields text) ≡ true → (1 ≤ length (fields text)) × (list_all is_field (fields text) ≡ true) × (length (fields text) ≤ most)
names_are most text e =
    let p = and_parts (list_all is_field (fields text)) (nat_le (length (fields text)) most) e in
    let few : nat_le (length (fields text)) most ≡ true = p.1 in
    (some_field text (fields text) (names_text-fields text), p.0, grind (arith, nat_tests))

-- the fields of a task, one by one
task_by : (most : ℕ) (rest : List ℕ) (x : Statement) (id pri stack : ℕ × List ℕ) → number_field rest ≡ Some id → number_field id.1 ≡ Some pri → number_field pri.1 ≡ Some stack
    → cond (are_fields most (fields stack.1)) (Some (Task id.0 pri.0 stack.0 (fields stack.1))) None ≡ Some x → States x (codes "TASK " ++ rest)
task_by most rest x id pri stack a b c e =
    let p = cond_some (are_fields most (fields stack.1)) (Task id.0 pri.0 stack.0 (fields stack.1)) x e in
    let n = names_are most stack.1 p.0 in
    let i = number_field-ok rest id a in
    let j = number_field-ok id.1 pri b in
    let k = number_field-ok pri.1 stack c in
    let text : rest ≡ i.0 ++ 32 ∷ (j.0 ++ 32 ∷ (k.0 ++ names_text (fields stack.1)))
    = i.2 ∙ ap (λ (t : List ℕ). i.0 ++ 32 ∷ t) (j.2 ∙ ap (λ (t : List ℕ). j.0 ++ 32 ∷ t) (k.2 ∙ ap (λ (t : List ℕ). k.0 ++ t) (names_text-fields stack.1))) in
    subst (λ (y : Statement). States y (codes "TASK " ++ rest)) p.1 (i.0, j.0, k.0, i.1, j.1, k.1, n.0, n.1, ap (λ (t : List ℕ). codes "TASK " ++ t) text)

-- a step that gave a value
pub and_then-ok : {A B : Type 0} (o : Option A) (f : A → Option B) (y : B) → option_and_then f o ≡ Some y → (x : A) × (o ≡ Some x) × (f x ≡ Some y)
and_then-ok None f y e = cc e
and_then-ok (Some x) f y e = (x, refl, e)

task-ok : (most : ℕ) (rest : List ℕ) (x : Statement) → task_of most rest ≡ Some x → States x (codes "TASK " ++ rest)
task-ok most rest x e =
    let a = and_then-ok (number_field rest) (λ id. option_and_then (λ pri. option_and_then (λ stack. cond (are_fields most (fields stack.1)) (Some (Task id.0 pri.0 stack.0 (fields stack.1))) None) (number_field pri.1)) (number_field id.1)) x e in
    let b = and_then-ok (number_field a.0.1) (λ pri. option_and_then (λ stack. cond (are_fields most (fields stack.1)) (Some (Task a.0.0 pri.0 stack.0 (fields stack.1))) None) (number_field pri.1)) x a.2 in
    let c = and_then-ok (number_field b.0.1) (λ stack. cond (are_fields most (fields stack.1)) (Some (Task a.0.0 b.0.0 stack.0 (fields stack.1))) None) x b.2 in
    task_by most rest x a.0 b.0 c.0 a.1 b.1 c.1 c.2

at-ok : (rest : List ℕ) (x : Statement) → at_of rest ≡ Some x → States x (codes "AT " ++ rest)
at-ok rest x e =
    let a = and_then-ok (number_field rest) (λ step. option_and_then (λ typed. cond (is_text typed) (Some (At step.0 typed)) None) (after_word (codes ":") step.1)) x e in
    let b = and_then-ok (after_word (codes ":") a.0.1) (λ typed. cond (is_text typed) (Some (At a.0.0 typed)) None) x a.2 in
    let p = cond_some (is_text b.0) (At a.0.0 b.0) x b.2 in
    let i = number_field-ok rest a.0 a.1 in
    let colon : a.0.1 ≡ codes ":" ++ b.0 = after_word-ok (codes ":") a.0.1 b.0 b.1 in
    let text : rest ≡ i.0 ++ (codes " :" ++ b.0) = i.2 ∙ ap (λ (t : List ℕ). i.0 ++ 32 ∷ t) colon in
    subst (λ (y : Statement). States y (codes "AT " ++ rest)) p.1 (i.0, i.1, p.0, ap (λ (t : List ℕ). codes "AT " ++ t) text)

-- the one byte that digits are
byte-ok : (d : Result (List ℕ) FromHexError) (byte : ℕ) → one_byte d ≡ Some byte → d ≡ Ok (byte ∷ [])
byte-ok (Ok []) byte e = cc e
byte-ok (Ok (b ∷ [])) byte e = let same : b ≡ byte = cc in ap (λ (x : ℕ). Ok (x ∷ [])) same
byte-ok (Ok (b ∷ c ∷ bytes)) byte e = cc e
byte-ok (Err d) byte e = cc e

key-ok : (rest : List ℕ) (x : Statement) → key_of rest ≡ Some x → States x (codes "KEY " ++ rest)
key-ok rest x e =
    let a = and_then-ok (number_field rest) (λ step. option_and_then (λ byte. Some (Key step.0 byte)) (one_byte (decode_of step.1))) x e in
    let b = and_then-ok (one_byte (decode_of a.0.1)) (λ byte. Some (Key a.0.0 byte)) x a.2 in
    let same : Key a.0.0 b.0 ≡ x = let h = b.2 in cc in
    let i = number_field-ok rest a.0 a.1 in
    subst (λ (y : Statement). States y (codes "KEY " ++ rest)) same (i.0, a.0.1, i.1, byte-ok (decode_of a.0.1) b.0 b.1, ap (λ (t : List ℕ). codes "KEY " ++ t) i.2)

go_by : (rest : List ℕ) (x : Statement) (o : Option ℕ) → number_of rest ≡ o → option_map (λ n. Go n) o ≡ Some x → States x (codes "GO " ++ rest)
go_by rest x None e h = cc h
go_by rest x (Some n) e h =
    let same : Go n ≡ x = cc in
    subst (λ (y : Statement). States y (codes "GO " ++ rest)) same (rest, refl, number_in-ok 10 10 rest n e)

go-ok : (rest : List ℕ) (x : Statement) → go_of rest ≡ Some x → States x (codes "GO " ++ rest)
go-ok rest x e = go_by rest x (number_of rest) refl e

-- what follows a word, or is found otherwise
word_by : (word line : List ℕ) (f : List ℕ → Option Statement) (d : Option Statement) (x : Statement) (o : Option (List ℕ)) → after_word word line ≡ o
    → ((rest : List ℕ) → f rest ≡ Some x → States x (word ++ rest)) → (d ≡ Some x → States x line) → option_map_or f o d ≡ Some x → States x line
word_by word line f d x None w here else_ e = else_ e
word_by word line f d x (Some rest) w here else_ e = subst (States x) (sym (after_word-ok word line rest w)) (here rest e)

module _ (line : List ℕ) (x : Statement) where
  or_word : (word : List ℕ) (f : List ℕ → Option Statement) (d : Option Statement)
      → ((rest : List ℕ) → f rest ≡ Some x → States x (word ++ rest)) → (d ≡ Some x → States x line) → option_map_or f (after_word word line) d ≡ Some x → States x line
  or_word word f d here else_ e = word_by word line f d x (after_word word line) refl here else_ e

-- what a line gave, it states
pub statement_of-ok : (version : ℕ) (line : List ℕ) (x : Statement) → statement_of version line ≡ Some x → States x line
unfolding statement_of
statement_of-ok version line x e =
    or_word line x (codes "FILE ") file_of _ (λ rest h. file-ok rest x h)
    (or_word line x (codes "TASK ") (task_of (most_names version)) _ (λ rest h. task-ok (most_names version) rest x h)
    (or_word line x (codes "AT ") at_of _ (λ rest h. at-ok rest x h)
    (or_word line x (codes "KEY ") key_of _ (λ rest h. key-ok rest x h)
    (or_word line x (codes "GO ") go_of None (λ rest h. go-ok rest x h) (λ h. cc h))))) e

-- ---- and back

task_again : (version : ℕ) (a b c : List ℕ) (id pri stack : ℕ) (names : List (List ℕ)) → IsNumber a id → IsNumber b pri → IsNumber c stack → 1 ≤ length names → list_all is_field names ≡ true
    → task_of (most_names version) (a ++ 32 ∷ (b ++ 32 ∷ (c ++ names_text names))) ≡ cond (names_fit version (Task id pri stack names)) (Some (Task id pri stack names)) None
task_again version a b c id pri stack [] i j k some h = absurd (omega arith)
task_again version a b c id pri stack (name ∷ more) i j k some h =
    let x = number_field-again a (b ++ 32 ∷ (c ++ names_text (name ∷ more))) id i in
    let y = number_field-again b (c ++ names_text (name ∷ more)) pri j in
    let z : number_field (c ++ names_text (name ∷ more)) ≡ Some (stack, name ++ names_text more) = number_field-again c (name ++ names_text more) stack k in
    let f = fields-again name more h in
    rw (x, y, z, f, h) refl

-- what a line states it gives, unless there are too many names
pub statement_of-again : (version : ℕ) (line : List ℕ) (x : Statement) → States x line → statement_of version line ≡ cond (names_fit version x) (Some x) None
unfolding statement_of
statement_of-again version line (File name) h = ap (statement_of version) h.1 ∙ rw h.0 refl
statement_of-again version line (Task id pri stack names) h =
    ap (statement_of version) h.8 ∙ task_again version h.0 h.1 h.2 id pri stack names h.3 h.4 h.5 h.6 h.7
statement_of-again version line (At step text) h =
    ap (statement_of version) h.3 ∙ rw (number_field-again h.0 (codes ":" ++ text) step h.1, h.2) refl
statement_of-again version line (Key step byte) h =
    ap (statement_of version) h.4 ∙ rw (number_field-again h.0 h.1 step h.2, h.3) refl
statement_of-again version line (Go steps) h =
    ap (statement_of version) h.1 ∙ rw (number_in-again 10 10 h.0 steps h.2) refl
