-- Sessions with another value: when they are lawful, and what stays the same.
use Rattle.std.proofs.Common.{◌≡◌, ◌∙◌, ℕ, suc, ◌-◌, ◌≤◌, ◌==◌, ◌&&◌, ◌||◌, Bool, true, false, not, cond, List, [], ◌∷◌, length, map, eqb, refl, ap, subst, arith}
use Rattle.std.specs.Prelude.{IsTrue, nat_le}
use Rattle.std.specs.List.{AllByRecursion, list_all, list_any}
use Rattle.std.proofs.lemmas.Bool.{false≢true, leb-true}
use Rattle.ram_disc.specs.Name.{is_name}
use Rattle.kernel_model.specs.KernelRecord.Ranges.{is_period}
use Rattle.session_text.specs.Canonical.{IsLawful, IsLawfulForm, IsLawfulKey, IsLawfulMachine}
use Rattle.session_text.specs.Ranges.{is_priority, is_stack, is_step, is_task}
use Rattle.session_text.specs.declared.sessions.LineForm.{LineForm}
use Rattle.session_text.specs.declared.sessions.LineForm.TheVariants.{Code, File, Task}
use Rattle.session_text.specs.declared.sessions.Session.{Session}
use Rattle.session_text.specs.declared.sessions.SessionLine.{SessionLine}
use Rattle.show_run.specs.ValueTries.Settings.{form_with_priority, form_with_stack, is_form_of, is_in_range, is_line_of, is_there, keys_with, line_with_priority, line_with_stack, session_with}
use Rattle.show_run.specs.declared.value_tries.settings.Setting.{Setting}
use Rattle.show_run.specs.declared.value_tries.settings.Setting.TheVariants.{Tick, Key, Priority, Stack}

pub both : (a b : Bool) → (a && b) ≡ true → (a ≡ true) × (b ≡ true)
both true true h = (refl, refl)
both true false h = absurd (false≢true h)
both false b h = absurd (false≢true h)

-- ---- the period

tick-machine : (b : Bool) (v : ℕ) (s : Session) → not b ≡ true → IsLawfulMachine b s → IsTrue (is_period v) → IsLawfulMachine b (record s { period = v })
tick-machine true v s e h p = absurd (false≢true e)
tick-machine false v s e h p = (p, h.1, h.2)

tick-back : (b : Bool) (v : ℕ) (s : Session) → not b ≡ true → IsLawfulMachine b (record s { period = v }) → IsTrue (is_period v)
tick-back true v s e h = absurd (false≢true e)
tick-back false v s e h = h.0

-- ---- keys

all-keys : (n v : ℕ) (keys : List (ℕ × ℕ)) → IsTrue (is_step v) → AllByRecursion IsLawfulKey keys → AllByRecursion IsLawfulKey (keys_with n v keys)
all-keys n v [] p h = tt
all-keys n v (key ∷ keys) p h = elim (eqb n 1) as (λ b. AllByRecursion IsLawfulKey (cond b ((v, key.1) ∷ keys) (key ∷ keys_with (n - 1) v keys))) [
  | true ↦ ((p, h.0.1), h.1)
  | false ↦ (h.0, all-keys (n - 1) v keys p h.1)
]

-- a bare machine has no keys
no-key : (n : ℕ) (keys : List (ℕ × ℕ)) → keys ≡ [] → (nat_le 1 n && nat_le n (length keys)) ≡ true → ⊥
no-key n keys none h =
    let p = both (nat_le 1 n) (nat_le n (length keys)) h in
    omega (arith, leb-true 1 n p.0, leb-true n (length keys) p.1, ap length none)

key-machine : (b : Bool) (n v : ℕ) (s : Session) → is_there (Key n) s ≡ true → IsLawfulMachine b s → IsTrue (is_step v) → IsLawfulMachine b (record s { keys = keys_with n v s.keys })
key-machine true n v s there h p = absurd (no-key n s.keys h.keys there)
key-machine false n v s there h p = (h.0, h.1, all-keys n v s.keys p h.2)

key-step : (n v : ℕ) (keys : List (ℕ × ℕ)) → 1 ≤ n → n ≤ length keys → AllByRecursion IsLawfulKey (keys_with n v keys) → IsTrue (is_step v)
key-step n v [] low high h = absurd (omega (arith, low, high))
key-step n v (key ∷ keys) low high h = go (λ l m k. key-step (n - 1) v keys l m k) (eqb n 1) refl h
  where
    go : (1 ≤ n - 1 → n - 1 ≤ length keys → AllByRecursion IsLawfulKey (keys_with (n - 1) v keys) → IsTrue (is_step v)) → (b : Bool) → eqb n 1 ≡ b
        → AllByRecursion IsLawfulKey (cond b ((v, key.1) ∷ keys) (key ∷ keys_with (n - 1) v keys)) → IsTrue (is_step v)
    go more true e k = k.0.0
    go more false e k = more (grind (arith, e, low)) (omega (arith, high)) k.1

key-back : (b : Bool) (n v : ℕ) (s : Session) → is_there (Key n) s ≡ true → IsLawfulMachine b s → IsLawfulMachine b (record s { keys = keys_with n v s.keys }) → IsTrue (is_step v)
key-back true n v s there h k = absurd (no-key n s.keys h.keys there)
key-back false n v s there h k =
    let p = both (nat_le 1 n) (nat_le n (length s.keys)) there in
    key-step n v s.keys (leb-true 1 n p.0) (leb-true n (length s.keys) p.1) k.2

keys-twice : (n v w : ℕ) (keys : List (ℕ × ℕ)) → keys_with n w (keys_with n v keys) ≡ keys_with n w keys
keys-twice n v w [] = refl
keys-twice n v w (key ∷ keys) = go (keys-twice (n - 1) v w keys) (eqb n 1) refl
  where
    go : keys_with (n - 1) w (keys_with (n - 1) v keys) ≡ keys_with (n - 1) w keys → (b : Bool) → eqb n 1 ≡ b → keys_with n w (keys_with n v (key ∷ keys)) ≡ keys_with n w (key ∷ keys)
    go more true e = rw (e, e)
    go more false e = rw (e, e) (ap (λ ks. key ∷ ks) more)

length-keys : (n v : ℕ) (keys : List (ℕ × ℕ)) → length (keys_with n v keys) ≡ length keys
length-keys n v [] = refl
length-keys n v (key ∷ keys) = elim (eqb n 1) as (λ b. length (cond b ((v, key.1) ∷ keys) (key ∷ keys_with (n - 1) v keys)) ≡ suc (length keys)) [
  | true ↦ refl
  | false ↦ ap suc (length-keys (n - 1) v keys)
]

-- ---- tasks

all-mapped : {X Y : Type 0} (P : X → Type 0) (Q : Y → Type 0) (f : X → Y) → ((x : X) → P x → Q (f x)) → (xs : List X) → AllByRecursion P xs → AllByRecursion Q (map f xs)
all-mapped P Q f each [] h = tt
all-mapped P Q f each (x ∷ xs) h = (each x h.0, all-mapped P Q f each xs h.1)

map-twice : {X : Type 0} (f g : X → X) → ((x : X) → g (f x) ≡ g x) → (xs : List X) → map g (map f xs) ≡ map g xs
map-twice f g each [] = refl
map-twice f g each (x ∷ xs) = ap (λ y. y ∷ map g (map f xs)) (each x) ∙ ap (λ ys. g x ∷ ys) (map-twice f g each xs)

any-mapped : {X : Type 0} (p : X → Bool) (f : X → X) → ((x : X) → p (f x) ≡ p x) → (xs : List X) → list_any p (map f xs) ≡ list_any p xs
any-mapped p f each [] = refl
any-mapped p f each (x ∷ xs) = ap (λ b. b || list_any p (map f xs)) (each x) ∙ ap (λ b. p x || b) (any-mapped p f each xs)

from-mapped : {X : Type 0} (P : X → Type 0) (f : X → X) (xs : List X) → AllByRecursion P (map f xs) → AllByRecursion (λ x. P (f x)) xs
from-mapped P f [] h = tt
from-mapped P f (x ∷ xs) h = (h.0, from-mapped P f xs h.1)

-- what is said of the task's line, where there is one
at-task : {X : Type 0} (p : X → Bool) (P : X → Type 0) (Q : Type 0) → ((x : X) → p x ≡ true → P x → Q) → (xs : List X) → list_any p xs ≡ true → AllByRecursion P xs → Q
at-task p P Q says [] any h = absurd (false≢true any)
at-task p P Q says (x ∷ xs) any h = go (λ more. at-task p P Q says xs more h.1) (p x) refl any
  where
    go : (list_any p xs ≡ true → Q) → (b : Bool) → p x ≡ b → (b || list_any p xs) ≡ true → Q
    go rest true e k = says x e h.0
    go rest false e k = rest k

-- the ranges of a task's numbers, of which one is replaced
ranges-priority : (a p q s n : Bool) → (a && p && s && n) ≡ true → q ≡ true → (a && q && s && n) ≡ true
ranges-priority a p q s n h e = grind (arith, h, e)

ranges-stack : (a p s t n : Bool) → (a && p && s && n) ≡ true → t ≡ true → (a && p && t && n) ≡ true
ranges-stack a p s t n h e = grind (arith, h, e)

of-priority : (a p s n : Bool) → (a && p && s && n) ≡ true → p ≡ true
of-priority a p s n h = grind (arith, h)

of-stack : (a p s n : Bool) → (a && p && s && n) ≡ true → s ≡ true
of-stack a p s n h = grind (arith, h)

priority-form : (b : Bool) (version task v : ℕ) (form : LineForm) → IsTrue (is_priority v) → IsLawfulForm b version form → IsLawfulForm b version (form_with_priority task v form)
priority-form true version task v (Code bytes) p h = h
priority-form true version task v (File name bytes) p h = absurd h
priority-form true version task v (Task id pri stack names) p h = absurd h
priority-form false version task v (Code bytes) p h = absurd h
priority-form false version task v (File name bytes) p h = h
priority-form false version task v (Task id pri stack names) p h = (
  h.0,
  h.1,
  elim (id == task) as (λ b. IsTrue (is_task version id && is_priority (cond b v pri) && is_stack stack && list_all is_name names)) [
    | true ↦ ranges-priority (is_task version id) (is_priority pri) (is_priority v) (is_stack stack) (list_all is_name names) h.2 p
    | false ↦ h.2
  ],
)

stack-form : (b : Bool) (version task v : ℕ) (form : LineForm) → IsTrue (is_stack v) → IsLawfulForm b version form → IsLawfulForm b version (form_with_stack task v form)
stack-form true version task v (Code bytes) p h = h
stack-form true version task v (File name bytes) p h = absurd h
stack-form true version task v (Task id pri stack names) p h = absurd h
stack-form false version task v (Code bytes) p h = absurd h
stack-form false version task v (File name bytes) p h = h
stack-form false version task v (Task id pri stack names) p h = (
  h.0,
  h.1,
  elim (id == task) as (λ b. IsTrue (is_task version id && is_priority pri && is_stack (cond b v stack) && list_all is_name names)) [
    | true ↦ ranges-stack (is_task version id) (is_priority pri) (is_stack stack) (is_stack v) (list_all is_name names) h.2 p
    | false ↦ h.2
  ],
)

priority-back : (b : Bool) (version task v : ℕ) (form : LineForm) → is_form_of task form ≡ true → IsLawfulForm b version (form_with_priority task v form) → IsTrue (is_priority v)
priority-back b version task v (Code bytes) e h = absurd (false≢true e)
priority-back b version task v (File name bytes) e h = absurd (false≢true e)
priority-back true version task v (Task id pri stack names) e h = absurd h
priority-back false version task v (Task id pri stack names) e h =
    of-priority (is_task version id) (is_priority v) (is_stack stack) (list_all is_name names)
    (subst (λ b. IsTrue (is_task version id && is_priority (cond b v pri) && is_stack stack && list_all is_name names)) e h.2)

stack-back : (b : Bool) (version task v : ℕ) (form : LineForm) → is_form_of task form ≡ true → IsLawfulForm b version (form_with_stack task v form) → IsTrue (is_stack v)
stack-back b version task v (Code bytes) e h = absurd (false≢true e)
stack-back b version task v (File name bytes) e h = absurd (false≢true e)
stack-back true version task v (Task id pri stack names) e h = absurd h
stack-back false version task v (Task id pri stack names) e h =
    of-stack (is_task version id) (is_priority pri) (is_stack v) (list_all is_name names)
    (subst (λ b. IsTrue (is_task version id && is_priority pri && is_stack (cond b v stack) && list_all is_name names)) e h.2)

priority-twice : (task v w : ℕ) (form : LineForm) → form_with_priority task w (form_with_priority task v form) ≡ form_with_priority task w form
priority-twice task v w (Code bytes) = refl
priority-twice task v w (File name bytes) = refl
priority-twice task v w (Task id pri stack names) =
    elim (id == task) as (λ b. Task id (cond b w (cond b v pri)) stack names ≡ Task id (cond b w pri) stack names) [ true ↦ refl | false ↦ refl ]

stack-twice : (task v w : ℕ) (form : LineForm) → form_with_stack task w (form_with_stack task v form) ≡ form_with_stack task w form
stack-twice task v w (Code bytes) = refl
stack-twice task v w (File name bytes) = refl
stack-twice task v w (Task id pri stack names) =
    elim (id == task) as (λ b. Task id pri (cond b w (cond b v stack)) names ≡ Task id pri (cond b w stack) names) [ true ↦ refl | false ↦ refl ]

priority-of : (task v : ℕ) (form : LineForm) → is_form_of task (form_with_priority task v form) ≡ is_form_of task form
priority-of task v (Code bytes) = refl
priority-of task v (File name bytes) = refl
priority-of task v (Task id pri stack names) = refl

stack-of : (task v : ℕ) (form : LineForm) → is_form_of task (form_with_stack task v form) ≡ is_form_of task form
stack-of task v (Code bytes) = refl
stack-of task v (File name bytes) = refl
stack-of task v (Task id pri stack names) = refl

lines-machine : (b : Bool) (lines : List SessionLine) (s : Session) → IsLawfulMachine b s → IsLawfulMachine b (record s { lines = lines })
lines-machine true lines s h = record { bare = h.bare; period = h.period; resident = h.resident; debug = h.debug; keys = h.keys }
lines-machine false lines s h = h

-- ---- sessions

-- a session with a value in its range is lawful
pub lawful-with : (k : Setting) (v : ℕ) (s : Session) → IsLawful s → is_there k s ≡ true → is_in_range k v ≡ true → IsLawful (session_with k v s)
lawful-with Tick v s h there p = record { version = h.version; store = h.store; machine = tick-machine s.bare v s there h.machine p; lines = h.lines; steps = h.steps }
lawful-with (Key n) v s h there p = record { version = h.version; store = h.store; machine = key-machine s.bare n v s there h.machine p; lines = h.lines; steps = h.steps }
lawful-with (Priority task) v s h there p = record {
  version = h.version;
  store = h.store;
  machine = lines-machine s.bare (map (line_with_priority task v) s.lines) s h.machine;
  lines = all-mapped (λ (line : SessionLine). IsLawfulForm s.bare s.version line.form) (λ (line : SessionLine). IsLawfulForm s.bare s.version line.form) (line_with_priority task v)
      (λ line l. priority-form s.bare s.version task v line.form p l) s.lines h.lines;
  steps = h.steps;
}
lawful-with (Stack task) v s h there p = record {
  version = h.version;
  store = h.store;
  machine = lines-machine s.bare (map (line_with_stack task v) s.lines) s h.machine;
  lines = all-mapped (λ (line : SessionLine). IsLawfulForm s.bare s.version line.form) (λ (line : SessionLine). IsLawfulForm s.bare s.version line.form) (line_with_stack task v)
      (λ line l. stack-form s.bare s.version task v line.form p l) s.lines h.lines;
  steps = h.steps;
}

-- one with a value out of its range is not
pub range-from-lawful : (k : Setting) (v : ℕ) (s : Session) → IsLawful s → is_there k s ≡ true → IsLawful (session_with k v s) → is_in_range k v ≡ true
range-from-lawful Tick v s h there l = tick-back s.bare v s there l.machine
range-from-lawful (Key n) v s h there l = key-back s.bare n v s there h.machine l.machine
range-from-lawful (Priority task) v s h there l =
    at-task (is_line_of task) (λ (line : SessionLine). IsLawfulForm s.bare s.version (form_with_priority task v line.form)) (IsTrue (is_priority v))
    (λ line e f. priority-back s.bare s.version task v line.form e f) s.lines there
    (from-mapped (λ (line : SessionLine). IsLawfulForm s.bare s.version line.form) (line_with_priority task v) s.lines l.lines)
range-from-lawful (Stack task) v s h there l =
    at-task (is_line_of task) (λ (line : SessionLine). IsLawfulForm s.bare s.version (form_with_stack task v line.form)) (IsTrue (is_stack v))
    (λ line e f. stack-back s.bare s.version task v line.form e f) s.lines there
    (from-mapped (λ (line : SessionLine). IsLawfulForm s.bare s.version line.form) (line_with_stack task v) s.lines l.lines)

-- a value that was set before leaves nothing
pub set-twice : (k : Setting) (v w : ℕ) (s : Session) → session_with k w (session_with k v s) ≡ session_with k w s
set-twice Tick v w s = refl
set-twice (Key n) v w s = ap (λ (keys : List (ℕ × ℕ)). record s { keys = keys }) (keys-twice n v w s.keys)
set-twice (Priority task) v w s =
    ap (λ (lines : List SessionLine). record s { lines = lines })
    (map-twice (line_with_priority task v) (line_with_priority task w) (λ line. ap (λ (form : LineForm). record line { form = form }) (priority-twice task v w line.form)) s.lines)
set-twice (Stack task) v w s =
    ap (λ (lines : List SessionLine). record s { lines = lines })
    (map-twice (line_with_stack task v) (line_with_stack task w) (λ line. ap (λ (form : LineForm). record line { form = form }) (stack-twice task v w line.form)) s.lines)

-- what is set is there as before
pub there-with : (k : Setting) (v : ℕ) (s : Session) → is_there k (session_with k v s) ≡ is_there k s
there-with Tick v s = refl
there-with (Key n) v s = ap (λ m. nat_le 1 n && nat_le n m) (length-keys n v s.keys)
there-with (Priority task) v s = any-mapped (is_line_of task) (line_with_priority task v) (λ line. priority-of task v line.form) s.lines
there-with (Stack task) v s = any-mapped (is_line_of task) (line_with_stack task v) (λ line. stack-of task v line.form) s.lines
