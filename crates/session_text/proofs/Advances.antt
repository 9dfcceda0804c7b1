-- How far the lines of a text are read.
use Rattle.std.proofs.Common.{◌≡◌, ◌∙◌, ℕ, ◌+◌, ◌==◌, ◌%◌, ◌&&◌, ◌⊎◌, inl, inr, Bool, true, false, cond, Result, Ok, Err, List, [], ◌∷◌, ◌++◌, length, refl, ap, subst, arith, nat_le}
use Rattle.std.specs.Prelude.{codes}
use Rattle.module_text.specs.TextReader.Refusal.{Refusal, refusal}
use Rattle.module_text.specs.TextReader.Steps.{◌>>=◌}
use Rattle.module_text.proofs.TextReader.StepLemmas.{Err-same, bind-err, bind-ok}
use Rattle.kernel_model.specs.KernelRecord.Ranges.{is_store_size}
use Rattle.session_text.specs.SessionForm.{AreSessionLines}
use Rattle.session_text.specs.SessionOfText.{draft, ended, first_draft, read_on, step}
use Rattle.session_text.specs.Statements.{statement_of}
use Rattle.session_text.specs.declared.drafts.Draft.{Draft}
use Rattle.session_text.specs.declared.drafts.Place.{Place}
use Rattle.session_text.specs.declared.drafts.Place.TheVariants.{Version as AtVersion, Store as AtStore, Machine as AtMachine, Code as AtCode, Resident as AtResident, Debug as AtDebug, Entry as AtEntry, Text as AtText, End as AtEnd}
use Rattle.session_text.specs.declared.sessions.Session.{Session}
use Rattle.session_text.proofs.Complete.{complete_lines}
use Rattle.session_text.proofs.Sound.{sound_lines}

-- the draft after lines from line n on
abbrev pub advance : Draft → ℕ → List (List ℕ) → Result Draft Refusal
advance d n [] = Ok d
advance d n (line ∷ lines) = step d n line >>= λ next. advance next (n + 1) lines

-- ---- lines before others

-- where the lines before are accepted
pub read_on-behind : (d e : Draft) (n m : ℕ) (front rest : List (List ℕ)) → m ≡ n + length front → advance d n front ≡ Ok e → read_on d n (front ++ rest) ≡ read_on e m rest
read_on-behind d e n m [] rest k h =
    let same : d ≡ e = cc in
    let number : n ≡ m = omega arith in
    rw (same, number) refl
read_on-behind d e n m (line ∷ front) rest k h =
    let a = bind-ok (step d n line) (λ next. advance next (n + 1) front) e h in
    rw a.1 (read_on-behind a.0 e (n + 1) m front rest (omega arith) a.2)

advance-cons : (d e f : Draft) (n : ℕ) (line : List ℕ) (front : List (List ℕ)) → step d n line ≡ Ok e → advance e (n + 1) front ≡ Ok f → advance d n (line ∷ front) ≡ Ok f
advance-cons d e f n line front h k = rw h k

-- where all lines are accepted, those before are
pub advance-front : (d e : Draft) (n : ℕ) (front rest : List (List ℕ)) → advance d n (front ++ rest) ≡ Ok e → (f : Draft) × (advance d n front ≡ Ok f)
advance-front d e n [] rest h = (d, refl)
advance-front d e n (line ∷ front) rest h =
    let a = bind-ok (step d n line) (λ next. advance next (n + 1) (front ++ rest)) e h in
    let b = advance-front a.0 e (n + 1) front rest a.2 in
    (b.0, advance-cons d a.0 b.0 n line front a.1 b.1)

last_is : (r : Result Draft Refusal) → (r >>= λ next. Ok next) ≡ r
last_is (Ok d) = refl
last_is (Err e) = refl

-- one line more
pub advance-more : (d e : Draft) (n m : ℕ) (front : List (List ℕ)) (line : List ℕ) → m ≡ n + length front → advance d n front ≡ Ok e → advance d n (front ++ line ∷ []) ≡ step e m line
advance-more d e n m [] line k h =
    let same : d ≡ e = cc in
    let number : n ≡ m = omega arith in
    rw (same, number) (last_is (step e m line))
advance-more d e n m (l ∷ front) line k h =
    let a = bind-ok (step d n l) (λ next. advance next (n + 1) front) e h in
    rw a.1 (advance-more a.0 e (n + 1) m front line (omega arith) a.2)

-- lines that were read were accepted
pub advance-read : (d : Draft) (n : ℕ) (lines : List (List ℕ)) (s : Session) → read_on d n lines ≡ Ok s → (e : Draft) × (advance d n lines ≡ Ok e)
advance-read d n [] s h = (d, refl)
advance-read d n (line ∷ lines) s h =
    let a = bind-ok (step d n line) (λ next. read_on next (n + 1) lines) s h in
    let b = advance-read a.0 (n + 1) lines s a.2 in
    (b.0, advance-cons d a.0 b.0 n line lines a.1 b.1)

-- ---- where a reading stops

-- a line is refused, and those before it are accepted
pub record StopsAt (d : Draft) (n : ℕ) (lines : List (List ℕ)) (r : Refusal) : Type 0 where
  pub front : List (List ℕ)
  pub line : List ℕ
  pub after : List (List ℕ)
  pub all : lines ≡ front ++ line ∷ after
  pub at : Draft
  pub before : advance d n front ≡ Ok at
  pub stops : step at (n + length front) line ≡ Err r

-- all lines are accepted, and more are wanted
pub record EndsAt (d : Draft) (n : ℕ) (lines : List (List ℕ)) (r : Refusal) : Type 0 where
  pub at : Draft
  pub before : advance d n lines ≡ Ok at
  pub refused : refusal (n + length lines) 3 ≡ r

pub ended_err : (p : Place) (s : Session) (n : ℕ) (r : Refusal) → ended p s n ≡ Err r → refusal n 3 ≡ r
ended_err AtVersion s n r e = Err-same {A = Session} (refusal n 3) r e
ended_err AtStore s n r e = Err-same {A = Session} (refusal n 3) r e
ended_err AtMachine s n r e = Err-same {A = Session} (refusal n 3) r e
ended_err AtCode s n r e = Err-same {A = Session} (refusal n 3) r e
ended_err AtResident s n r e = Err-same {A = Session} (refusal n 3) r e
ended_err AtDebug s n r e = Err-same {A = Session} (refusal n 3) r e
ended_err AtEntry s n r e = Err-same {A = Session} (refusal n 3) r e
ended_err AtText s n r e = Err-same {A = Session} (refusal n 3) r e
ended_err AtEnd s n r e = cc e

-- one line more before the place
stops_more : (d e : Draft) (n : ℕ) (line : List ℕ) (lines : List (List ℕ)) (r : Refusal) → step d n line ≡ Ok e → StopsAt e (n + 1) lines r → StopsAt d n (line ∷ lines) r
stops_more d e n line lines r h s = record {
  front = line ∷ s.front;
  line = s.line;
  after = s.after;
  all = ap (λ (ls : List (List ℕ)). line ∷ ls) s.all;
  at = s.at;
  before = rw h s.before;
  stops = subst (λ (k : ℕ). step s.at k s.line ≡ Err r) (omega arith) s.stops;
}

ends_more : (d e : Draft) (n : ℕ) (line : List ℕ) (lines : List (List ℕ)) (r : Refusal) → step d n line ≡ Ok e → EndsAt e (n + 1) lines r → EndsAt d n (line ∷ lines) r
ends_more d e n line lines r h s = record {
  at = s.at;
  before = rw h s.before;
  refused = ap (λ (k : ℕ). refusal k 3) (omega arith) ∙ s.refused;
}

pub read_on-err : (d : Draft) (n : ℕ) (lines : List (List ℕ)) (r : Refusal) → read_on d n lines ≡ Err r → StopsAt d n lines r ⊎ EndsAt d n lines r
read_on-err d n [] r h = inr (record { at = d; before = refl; refused = ap (λ (k : ℕ). refusal k 3) (omega arith) ∙ ended_err d.place d.session n r h })
read_on-err d n (line ∷ lines) r h =
    elim (bind-err (step d n line) (λ next. read_on next (n + 1) lines) r h) [
      | inl p ↦ inl (record {
        front = [];
        line = line;
        after = lines;
        all = refl;
        at = d;
        before = refl;
        stops = subst (λ (k : ℕ). step d k line ≡ Err r) (omega arith) p;
      })
      | inr p ↦
          elim (read_on-err p.0 (n + 1) lines r p.2) [
            | inl s ↦ inl (stops_more d p.0 n line lines r p.1 s)
            | inr s ↦ inr (ends_more d p.0 n line lines r p.1 s)
          ]
    ]

-- ---- each draft goes on to a session

-- the least store is lawful in each version
least_by : (b : Bool) → (nat_le 1024 1024 && nat_le 1024 (cond b 262144 4194304) && (1024 % 2 == 0)) ≡ true
least_by true = refl
least_by false = refl

pub least_store : (version : ℕ) → is_store_size version 1024 ≡ true
least_store version = least_by (version == 1)

pub session_behind : (p : Place) (s : Session) (n : ℕ) → (rest : List (List ℕ)) × (whole : Session) × (read_on (draft p s) n rest ≡ Ok whole)
unfolding step statement_of
session_behind AtVersion s n = (codes "TRIPOS 1" ∷ codes "STORE 1024" ∷ codes "BARE" ∷ codes "GO 0" ∷ [], _, refl)
session_behind AtStore s n = (codes "STORE 1024" ∷ codes "BARE" ∷ codes "GO 0" ∷ [], record s { store = 1024; bare = true; go = 0 }, rw (least_store s.version) refl)
session_behind AtMachine s n = (codes "BARE" ∷ codes "GO 0" ∷ [], _, refl)
session_behind AtCode s n = (codes "GO 0" ∷ [], _, refl)
session_behind AtResident s n = (codes "GO 0" ∷ [], _, refl)
session_behind AtDebug s n = (codes "GO 0" ∷ [], _, refl)
session_behind AtEntry s n = (codes "GO 0" ∷ [], _, refl)
session_behind AtText s n = (codes "GO 0" ∷ [], _, refl)
session_behind AtEnd s n = ([], s, refl)

-- ---- lines with which the lines of some session begin

abbrev pub BeginLines : List (List ℕ) → Type 0
BeginLines front = (s : Session) × (more : List (List ℕ)) × AreSessionLines s (front ++ more)

-- they are accepted
pub advance-begin : (front : List (List ℕ)) → BeginLines front → (d : Draft) × (advance first_draft 1 front ≡ Ok d)
advance-begin front b =
    let a = advance-read first_draft 1 (front ++ b.1) b.0 (complete_lines (front ++ b.1) b.0 b.2) in
    advance-front first_draft a.0 1 front b.1 a.1

-- and accepted lines are such lines
pub begin_lines-advance : (front : List (List ℕ)) (d : Draft) → advance first_draft 1 front ≡ Ok d → BeginLines front
begin_lines-advance front d h =
    let b = session_behind d.place d.session (1 + length front) in
    let read = read_on-behind first_draft d 1 (1 + length front) front b.0 refl h ∙ b.2 in
    (b.1, b.0, sound_lines (front ++ b.0) b.1 read)
