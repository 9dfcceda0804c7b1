-- Where the reading of the right machine's session stops.
use Rattle.std.proofs.Common.{◌≡◌, ◌∙◌, ℕ, ◌+◌, ◌<◌, ◌≤◌, ◌⊎◌, inl, inr, Bool, true, false, cond, Result, Ok, Err, List, [], ◌∷◌, ◌++◌, length, nat_lt, refl, sym, ap, subst, arith, append-nil}
use Rattle.std.specs.Prelude.{codes}
use Rattle.std.proofs.lemmas.Bool.{ltb-true}
use Rattle.std.proofs.lemmas.Bool.Decides.{nat_tests}
use Rattle.module_text.specs.TextReader.Fields.{number_line}
use Rattle.module_text.specs.TextReader.Refusal.{Refusal, refusal}
use Rattle.module_text.specs.TextReader.Steps.{◌>>=◌}
use Rattle.module_text.proofs.TextReader.StepLemmas.{Err-same, Ok-same, bind-ok}
use Rattle.session_text.specs.SessionOfText.{draft, first_draft, read_on, session_lines, step, version_line}
use Rattle.session_text.specs.Statements.{statement_of}
use Rattle.session_text.specs.declared.drafts.Draft.{Draft}
use Rattle.session_text.specs.declared.drafts.Place.TheVariants.{Store as AtStore, Machine as AtMachine}
use Rattle.session_text.specs.declared.sessions.Session.{Session}
use Rattle.session_text.proofs.Advances.{StopsAt, advance, advance-front, advance-read, least_store, read_on-behind, read_on-err, session_behind}
use Rattle.session_text.proofs.StepRefusals.{step-err}
use Rattle.machine_ring.specs.RingLink.Machines.{bare_refusal, behind, has_bare, kernel_lines, refusal_behind}
use Rattle.machine_ring.specs.declared.ring_link.inputs.RingInput.{RingInput}
use Rattle.machine_ring.proofs.RingLink.RefusedLines.{wrong_code, wrong_line}
use Rattle.machine_ring.proofs.RingLink.Stops.{IsLineCode, IsReader, Reader, Stops}

-- ---- lines that go on to a session with a kernel

-- some lines that begin with these are such a session's
abbrev GoesOn : List (List ℕ) → Type 0
GoesOn front = (rest : List (List ℕ)) × (s : Session) × (kernel_lines (front ++ rest) ≡ Ok s)

kernel_is : (lines : List (List ℕ)) (s : Session) → has_bare lines ≡ false → session_lines lines ≡ Ok s → kernel_lines lines ≡ Ok s
kernel_is lines s e h = rw e h

from_store : (s : Session) → (whole : Session) × (read_on (draft AtStore s) 2 (codes "STORE 1024" ∷ codes "TICK 1" ∷ codes "GO 0" ∷ []) ≡ Ok whole)
unfolding step statement_of
from_store s = (record s { store = 1024; period = 1; lines = s.lines ++ []; keys = s.keys ++ []; go = 0 }, rw (least_store s.version) refl)

from_machine : (s : Session) → (whole : Session) × (read_on (draft AtMachine s) 3 (codes "TICK 1" ∷ codes "GO 0" ∷ []) ≡ Ok whole)
unfolding step statement_of
from_machine s = (record s { period = 1; lines = s.lines ++ []; keys = s.keys ++ []; go = 0 }, refl)

first_step : (line : List ℕ) (at : Draft) → step first_draft 1 line ≡ Ok at → (s : Session) × (draft AtStore s ≡ at)
unfolding step
first_step line at e =
    let after : ℕ → Session = λ version. record first_draft.session { version = version } in
    let b = bind-ok (version_line 1 line) (λ version. Ok (draft AtStore (after version))) at e in
    (after b.0, Ok-same {E = Refusal} (draft AtStore (after b.0)) at b.2)

second_step : (s : Session) (line : List ℕ) (at : Draft) → step (draft AtStore s) 2 line ≡ Ok at → (t : Session) × (draft AtMachine t ≡ at)
unfolding step
second_step s line at e =
    let after : ℕ → Session = λ store. record s { store = store } in
    let b = bind-ok (number_line (codes "STORE ") _ 2 line) (λ store. Ok (draft AtMachine (after store))) at e in
    (after b.0, Ok-same {E = Refusal} (draft AtMachine (after b.0)) at b.2)

one_on : (a : List ℕ) (s : Session) → step first_draft 1 a ≡ Ok (draft AtStore s) → GoesOn (a ∷ [])
one_on a s e = let w = from_store s in (codes "STORE 1024" ∷ codes "TICK 1" ∷ codes "GO 0" ∷ [], w.0, rw e w.1)

two_on : (a b : List ℕ) (s t : Session) → step first_draft 1 a ≡ Ok (draft AtStore s) → step (draft AtStore s) 2 b ≡ Ok (draft AtMachine t) → GoesOn (a ∷ b ∷ [])
two_on a b s t e f = let w = from_machine t in (codes "TICK 1" ∷ codes "GO 0" ∷ [], w.0, rw (e, f) w.1)

last_is : (r : Result Draft Refusal) (at : Draft) → (r >>= λ next. Ok next) ≡ Ok at → r ≡ Ok at
last_is (Ok d) at e = e
last_is (Err q) at e = cc e

goes_on : (front : List (List ℕ)) (at : Draft) → advance first_draft 1 front ≡ Ok at → has_bare front ≡ false → GoesOn front
unfolding step statement_of
goes_on [] at h e = (codes "TRIPOS 1" ∷ codes "STORE 1024" ∷ codes "TICK 1" ∷ codes "GO 0" ∷ [], _, refl)
goes_on (a ∷ []) at h e =
    let one = last_is (step first_draft 1 a) at h in
    let s = first_step a at one in
    one_on a s.0 (one ∙ ap (λ (d : Draft). Ok d) (sym s.1))
goes_on (a ∷ b ∷ []) at h e =
    let x = bind-ok (step first_draft 1 a) (λ next. advance next 2 (b ∷ [])) at h in
    let two = last_is (step x.0 2 b) at x.2 in
    let s = first_step a x.0 x.1 in
    let same : step (draft AtStore s.0) 2 b ≡ Ok at = ap (λ (d : Draft). step d 2 b) s.1 ∙ two in
    let t = second_step s.0 b at same in
    two_on a b s.0 t.0 (x.1 ∙ ap (λ (d : Draft). Ok d) (sym s.1)) (same ∙ ap (λ (d : Draft). Ok d) (sym t.1))
goes_on (a ∷ b ∷ c ∷ fs) at h e =
    let front = a ∷ b ∷ c ∷ fs in
    let w = session_behind at.place at.session (1 + length front) in
    (w.0, w.1, kernel_is (front ++ w.0) w.1 e (read_on-behind first_draft at 1 (1 + length front) front w.0 refl h ∙ w.2))

-- ---- the third line

has_bare-front : (a x : List (List ℕ)) → has_bare (a ++ x) ≡ false → has_bare a ≡ false
has_bare-front [] x e = refl
has_bare-front (a ∷ []) x e = refl
has_bare-front (a ∷ b ∷ []) x e = refl
has_bare-front (a ∷ b ∷ c ∷ fs) x e = e

has_bare-short : (a : List (List ℕ)) → length a ≤ 2 → has_bare a ≡ false
has_bare-short [] e = refl
has_bare-short (a ∷ []) e = refl
has_bare-short (a ∷ b ∷ []) e = refl
has_bare-short (a ∷ b ∷ c ∷ fs) e = absurd (omega arith)

below : (n : ℕ) (b : Bool) → nat_lt n 3 ≡ b → n < 3 → b ≡ true
below n b e h = grind (arith, nat_tests)

not_below : (n : ℕ) (b : Bool) → nat_lt n 3 ≡ b → 3 ≤ n → b ≡ false
not_below n b e h = grind (arith, nat_tests)

short_by : (b : Bool) (lines : List (List ℕ)) (q : Refusal) → session_lines lines ≡ Err q → q.line < 3 → cond b (Err (bare_refusal (session_lines lines))) (session_lines lines) ≡ Err q
short_by true lines q e low = rw (e, below q.line (nat_lt q.line 3) refl low) refl
short_by false lines q e low = e

-- a refusal before the third line is that of the session
kernel-short : (lines : List (List ℕ)) (q : Refusal) → session_lines lines ≡ Err q → q.line < 3 → kernel_lines lines ≡ Err q
kernel-short lines q e low = short_by (has_bare lines) lines q e low

kernel-long : (lines : List (List ℕ)) (q : Refusal) → has_bare lines ≡ false → session_lines lines ≡ Err q → kernel_lines lines ≡ Err q
kernel-long lines q e h = rw e h

-- a line that was refused is refused whatever follows
kernel-again : (front : List (List ℕ)) (line : List ℕ) (after more : List (List ℕ)) (q : Refusal) → has_bare (front ++ line ∷ after) ≡ false → session_lines (front ++ line ∷ more) ≡ Err q
    → q.line ≡ 1 + length front → kernel_lines (front ++ line ∷ more) ≡ Err q
kernel-again [] line after more q e h n = kernel-short (line ∷ more) q h (omega arith)
kernel-again (a ∷ []) line after more q e h n = kernel-short (a ∷ line ∷ more) q h (omega arith)
kernel-again (a ∷ b ∷ []) line after more q e h n = kernel-long (a ∷ b ∷ line ∷ more) q e h
kernel-again (a ∷ b ∷ c ∷ fs) line after more q e h n = kernel-long (a ∷ b ∷ c ∷ (fs ++ line ∷ more)) q e h

-- ---- where it stops

record KernelStops (lines : List (List ℕ)) (q : Refusal) : Type 0 where
  pub front : List (List ℕ)
  pub back : List (List ℕ)
  pub all : lines ≡ front ++ back
  pub number : q.line ≡ 1 + length front
  pub before : GoesOn front
  pub why : ((back ≡ []) × (q.code ≡ 3)) ⊎ ((line : List ℕ) × (rest : List (List ℕ)) × (back ≡ line ∷ rest) × IsLineCode q.code × ((more : List (List ℕ)) → kernel_lines (front ++ line ∷ more) ≡ Err q))

session_again : (lines : List (List ℕ)) (q : Refusal) (s : StopsAt first_draft 1 lines q) (more : List (List ℕ)) → session_lines (s.front ++ s.line ∷ more) ≡ Err q
session_again lines q s more = read_on-behind first_draft s.at 1 (1 + length s.front) s.front (s.line ∷ more) refl s.before ∙ rw s.stops refl

-- at a line, by what that line then is
stops_line : (lines : List (List ℕ)) (q : Refusal) (s : StopsAt first_draft 1 lines q) → has_bare s.front ≡ false → (q.line ≡ 1 + length s.front → (more : List (List ℕ)) → kernel_lines (s.front ++ s.line ∷ more) ≡ Err q) → KernelStops lines q
stops_line lines q s none again =
    let wrong = step-err s.at.place s.at.session (1 + length s.front) s.line q s.stops in
    let number = sym (wrong_line s.at (1 + length s.front) s.line q wrong) in
    record {
      front = s.front;
      back = s.line ∷ s.after;
      all = s.all;
      number = number;
      before = goes_on s.front s.at s.before none;
      why = inr (s.line, s.after, refl, wrong_code s.at (1 + length s.front) s.line q wrong, again number);
    }

-- with no `BARE`
clock_stops : (lines : List (List ℕ)) (q : Refusal) → has_bare lines ≡ false → session_lines lines ≡ Err q → KernelStops lines q
clock_stops lines q e h =
    elim (read_on-err first_draft 1 lines q h) [
      | inl s ↦
          let has : has_bare (s.front ++ s.line ∷ s.after) ≡ false = ap has_bare (sym s.all) ∙ e in
          stops_line lines q s (has_bare-front s.front (s.line ∷ s.after) has) (λ number more. kernel-again s.front s.line s.after more q has (session_again lines q s more) number)
      | inr s ↦ record {
        front = lines;
        back = [];
        all = sym (append-nil lines);
        number = sym (ap (λ (x : Refusal). x.line) s.refused);
        before = goes_on lines s.at s.before e;
        why = inl (refl, sym (ap (λ (x : Refusal). x.code) s.refused));
      }
    ]

-- with it, and a line before it refused
early_stops : (lines : List (List ℕ)) (q : Refusal) → 3 ≤ length lines → session_lines lines ≡ Err q → q.line < 3 → KernelStops lines q
early_stops lines q long h low =
    elim (read_on-err first_draft 1 lines q h) [
      | inl s ↦
          let number = wrong_line s.at (1 + length s.front) s.line q (step-err s.at.place s.at.session (1 + length s.front) s.line q s.stops) in
          stops_line lines q s (has_bare-short s.front (omega arith)) (λ same more. kernel-short (s.front ++ s.line ∷ more) q (session_again lines q s more) low)
      | inr s ↦ let number = ap (λ (x : Refusal). x.line) s.refused in absurd (omega arith)
    ]

-- two lines before it are accepted
accepted_by : (a b : List ℕ) (tail front : List (List ℕ)) (line : List ℕ) (after : List (List ℕ)) (at : Draft) → a ∷ b ∷ tail ≡ front ++ line ∷ after → advance first_draft 1 front ≡ Ok at → 2 ≤ length front
    → (e : Draft) × (advance first_draft 1 (a ∷ b ∷ []) ≡ Ok e)
accepted_by a b tail [] line after at all h long = absurd (omega arith)
accepted_by a b tail (x ∷ []) line after at all h long = absurd (omega arith)
accepted_by a b tail (x ∷ y ∷ fs) line after at all h long =
    let one : x ≡ a = cc all in
    let two : y ≡ b = cc all in
    let front = advance-front first_draft at 1 (x ∷ y ∷ []) fs h in
    (front.0, ap (λ (l : List ℕ). advance first_draft 1 (l ∷ b ∷ [])) (sym one) ∙ ap (λ (l : List ℕ). advance first_draft 1 (x ∷ l ∷ [])) (sym two) ∙ front.1)

two_accepted : (a b : List ℕ) (tail : List (List ℕ)) (o : Result Session Refusal) → session_lines (a ∷ b ∷ tail) ≡ o → ((q : Refusal) → o ≡ Err q → 3 ≤ q.line)
    → (e : Draft) × (advance first_draft 1 (a ∷ b ∷ []) ≡ Ok e)
two_accepted a b tail (Ok s) h late =
    let all = advance-read first_draft 1 (a ∷ b ∷ tail) s h in
    advance-front first_draft all.0 1 (a ∷ b ∷ []) tail all.1
two_accepted a b tail (Err q) h late =
    let low = late q refl in
    elim (read_on-err first_draft 1 (a ∷ b ∷ tail) q h) [
      | inl s ↦
          let number = wrong_line s.at (1 + length s.front) s.line q (step-err s.at.place s.at.session (1 + length s.front) s.line q s.stops) in
          accepted_by a b tail s.front s.line s.after s.at s.all s.before (omega arith)
      | inr s ↦ advance-front first_draft s.at 1 (a ∷ b ∷ []) tail s.before
    ]

read_on-low : (d : Draft) (n : ℕ) (lines : List (List ℕ)) (q : Refusal) → read_on d n lines ≡ Err q → n ≤ q.line
read_on-low d n lines q h =
    elim (read_on-err d n lines q h) [
      | inl s ↦ let number = wrong_line s.at (n + length s.front) s.line q (step-err s.at.place s.at.session (n + length s.front) s.line q s.stops) in omega arith
      | inr s ↦ let number = ap (λ (x : Refusal). x.line) s.refused in omega arith
    ]

late_by : (o : Result Session Refusal) → ((q : Refusal) → o ≡ Err q → 3 ≤ q.line) → bare_refusal o ≡ refusal 3 1
late_by (Ok s) late = refl
late_by (Err q) late = rw (not_below q.line (nat_lt q.line 3) refl (late q refl)) refl

bare_by : (lines : List (List ℕ)) → has_bare lines ≡ true → (o : Result Session Refusal) → session_lines lines ≡ o → bare_refusal o ≡ refusal 3 1 → kernel_lines lines ≡ Err (refusal 3 1)
bare_by lines e o h f = rw (e, h) (ap (λ (x : Refusal). Err x) f)

-- with it, and the lines before it accepted
third_stops : (a b c : List ℕ) (rest : List (List ℕ)) → has_bare (a ∷ b ∷ c ∷ rest) ≡ true → (at : Draft) → advance first_draft 1 (a ∷ b ∷ []) ≡ Ok at → KernelStops (a ∷ b ∷ c ∷ rest) (refusal 3 1)
third_stops a b c rest e at h = record {
  front = a ∷ b ∷ [];
  back = c ∷ rest;
  all = refl;
  number = refl;
  before = goes_on (a ∷ b ∷ []) at h refl;
  why = inr (
    c,
    rest,
    refl,
    inl refl,
    λ more.
        let lines = a ∷ b ∷ c ∷ more in
        let behind_two = read_on-behind first_draft at 1 3 (a ∷ b ∷ []) (c ∷ more) refl h in
        let late : (q : Refusal) → session_lines lines ≡ Err q → 3 ≤ q.line = λ q f. read_on-low at 3 (c ∷ more) q (sym behind_two ∙ f) in
        bare_by lines e (session_lines lines) refl (late_by (session_lines lines) late),
  );
}

early_by : (b : Bool) (p q : Refusal) → b ≡ true → cond b p (refusal 3 1) ≡ q → p ≡ q
early_by true p q e f = f
early_by false p q e f = cc e

bare_cases : (a b c : List ℕ) (rest : List (List ℕ)) (q : Refusal) → has_bare (a ∷ b ∷ c ∷ rest) ≡ true → (o : Result Session Refusal) → session_lines (a ∷ b ∷ c ∷ rest) ≡ o
    → (low : Bool) → ((p : Refusal) → o ≡ Err p → nat_lt p.line 3 ≡ low) → bare_refusal o ≡ q → KernelStops (a ∷ b ∷ c ∷ rest) q
bare_cases a b c rest q e (Ok s) h low is f =
    let at = two_accepted a b (c ∷ rest) (Ok s) h (λ p g. cc g) in
    subst (KernelStops (a ∷ b ∷ c ∷ rest)) f (third_stops a b c rest e at.0 at.1)
bare_cases a b c rest q e (Err p) h true is f =
    let before = is p refl in
    let same = early_by (nat_lt p.line 3) p q before f in
    subst (KernelStops (a ∷ b ∷ c ∷ rest)) same (early_stops (a ∷ b ∷ c ∷ rest) p (omega arith) h (ltb-true p.line 3 before))
bare_cases a b c rest q e (Err p) h false is f =
    let at_least : 3 ≤ p.line = let t = is p refl in grind (arith, nat_tests) in
    let same = late_by (Err p) (λ x g. subst (λ (y : Refusal). 3 ≤ y.line) (Err-same {A = Session} p x g) at_least) in
    let at = two_accepted a b (c ∷ rest) (Err p) h (λ x g. subst (λ (y : Refusal). 3 ≤ y.line) (Err-same {A = Session} p x g) at_least) in
    subst (KernelStops (a ∷ b ∷ c ∷ rest)) (sym same ∙ f) (third_stops a b c rest e at.0 at.1)

low_of : (o : Result Session Refusal) → Bool
low_of (Ok s) = true
low_of (Err p) = nat_lt p.line 3

low_is : (o : Result Session Refusal) (p : Refusal) → o ≡ Err p → nat_lt p.line 3 ≡ low_of o
unfolding low_of
low_is (Ok s) p e = cc e
low_is (Err q) p e = ap (λ (r : Refusal). nat_lt r.line 3) (sym (Err-same {A = Session} q p e))

bare_stops : (lines : List (List ℕ)) (q : Refusal) → has_bare lines ≡ true → bare_refusal (session_lines lines) ≡ q → KernelStops lines q
bare_stops [] q e f = cc e
bare_stops (a ∷ []) q e f = cc e
bare_stops (a ∷ b ∷ []) q e f = cc e
bare_stops (a ∷ b ∷ c ∷ rest) q e f =
    let o = session_lines (a ∷ b ∷ c ∷ rest) in
    bare_cases a b c rest q e o refl (low_of o) (low_is o) f

kernel_by : (b : Bool) (lines : List (List ℕ)) (q : Refusal) → has_bare lines ≡ b → cond b (Err (bare_refusal (session_lines lines))) (session_lines lines) ≡ Err q → KernelStops lines q
kernel_by true lines q e h = bare_stops lines q e (Err-same {A = Session} (bare_refusal (session_lines lines)) q h)
kernel_by false lines q e h = clock_stops lines q e h

kernel_stops : (lines : List (List ℕ)) (q : Refusal) → kernel_lines lines ≡ Err q → KernelStops lines q
kernel_stops lines q h = kernel_by (has_bare lines) lines q refl h

-- ---- behind the lines of the left machine

module _ (made : Session → RingInput) (before : ℕ) where
  -- the right session, and the ring that is made of it
  abbrev pub by_right : Reader
  by_right lines = behind before (kernel_lines lines) >>= λ right. Ok (made right)

  right_by : (lines : List (List ℕ)) (r : Refusal) (o : Result Session Refusal) → kernel_lines lines ≡ o → (behind before o >>= λ right. Ok (made right)) ≡ Err r → Stops by_right (before + 1) lines r
  right_by lines r (Ok s) is e = cc e
  right_by lines r (Err q) is e =
      let s = kernel_stops lines q is in
      subst (Stops by_right (before + 1) lines) (Err-same {A = RingInput} (refusal_behind before q) r e) (record {
        front = s.front;
        back = s.back;
        all = s.all;
        number = let number = s.number in omega arith;
        before = let b = s.before in (b.0, made b.1, rw b.2 refl);
        why = elim s.why [
          | inl w ↦ inl w
          | inr w ↦ inr (w.0, w.1, w.2, w.3, λ more. rw (w.4 more) refl)
        ];
      })

  pub by_right-reader : IsReader by_right (before + 1)
  by_right-reader = record {
    some = let b = goes_on [] first_draft refl refl in (b.0, made b.1, rw b.2 refl);
    stops = λ lines r e. right_by lines r (kernel_lines lines) refl e;
  }
