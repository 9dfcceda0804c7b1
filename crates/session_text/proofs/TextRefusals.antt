-- A text is refused exactly where and why it is by the rules.
use Rattle.std.proofs.Common.{◌≡◌, ◌∙◌, ℕ, zero, suc, ◌≤◌, ◌+◌, ◌↔◌, inl, inr, Result, Ok, Err, List, [], ◌∷◌, ◌++◌, length, refl, sym, ap, subst, arith, append-nil}
use Rattle.module_text.specs.TextReader.Lines.{lines_of}
use Rattle.module_text.specs.TextReader.Refusal.{Refusal, refusal}
use Rattle.session_text.specs.FirstError.{BeginSession, EndsEarly, HasNoForm, IsFirstError, IsOutOfRange, MayFollow}
use Rattle.session_text.specs.Forms.{Form}
use Rattle.session_text.specs.SessionForm.{IsSession}
use Rattle.session_text.specs.SessionOfText.{ended, first_draft, read_on, session_of, step}
use Rattle.session_text.specs.declared.drafts.Draft.{Draft}
use Rattle.session_text.specs.declared.sessions.Session.{Session}
use Rattle.session_text.proofs.Advances.{StopsAt, advance, advance-begin, advance-more, begin_lines-advance, ended_err, read_on-behind, read_on-err}
use Rattle.session_text.proofs.Complete.{complete}
use Rattle.session_text.proofs.LineRefusals.{Accepts, IsWrong}
use Rattle.session_text.proofs.SessionTexts.{begin_lines, begin_text}
use Rattle.session_text.proofs.Sound.{sound}
use Rattle.session_text.proofs.StepRefusals.{step-err}

-- ---- behind lines that were accepted

module _ (front : List (List ℕ)) (at : Draft) (before : advance first_draft 1 front ≡ Ok at) where
  -- one more line is accepted or not, as it begins a session or not
  next_begins : (line : List ℕ) (e : Draft) → step at (1 + length front) line ≡ Ok e → BeginSession (front ++ line ∷ [])
  next_begins line e ok =
      begin_text (front ++ line ∷ []) (begin_lines-advance (front ++ line ∷ []) e (advance-more first_draft at 1 (1 + length front) front line refl before ∙ ok))

  next_accepted : (line : List ℕ) → BeginSession (front ++ line ∷ []) → (e : Draft) × (step at (1 + length front) line ≡ Ok e)
  next_accepted line b =
      let a = advance-begin (front ++ line ∷ []) (begin_lines (front ++ line ∷ []) b) in
      (a.0, sym (advance-more first_draft at 1 (1 + length front) front line refl before) ∙ a.1)

  -- so a form may be there where one of its lines is accepted
  may_follow : (form : Form) → Accepts at (1 + length front) form → MayFollow front form
  may_follow form a = (a.0, a.1, next_begins a.0 a.2 a.3)

  accepts_form : (form : Form) → MayFollow front form → Accepts at (1 + length front) form
  accepts_form form m = let a = next_accepted m.0 m.2 in (m.0, m.1, a.0, a.1)

  -- a line that is refused begins none
  refused_begins : (line : List ℕ) (r : Refusal) → step at (1 + length front) line ≡ Err r → ¬ BeginSession (front ++ line ∷ [])
  refused_begins line r e b = let a = next_accepted line b in cc (sym a.1 ∙ e)

-- ---- what a refusal says

pub line_of-same : (m n code k : ℕ) → refusal m code ≡ refusal n k → (m ≡ n) × (code ≡ k)
line_of-same m n code k e = (ap (λ (r : Refusal). r.line) e, ap (λ (r : Refusal). r.code) e)

-- what a code says of a text
abbrev Meaning : List ℕ → ℕ → ℕ → Type 0
Meaning text n zero = ⊥
Meaning text n (suc zero) = IsFirstError text n HasNoForm
Meaning text n (suc (suc zero)) = IsFirstError text n IsOutOfRange
Meaning text n (suc (suc (suc zero))) = EndsEarly text n
Meaning text n (suc (suc (suc (suc code)))) = ⊥

-- the same of two codes that are one
meaning_of : (text : List ℕ) (n k code : ℕ) → k ≡ code → Meaning text n k → Meaning text n code
meaning_of text n k code e m = subst (λ (c : ℕ). Meaning text n c) e m

-- a reading stops at the first line in error
first_error : (text : List ℕ) (n : ℕ) (r : Refusal) (Why : List (List ℕ) → List ℕ → Type 0) (s : StopsAt first_draft 1 (lines_of text) r) → 1 + length s.front ≡ n → Why s.front s.line → IsFirstError text n Why
first_error text n r Why s number why = record {
  front = s.front;
  line = s.line;
  rest = s.after;
  all = s.all;
  number = omega (arith, number);
  before = begin_text s.front (begin_lines-advance s.front s.at s.before);
  up_to = refused_begins s.front s.at s.before s.line r s.stops;
  why = why;
}

says_at : (text : List ℕ) (n code : ℕ) (s : StopsAt first_draft 1 (lines_of text) (refusal n code)) → IsWrong s.at (1 + length s.front) s.line (refusal n code) → Meaning text n code
says_at text n code s (inl w) =
    let e = line_of-same (1 + length s.front) n 1 code w.0 in
    meaning_of text n 1 code e.1 (first_error text n (refusal n code) HasNoForm s e.0 (λ form may has. w.1 form (accepts_form s.front s.at s.before form may) has))
says_at text n code s (inr w) =
    let e = line_of-same (1 + length s.front) n 2 code w.0 in
    meaning_of text n 2 code e.1 (first_error text n (refusal n code) IsOutOfRange s e.0 (w.1.0, may_follow s.front s.at s.before w.1.0 w.1.1, w.1.2))

-- a text that is refused is no session's
not_read : (text : List ℕ) (s : Session) (r : Refusal) → session_of text ≡ Err r → ¬ IsSession text s
not_read text s r e h = cc (sym (complete text s h) ∙ e)

says : (text : List ℕ) (n code : ℕ) → session_of text ≡ Err (refusal n code) → Meaning text n code
says text n code e =
    elim (read_on-err first_draft 1 (lines_of text) (refusal n code) e) [
      | inl s ↦ says_at text n code s (step-err s.at.place s.at.session (1 + length s.front) s.line (refusal n code) s.stops)
      | inr s ↦
          let same = line_of-same (1 + length (lines_of text)) n 3 code s.refused in
          meaning_of text n 3 code same.1 (record {
            next = omega (arith, same.0);
            before = begin_text (lines_of text) (begin_lines-advance (lines_of text) s.at s.before);
            short = λ k. not_read text k (refusal n code) e;
          })
    ]

bound_of : (text : List ℕ) (n code : ℕ) → Meaning text n code → (1 ≤ code) × (code ≤ 3)
bound_of text n zero m = absurd m
bound_of text n (suc zero) m = (omega arith, omega arith)
bound_of text n (suc (suc zero)) m = (omega arith, omega arith)
bound_of text n (suc (suc (suc zero))) m = (omega arith, omega arith)
bound_of text n (suc (suc (suc (suc code)))) m = absurd m

pub code_bound : (text : List ℕ) (n code : ℕ) → session_of text ≡ Err (refusal n code) → (1 ≤ code) × (code ≤ 3)
code_bound text n code e = bound_of text n code (says text n code e)

-- ---- and back

-- lines of which one is refused, and those before it accepted
stops : (front : List (List ℕ)) (line : List ℕ) (rest : List (List ℕ)) (at : Draft) (r : Refusal) → advance first_draft 1 front ≡ Ok at → step at (1 + length front) line ≡ Err r
    → read_on first_draft 1 (front ++ line ∷ rest) ≡ Err r
stops front line rest at r before e = read_on-behind first_draft at 1 (1 + length front) front (line ∷ rest) refl before ∙ rw e refl

module _ (text : List ℕ) (n code : ℕ) (Why : List (List ℕ) → List ℕ → Type 0) (f : IsFirstError text n Why) where
  refused_by : (at : Draft) (before : advance first_draft 1 f.front ≡ Ok at) (r : Result Draft Refusal) → step at (1 + length f.front) f.line ≡ r
      → ((w : Refusal) → step at (1 + length f.front) f.line ≡ Err w → w ≡ refusal (1 + length f.front) code) → session_of text ≡ Err (refusal n code)
  refused_by at before (Ok e) h why = absurd (f.up_to (next_begins f.front at before f.line e h))
  refused_by at before (Err w) h why =
      let number : 1 + length f.front ≡ n = let k = f.number in omega arith in
      ap (read_on first_draft 1) f.all ∙ stops f.front f.line f.rest at w before h ∙ ap (λ (d : Refusal). Err d) (why w h ∙ ap (λ (k : ℕ). refusal k code) number)

form_back : (text : List ℕ) (n : ℕ) → IsFirstError text n HasNoForm → session_of text ≡ Err (refusal n 1)
form_back text n f =
    let a = advance-begin f.front (begin_lines f.front f.before) in
    refused_by text n 1 HasNoForm f a.0 a.1 (step a.0 (1 + length f.front) f.line) refl (λ w h.
    elim (step-err a.0.place a.0.session (1 + length f.front) f.line w h) [
      | inl p ↦ sym p.0
      | inr p ↦ absurd (f.why p.1.0 (may_follow f.front a.0 a.1 p.1.0 p.1.1) p.1.2)
    ])

range_back : (text : List ℕ) (n : ℕ) → IsFirstError text n IsOutOfRange → session_of text ≡ Err (refusal n 2)
range_back text n f =
    let a = advance-begin f.front (begin_lines f.front f.before) in
    refused_by text n 2 IsOutOfRange f a.0 a.1 (step a.0 (1 + length f.front) f.line) refl (λ w h.
    elim (step-err a.0.place a.0.session (1 + length f.front) f.line w h) [
      | inl p ↦ let y = f.why in absurd (p.1 y.0 (accepts_form f.front a.0 a.1 y.0 y.1) y.2)
      | inr p ↦ sym p.0
    ])

module _ (text : List ℕ) (n : ℕ) (f : EndsEarly text n) (at : Draft) where
  end_by : (r : Result Session Refusal) → session_of text ≡ r → ended at.place at.session (1 + length (lines_of text)) ≡ r → session_of text ≡ Err (refusal n 3)
  end_by (Ok s) e h = absurd (f.short s (sound text s e))
  end_by (Err r) e h =
      let code = ended_err at.place at.session (1 + length (lines_of text)) r h in
      let number : 1 + length (lines_of text) ≡ n = let k = f.next in omega arith in
      e ∙ ap (λ (d : Refusal). Err d) (sym code ∙ ap (λ (k : ℕ). refusal k 3) number)

end_back : (text : List ℕ) (n : ℕ) → EndsEarly text n → session_of text ≡ Err (refusal n 3)
end_back text n f =
    let lines = lines_of text in
    let a = advance-begin lines (begin_lines lines f.before) in
    let behind : session_of text ≡ ended a.0.place a.0.session (1 + length lines)
    = ap (read_on first_draft 1) (sym (append-nil lines)) ∙ read_on-behind first_draft a.0 1 (1 + length lines) lines [] refl a.1 in
    end_by text n f a.0 (ended a.0.place a.0.session (1 + length lines)) behind refl

-- ---- the codes

pub form_law : (text : List ℕ) (n : ℕ) → (session_of text ≡ Err (refusal n 1)) ↔ IsFirstError text n HasNoForm
form_law text n = (λ e. says text n 1 e, form_back text n)

pub range_law : (text : List ℕ) (n : ℕ) → (session_of text ≡ Err (refusal n 2)) ↔ IsFirstError text n IsOutOfRange
range_law text n = (λ e. says text n 2 e, range_back text n)

pub end_law : (text : List ℕ) (n : ℕ) → (session_of text ≡ Err (refusal n 3)) ↔ EndsEarly text n
end_law text n = (λ e. says text n 3 e, end_back text n)
