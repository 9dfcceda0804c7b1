-- Where the reading of the left machine's session stops.
use Rattle.std.proofs.Common.{◌≡◌, ◌∙◌, ℕ, suc, ◌+◌, ◌⊎◌, inl, inr, Bool, true, false, cond, Result, Ok, Err, List, [], ◌∷◌, ◌++◌, length, take, drop, refl, sym, ap, subst, arith, add-one, append_assoc, append-nil, length-append}
use Rattle.std.specs.List.{AllByRecursion}
use Rattle.std.proofs.Math.Seq.{take-append-add, take-length}
use Rattle.std.proofs.lemmas.List.{length-take, take-append-drop}
use Rattle.module_text.specs.TextReader.Refusal.{Refusal}
use Rattle.module_text.specs.TextReader.Steps.{◌>>=◌}
use Rattle.module_text.proofs.TextReader.StepLemmas.{Err-same}
use Rattle.session_text.specs.Front.{front_count}
use Rattle.session_text.specs.SessionForm.{AreSessionLines}
use Rattle.session_text.specs.SessionOfText.{first_draft, session_lines}
use Rattle.session_text.specs.declared.sessions.Session.{Session}
use Rattle.session_text.proofs.Advances.{EndsAt, StopsAt, begin_lines-advance, read_on-behind, read_on-err}
use Rattle.session_text.proofs.Complete.{complete_lines}
use Rattle.session_text.proofs.Sound.{sound_lines}
use Rattle.machine_ring.specs.RingLink.Machines.{behind, left_lines, refusal_behind}
use Rattle.machine_ring.specs.declared.ring_link.inputs.RingInput.{RingInput}
use Rattle.machine_ring.specs.declared.ring_link.inputs.TheConstants.{LEFT_LINE}
use Rattle.machine_ring.proofs.RingLink.GoLines.{IsNoGo, front_count-append, front_count-session, is_go}
use Rattle.machine_ring.proofs.RingLink.LineCounts.{front_count-within}
use Rattle.machine_ring.proofs.RingLink.RefusedLines.{wrong_code, wrong_line}
use Rattle.machine_ring.proofs.RingLink.RingTexts.{left_lines-again}
use Rattle.machine_ring.proofs.RingLink.Stops.{Begins, IsReader, Reader, Stops}
use Rattle.session_text.proofs.StepRefusals.{step-err}

-- ---- the lines of a front

-- one of them begins with `GO `
record HasGo (lines : List (List ℕ)) : Type 0 where
  pub front : List (List ℕ)
  pub go : List ℕ
  pub rest : List (List ℕ)
  pub all : lines ≡ front ++ go ∷ rest
  pub none : AllByRecursion IsNoGo front
  pub is : is_go go ≡ true

go_by : (b : Bool) (line : List ℕ) (lines : List (List ℕ)) → is_go line ≡ b → AllByRecursion IsNoGo lines ⊎ HasGo lines → AllByRecursion IsNoGo (line ∷ lines) ⊎ HasGo (line ∷ lines)
go_by true line lines e h = inr (record { front = []; go = line; rest = lines; all = refl; none = tt; is = e })
go_by false line lines e (inl h) = inl (e, h)
go_by false line lines e (inr h) =
    inr (record { front = line ∷ h.front; go = h.go; rest = h.rest; all = ap (λ (ls : List (List ℕ)). line ∷ ls) h.all; none = (e, h.none); is = h.is })

go_cases : (lines : List (List ℕ)) → AllByRecursion IsNoGo lines ⊎ HasGo lines
go_cases [] = inl tt
go_cases (line ∷ lines) = go_by (is_go line) line lines refl (go_cases lines)

front_count-none : (lines : List (List ℕ)) → AllByRecursion IsNoGo lines → front_count lines ≡ length lines
front_count-none lines h = let count = ap front_count (sym (append-nil lines)) ∙ front_count-append lines [] h in omega (arith, count)

count_go : (b : Bool) (n : ℕ) → b ≡ true → cond b 1 (n + 1) ≡ 1
count_go true n e = refl
count_go false n e = cc e

front_count-has : (front : List (List ℕ)) (go : List ℕ) (rest : List (List ℕ)) → AllByRecursion IsNoGo front → is_go go ≡ true → front_count (front ++ go ∷ rest) ≡ length front + 1
front_count-has front go rest none is =
    let one = count_go (is_go go) (front_count rest) is in
    front_count-append front (go ∷ rest) none ∙ ap (λ (n : ℕ). length front + n) one

take-front : (front : List (List ℕ)) (go : List ℕ) (rest : List (List ℕ)) → take (length front + 1) (front ++ go ∷ rest) ≡ front ++ go ∷ []
take-front front go rest = take-append-add front (go ∷ rest) 1

-- a shorter front of such lines
strict : (a b : List (List ℕ)) (x y : List ℕ) (rest : List (List ℕ)) → b ++ y ∷ [] ≡ a ++ x ∷ rest → AllByRecursion IsNoGo b → AllByRecursion IsNoGo a
strict [] b x y rest e h = tt
strict (c ∷ cs) [] x y rest e h = let size = ap length e in absurd (omega (arith, size, length-append cs (x ∷ rest)))
strict (c ∷ cs) (d ∷ ds) x y rest e h =
    let first : d ≡ c = cc e in
    let others : ds ++ y ∷ [] ≡ cs ++ x ∷ rest = cc e in
    (subst IsNoGo first h.0, strict cs ds x y rest others h.1)

all-front : (a b : List (List ℕ)) → AllByRecursion IsNoGo (a ++ b) → AllByRecursion IsNoGo a
all-front [] b h = tt
all-front (x ∷ xs) b h = (h.0, all-front xs b h.1)

front-none : (lines : List (List ℕ)) → AllByRecursion IsNoGo lines → take (front_count lines) lines ≡ lines
front-none lines h = ap (λ (n : ℕ). take n lines) (front_count-none lines h) ∙ take-length lines

front-has : (lines : List (List ℕ)) (h : HasGo lines) → take (front_count lines) lines ≡ h.front ++ h.go ∷ []
front-has lines h =
    ap (λ (ls : List (List ℕ)). take (front_count ls) ls) h.all
    ∙ ap (λ (n : ℕ). take n (h.front ++ h.go ∷ h.rest)) (front_count-has h.front h.go h.rest h.none h.is)
    ∙ take-front h.front h.go h.rest

-- before its last line none begins with `GO `
none_before : (lines a : List (List ℕ)) (x : List ℕ) (rest : List (List ℕ)) → take (front_count lines) lines ≡ a ++ x ∷ rest → AllByRecursion IsNoGo lines ⊎ HasGo lines → AllByRecursion IsNoGo a
none_before lines a x rest e (inl h) = all-front a (x ∷ rest) (subst (AllByRecursion IsNoGo) (sym (front-none lines h) ∙ e) h)
none_before lines a x rest e (inr h) = strict a h.front x h.go rest (sym (front-has lines h) ∙ e) h.none

-- ---- a session that is refused

-- a front whose lines are all accepted and that has `GO ` is a session
whole_front : (lines : List (List ℕ)) (h : HasGo lines) → (s : Session) (more : List (List ℕ)) → AreSessionLines s (take (front_count lines) lines ++ more) → session_lines (take (front_count lines) lines) ≡ Ok s
whole_front lines h s [] are = complete_lines (take (front_count lines) lines) s (subst (AreSessionLines s) (append-nil (take (front_count lines) lines)) are)
whole_front lines h s (m ∷ ms) are =
    let front = take (front_count lines) lines in
    let count = front_count-session s (front ++ m ∷ ms) [] are in
    let behind : (front ++ m ∷ ms) ++ [] ≡ h.front ++ h.go ∷ (m ∷ ms)
    = append-nil (front ++ m ∷ ms) ∙ ap (λ (ls : List (List ℕ)). ls ++ m ∷ ms) (front-has lines h) ∙ append_assoc h.front (h.go ∷ []) (m ∷ ms) in
    let one = ap front_count behind ∙ front_count-has h.front h.go (m ∷ ms) h.none h.is in
    let size = ap length (front-has lines h) in
    absurd (omega (arith, count, one, size, length-append front (m ∷ ms), length-append h.front (h.go ∷ [])))

-- where the line is there, it is read whatever follows
refused_again : (front : List (List ℕ)) (line : List ℕ) (more : List (List ℕ)) (q : Refusal) (s : (rest : List (List ℕ)) → session_lines (front ++ line ∷ rest) ≡ Err q) → AllByRecursion IsNoGo front
    → left_lines (front ++ line ∷ more) ≡ Err q
refused_again front line more q s none = again (is_go line) refl
  where
    count_by : (b : Bool) → is_go line ≡ b → (k : ℕ) × (front_count (line ∷ more) ≡ suc k)
    count_by true e = (0, count_go (is_go line) (front_count more) e)
    count_by false e = (front_count more, rw e (add-one (front_count more)))

    again : (b : Bool) → is_go line ≡ b → left_lines (front ++ line ∷ more) ≡ Err q
    again b e =
        let k = count_by b e in
        let count = front_count-append front (line ∷ more) none ∙ ap (λ (n : ℕ). length front + n) k.1 in
        let part = ap (λ (n : ℕ). take n (front ++ line ∷ more)) count ∙ take-append-add front (line ∷ more) (suc k.0) in
        rw (part, s (take k.0 more)) refl

-- the left session, and then the others
abbrev pub by_left : (Session → ℕ → Reader) → Reader
by_left g lines = behind LEFT_LINE (left_lines lines) >>= λ left. g left.0 left.1.1 left.1.0

module _ (g : Session → ℕ → Reader) (h : (s : Session) (count : ℕ) → IsReader (g s count) (LEFT_LINE + count + 1)) where
  -- behind a session's lines
  by_left-session : (s : Session) (lines rest : List (List ℕ)) → AreSessionLines s lines → (by_left g) (lines ++ rest) ≡ g s (length lines) rest
  by_left-session s lines rest are = rw (left_lines-again s lines rest are) refl

  -- lines that begin a session's lines begin
  begins : (front : List (List ℕ)) (s : Session) (more : List (List ℕ)) → AreSessionLines s (front ++ more) → Begins (by_left g) front
  begins front s more are =
      let b = (h s (length (front ++ more))).some in
      (more ++ b.0, b.1, ap (by_left g) (sym (append_assoc front more b.0)) ∙ by_left-session s (front ++ more) b.0 are ∙ b.2)

  stops_at : (lines : List (List ℕ)) (q : Refusal) → StopsAt first_draft 1 (take (front_count lines) lines) q → Stops (by_left g) (LEFT_LINE + 1) lines (refusal_behind LEFT_LINE q)
  stops_at lines q s =
      let wrong = step-err s.at.place s.at.session (1 + length s.front) s.line q s.stops in
      let b = begin_lines-advance s.front s.at s.before in
      let again : (rest : List (List ℕ)) → session_lines (s.front ++ s.line ∷ rest) ≡ Err q = λ rest. read_on-behind first_draft s.at 1 (1 + length s.front) s.front (s.line ∷ rest) refl s.before ∙ rw s.stops refl in
      let none = none_before lines s.front s.line s.after s.all (go_cases lines) in
      record {
        front = s.front;
        back = s.line ∷ (s.after ++ drop (front_count lines) lines);
        all =
            sym (take-append-drop (front_count lines) lines)
            ∙ ap (λ (ls : List (List ℕ)). ls ++ drop (front_count lines) lines) s.all
            ∙ append_assoc s.front (s.line ∷ s.after) (drop (front_count lines) lines);
        number = let number = wrong_line s.at (1 + length s.front) s.line q wrong in omega arith;
        before = begins s.front b.0 b.1 b.2;
        why = inr (
          s.line,
          s.after ++ drop (front_count lines) lines,
          refl,
          wrong_code s.at (1 + length s.front) s.line q wrong,
          λ more. rw (refused_again s.front s.line more q again none) refl,
        );
      }

  ends_at : (lines : List (List ℕ)) (q : Refusal) → session_lines (take (front_count lines) lines) ≡ Err q → EndsAt first_draft 1 (take (front_count lines) lines) q → AllByRecursion IsNoGo lines ⊎ HasGo lines
      → Stops (by_left g) (LEFT_LINE + 1) lines (refusal_behind LEFT_LINE q)
  ends_at lines q e s (inl none) =
      let b = begin_lines-advance (take (front_count lines) lines) s.at s.before in
      let all = front-none lines none in
      record {
        front = lines;
        back = [];
        all = sym (append-nil lines);
        number = let line = ap (λ (x : Refusal). x.line) s.refused in let size = ap length all in omega arith;
        before = begins lines b.0 b.1 (subst (λ (ls : List (List ℕ)). AreSessionLines b.0 (ls ++ b.1)) all b.2);
        why = inl (refl, sym (ap (λ (x : Refusal). x.code) s.refused));
      }
  ends_at lines q e s (inr has) =
      let b = begin_lines-advance (take (front_count lines) lines) s.at s.before in
      cc (sym (whole_front lines has b.0 b.1 b.2) ∙ e)

  left_refused : (lines : List (List ℕ)) (q : Refusal) → session_lines (take (front_count lines) lines) ≡ Err q → Stops (by_left g) (LEFT_LINE + 1) lines (refusal_behind LEFT_LINE q)
  left_refused lines q e =
      elim (read_on-err first_draft 1 (take (front_count lines) lines) q e) [
        | inl s ↦ stops_at lines q s
        | inr s ↦ ends_at lines q e s (go_cases lines)
      ]

  -- ---- what is behind it

  by_session : (lines : List (List ℕ)) (r : Refusal) (s : Session) → session_lines (take (front_count lines) lines) ≡ Ok s → g s (front_count lines) (drop (front_count lines) lines) ≡ Err r
      → Stops (by_left g) (LEFT_LINE + 1) lines r
  by_session lines r s read e =
      let n = front_count lines in
      let within = front_count-within lines in
      let are = sound_lines (take n lines) s read in
      let size : length (take n lines) ≡ n = omega (arith, length-take n lines) in
      let stop = (h s n).stops (drop n lines) r e in
      let behind : (rest : List (List ℕ)) → (by_left g) ((take n lines ++ stop.front) ++ rest) ≡ g s n (stop.front ++ rest) =
      λ rest. ap (by_left g) (append_assoc (take n lines) stop.front rest) ∙ by_left-session s (take n lines) (stop.front ++ rest) are ∙ ap (λ (k : ℕ). g s k (stop.front ++ rest)) size in
      record {
        front = take n lines ++ stop.front;
        back = stop.back;
        all = sym (take-append-drop n lines) ∙ ap (λ (ls : List (List ℕ)). take n lines ++ ls) stop.all ∙ sym (append_assoc (take n lines) stop.front stop.back);
        number = let number = stop.number in omega (arith, size, length-append (take n lines) stop.front);
        before = let b = stop.before in (b.0, b.1, behind b.0 ∙ b.2);
        why = elim stop.why [
          | inl w ↦ inl w
          | inr w ↦ inr (w.0, w.1, w.2, w.3, λ more. behind (w.0 ∷ more) ∙ w.4 more)
        ];
      }

  abbrev left_of : List (List ℕ) → Result Session Refusal → Result (Session × (List (List ℕ) × ℕ)) Refusal
  left_of lines o = o >>= λ s. Ok (s, (drop (front_count lines) lines, front_count lines))

  by_read : (lines : List (List ℕ)) (r : Refusal) (o : Result Session Refusal) → session_lines (take (front_count lines) lines) ≡ o
      → (behind LEFT_LINE (left_of lines o) >>= λ left. g left.0 left.1.1 left.1.0) ≡ Err r → Stops (by_left g) (LEFT_LINE + 1) lines r
  by_read lines r (Ok s) is e = by_session lines r s is e
  by_read lines r (Err q) is e = subst (Stops (by_left g) (LEFT_LINE + 1) lines) (Err-same {A = RingInput} (refusal_behind LEFT_LINE q) r e) (left_refused lines q is)

  pub by_left-reader : IsReader (by_left g) (LEFT_LINE + 1)
  by_left-reader = record {
    some = let b = begin_lines-advance [] first_draft refl in begins [] b.0 b.1 b.2;
    stops = λ lines r e. by_read lines r (session_lines (take (front_count lines) lines)) refl e;
  }
