-- What is read is a ring's text, and every text of a ring is read.
use Rattle.std.proofs.Common.{◌≡◌, ◌∙◌, ℕ, ◌+◌, ◌⊎◌, inl, inr, Bool, true, false, cond, Result, Ok, Err, List, [], ◌∷◌, ◌++◌, length, take, drop, refl, sym, ap, subst, arith}
use Rattle.std.specs.Prelude.{codes}
use Rattle.std.specs.Str.{bytes_eq}
use Rattle.std.proofs.Math.Seq.{drop-append_seam, take-append_seam}
use Rattle.std.proofs.lemmas.List.{length-take, take-append-drop}
use Rattle.module_text.specs.TextReader.Lines.{lines_of}
use Rattle.module_text.specs.TextReader.Refusal.{Refusal}
use Rattle.module_text.proofs.TextReader.StepLemmas.{bind-ok}
use Rattle.session_text.specs.Front.{front_count}
use Rattle.session_text.specs.SessionForm.{AreBareLines, AreClockLines, AreSessionLines}
use Rattle.session_text.specs.SessionOfText.{session_lines}
use Rattle.session_text.specs.declared.sessions.Session.{Session}
use Rattle.session_text.proofs.Complete.{complete_lines}
use Rattle.session_text.proofs.Sound.{sound_lines}
use Rattle.machine_ring.specs.RingLink.Heads.{head_lines}
use Rattle.machine_ring.specs.RingLink.Machines.{bare_refusal, behind, has_bare, kernel_lines, left_lines}
use Rattle.machine_ring.specs.RingLink.NextLines.{line_after}
use Rattle.machine_ring.specs.RingLink.RingForm.{AreRingLines, IsRing}
use Rattle.machine_ring.specs.RingLink.RingOfText.{ring_lines, ring_of}
use Rattle.machine_ring.specs.declared.ring_link.heads.Head.{Head}
use Rattle.machine_ring.specs.declared.ring_link.inputs.RingInput.{RingInput}
use Rattle.machine_ring.specs.declared.ring_link.inputs.TheConstants.{LEFT_LINE}
use Rattle.machine_ring.proofs.RingLink.GoLines.{front_count-session}
use Rattle.machine_ring.proofs.RingLink.HeadLines.{head_lines-again, head_lines-ok, line_after-ok}
use Rattle.machine_ring.proofs.RingLink.LineCounts.{front_count-within}

-- ---- the left machine

-- a session's lines, and those behind them
pub left_lines-again : (s : Session) (lines rest : List (List ℕ)) → AreSessionLines s lines → left_lines (lines ++ rest) ≡ Ok (s, (rest, length lines))
left_lines-again s lines rest h =
    rw (front_count-session s lines rest h, take-append_seam lines rest, drop-append_seam lines rest, complete_lines lines s h) refl

-- lines that were read, and those behind them
record HasLeft (s : Session) (lines rest : List (List ℕ)) (count : ℕ) : Type 0 where
  pub front : List (List ℕ)
  pub all : lines ≡ front ++ rest
  pub session : AreSessionLines s front
  pub number : length front ≡ count

left_lines-ok : (lines : List (List ℕ)) (x : Session × (List (List ℕ) × ℕ)) → left_lines lines ≡ Ok x → HasLeft x.0 lines x.1.0 x.1.1
left_lines-ok lines x e =
    let n = front_count lines in
    let b = bind-ok (session_lines (take n lines)) (λ s. Ok (s, (drop n lines, n))) x e in
    let same : (b.0, (drop n lines, n)) ≡ x = cc b.2 in
    let within = front_count-within lines in
    subst (λ (y : Session × (List (List ℕ) × ℕ)). HasLeft y.0 lines y.1.0 y.1.1) same (record {
      front = take n lines;
      all = sym (take-append-drop n lines);
      session = sound_lines (take n lines) b.0 b.1;
      number = omega (arith, length-take n lines);
    })

-- ---- the right machine

-- a session without a kernel has the line
bare_has : (s : Session) (lines : List (List ℕ)) (h : AreSessionLines s lines) → AreBareLines s h.machine → has_bare lines ≡ true
bare_has s lines h b = ap has_bare (h.all ∙ ap (λ (ls : List (List ℕ)). h.version ∷ h.store ∷ (ls ++ h.go ∷ [])) b.all)

-- and one with a kernel has not
clock_has : (s : Session) (lines : List (List ℕ)) (h : AreSessionLines s lines) → AreClockLines s h.machine → has_bare lines ≡ false
clock_has s lines h c =
    ap has_bare (h.all ∙ ap (λ (ls : List (List ℕ)). h.version ∷ h.store ∷ (ls ++ h.go ∷ [])) c.all)
    ∙ ap (λ (line : List ℕ). bytes_eq line (codes "BARE")) c.tick_line.1

kernel_by : (s : Session) (lines : List (List ℕ)) (h : AreSessionLines s lines) → AreBareLines s h.machine ⊎ AreClockLines s h.machine → has_bare lines ≡ false → s.bare ≡ false
kernel_by s lines h (inl b) e = cc (sym (bare_has s lines h b) ∙ e)
kernel_by s lines h (inr c) e = c.clock

no_bare_by : (s : Session) (lines : List (List ℕ)) (h : AreSessionLines s lines) → AreBareLines s h.machine ⊎ AreClockLines s h.machine → s.bare ≡ false → has_bare lines ≡ false
no_bare_by s lines h (inl b) e = cc (sym b.machine.bare ∙ e)
no_bare_by s lines h (inr c) e = clock_has s lines h c

kernel_cases : (b : Bool) (lines : List (List ℕ)) (s : Session) → has_bare lines ≡ b → cond b (Err (bare_refusal (session_lines lines))) (session_lines lines) ≡ Ok s
    → AreSessionLines s lines × (s.bare ≡ false)
kernel_cases true lines s e h = cc h
kernel_cases false lines s e h = let l = sound_lines lines s h in (l, kernel_by s lines l l.machine_lines e)

kernel_lines-ok : (lines : List (List ℕ)) (s : Session) → kernel_lines lines ≡ Ok s → AreSessionLines s lines × (s.bare ≡ false)
kernel_lines-ok lines s e = kernel_cases (has_bare lines) lines s refl e

pub kernel_lines-again : (lines : List (List ℕ)) (s : Session) → AreSessionLines s lines → s.bare ≡ false → kernel_lines lines ≡ Ok s
kernel_lines-again lines s h k = rw (no_bare_by s lines h h.machine_lines k) (complete_lines lines s h)

-- ---- all lines

behind-ok : {X : Type 0} (n : ℕ) (r : Result X Refusal) (x : X) → behind n r ≡ Ok x → r ≡ Ok x
behind-ok n (Ok y) x e = e
behind-ok n (Err r) x e = cc e

pub sound_ring : (lines : List (List ℕ)) (ring : RingInput) → ring_lines lines ≡ Ok ring → AreRingLines ring lines
sound_ring lines ring e =
    let a = bind-ok (head_lines lines) _ ring e in
    let b = bind-ok (behind LEFT_LINE (left_lines a.0.1)) _ ring a.2 in
    let c = bind-ok (line_after (codes "RIGHT") (LEFT_LINE + b.0.1.1 + 1) b.0.1.0) _ ring b.2 in
    let d = bind-ok (behind (LEFT_LINE + b.0.1.1 + 1) (kernel_lines c.0)) _ ring c.2 in
    let head = head_lines-ok lines a.0 a.1 in
    let left = left_lines-ok a.0.1 b.0 (behind-ok LEFT_LINE (left_lines a.0.1) b.0 b.1) in
    let word = line_after-ok (codes "RIGHT") (LEFT_LINE + b.0.1.1 + 1) b.0.1.0 c.0 c.1 in
    let right = kernel_lines-ok c.0 d.0 (behind-ok (LEFT_LINE + b.0.1.1 + 1) (kernel_lines c.0) d.0 d.1) in
    let found : RingInput = record {
      rounds = a.0.0.rounds;
      wait = a.0.0.wait;
      link = a.0.0.link;
      acks = a.0.0.acks;
      left = b.0.0;
      right = d.0;
      left_line = LEFT_LINE;
      right_line = LEFT_LINE + b.0.1.1 + 1;
    } in
    let same : found ≡ ring = cc d.2 in
    subst (λ (r : RingInput). AreRingLines r lines) same (record {
      first = head.first;
      left = left.front;
      right = c.0;
      all = head.all ∙ ap (λ (ls : List (List ℕ)). head.first ∷ (codes "LINK :" ++ a.0.0.link) ∷ (codes "ACKS :" ++ a.0.0.acks) ∷ codes "LEFT" ∷ ls) (left.all ∙ ap (λ (ls : List (List ℕ)). left.front ++ ls) word);
      numbers = head.numbers;
      rounds = head.rounds;
      wait = head.wait;
      link = head.link;
      acks = head.acks;
      left_session = left.session;
      right_session = right.0;
      kernel = right.1;
      left_line = refl;
      right_line = ap (λ (n : ℕ). LEFT_LINE + n + 1) (sym left.number);
    })

pub complete_ring : (lines : List (List ℕ)) (ring : RingInput) → AreRingLines ring lines → ring_lines lines ≡ Ok ring
complete_ring lines ring h =
    let head : Head = record { rounds = ring.rounds; wait = ring.wait; link = ring.link; acks = ring.acks } in
    let rest = h.left ++ codes "RIGHT" ∷ h.right in
    let front = head_lines-again head lines rest (record {
      first = h.first;
      all = h.all;
      numbers = h.numbers;
      rounds = h.rounds;
      wait = h.wait;
      link = h.link;
      acks = h.acks;
    }) in
    rw (front, left_lines-again ring.left h.left (codes "RIGHT" ∷ h.right) h.left_session, kernel_lines-again h.right ring.right h.right_session h.kernel) (λ i. Ok (record {
      rounds = ring.rounds;
      wait = ring.wait;
      link = ring.link;
      acks = ring.acks;
      left = ring.left;
      right = ring.right;
      left_line = sym h.left_line i;
      right_line = sym h.right_line i;
    }))

-- ---- a text

pub sound : (text : List ℕ) (ring : RingInput) → ring_of text ≡ Ok ring → IsRing text ring
unfolding ring_of
sound text ring e = sound_ring (lines_of text) ring e

pub complete : (text : List ℕ) (ring : RingInput) → IsRing text ring → ring_of text ≡ Ok ring
unfolding ring_of
complete text ring h = complete_ring (lines_of text) ring h
