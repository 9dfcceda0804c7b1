-- A ring that was read is within the rules.
use Rattle.std.proofs.Common.{ℕ, ◌+◌, ◌<◌, ◌≤◌, ◌^◌, Result, Ok, Err, List, [], ◌∷◌, length, ap, arith, length-append}
use Rattle.std.specs.Prelude.{codes, IfOk}
use Rattle.module_text.specs.TextReader.Answers.{Gives}
use Rattle.module_text.specs.TextReader.Lines.{lines_of}
use Rattle.module_text.specs.declared.text_reader.ends.TextEnd.{TextEnd}
use Rattle.session_text.specs.declared.sessions.SessionLine.{SessionLine}
use Rattle.session_text.proofs.Lawful.{session_is_lawful}
use Rattle.machine_ring.specs.RingLink.LawfulRing.{FitBehind, IsLawfulRing}
use Rattle.machine_ring.specs.RingLink.RingForm.{AreRingLines}
use Rattle.machine_ring.specs.RingLink.RingOfText.{ring_of}
use Rattle.machine_ring.specs.declared.ring_link.inputs.RingInput.{RingInput}
use Rattle.machine_ring.proofs.RingLink.LineCounts.{length-lines_of}
use Rattle.machine_ring.proofs.RingLink.RingTexts.{sound}
use Rattle.machine_ring.proofs.RingLink.SessionNumbers.{AreUpTo, session_up_to}

fit_behind : (before most : ℕ) (lines : List SessionLine) → before + most < 2 ^ 32 → AreUpTo most lines → FitBehind before lines
fit_behind before most [] few h = tt
fit_behind before most (line ∷ lines) few h = let low : line.line ≤ most = h.0 in (omega arith, fit_behind before most lines few h.1)

ring_is_lawful : (ring : RingInput) (lines : List (List ℕ)) → AreRingLines ring lines → length lines < 2 ^ 32 → IsLawfulRing ring
ring_is_lawful ring lines h few =
    let size = ap length h.all in
    let both = length-append h.left (codes "RIGHT" ∷ h.right) in
    let left_line = h.left_line in
    let right_line = h.right_line in
    record {
      rounds = h.rounds;
      wait = h.wait;
      link = h.link;
      acks = h.acks;
      left = session_is_lawful ring.left h.left h.left_session;
      right = session_is_lawful ring.right h.right h.right_session;
      kernel = h.kernel;
      left_fit = fit_behind ring.left_line (length h.left) ring.left.lines (omega (arith, size, both, left_line)) (session_up_to ring.left h.left h.left_session);
      right_fit = fit_behind ring.right_line (length h.right) ring.right.lines (omega (arith, size, both, right_line)) (session_up_to ring.right h.right h.right_session);
    }

pub is_lawful : (text : List ℕ) (r : Result RingInput TextEnd) → length text < 2 ^ 32 → Gives (λ x. x) r (ring_of text) → IfOk r IsLawfulRing
is_lawful text (Ok ring) few e = let lines = length-lines_of text in ring_is_lawful ring (lines_of text) (sound text ring e) (omega arith)
is_lawful text (Err d) few e = tt
