-- Which rings a text can give.
use Rattle.std.specs.Prelude.{ℕ, ◌≡◌, ◌+◌, ◌<◌, ◌^◌, false, IsTrue, List}
use Rattle.std.specs.List.{AllByRecursion}
use Rattle.session_text.specs.Canonical.{IsLawful}
use Rattle.session_text.specs.declared.sessions.SessionLine.{SessionLine}
use Rattle.machine_ring.specs.RingLink.Heads.{is_round_count, is_wait}
use Rattle.machine_ring.specs.RingLink.RingForm.{AreLetters}
use Rattle.machine_ring.specs.declared.ring_link.inputs.RingInput.{RingInput}

-- after so many lines, the number of each line is one of 32 bits
abbrev pub FitBehind : ℕ → List SessionLine → Type 0
FitBehind before lines = AllByRecursion (λ line. before + line.line < 2 ^ 32) lines

-- the fields of a ring are within the rules
pub record IsLawfulRing (ring : RingInput) : Type 0 where
  -- a ring may have so many rounds
  pub rounds : IsTrue (is_round_count ring.rounds)
  -- and send a byte again after so many
  pub wait : IsTrue (is_wait ring.wait)
  -- what happens to data is said in letters
  pub link : AreLetters ring.link
  -- and what happens to acknowledgements
  pub acks : AreLetters ring.acks
  -- the left machine's fields are within the rules
  pub left : IsLawful ring.left
  -- and the right machine's
  pub right : IsLawful ring.right
  -- which has a kernel
  pub kernel : ring.right.bare ≡ false
  -- the left session's lines have numbers in the whole
  pub left_fit : FitBehind ring.left_line ring.left.lines
  -- and the right one's
  pub right_fit : FitBehind ring.right_line ring.right.lines
