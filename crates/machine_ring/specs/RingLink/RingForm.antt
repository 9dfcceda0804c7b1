-- What a ring's text is, line by line.
use Rattle.std.specs.Prelude.{ℕ, ◌≡◌, ◌+◌, false, IsTrue, List, ◌∷◌, ◌++◌, length, codes}
use Rattle.std.specs.List.{list_all}
use Rattle.module_text.specs.TextReader.Lines.{lines_of}
use Rattle.session_text.specs.SessionForm.{AreSessionLines}
use Rattle.machine_ring.specs.RingLink.Heads.{is_letter, is_letter_count, is_round_count, is_wait}
use Rattle.machine_ring.specs.RingLink.TwoNumbers.{SaysTwoNumbers}
use Rattle.machine_ring.specs.declared.ring_link.inputs.RingInput.{RingInput}
use Rattle.machine_ring.specs.declared.ring_link.inputs.TheConstants.{LEFT_LINE}

-- these are letters, of a number that a direction may have
abbrev pub AreLetters : List ℕ → Type 0
AreLetters letters = IsTrue (list_all is_letter letters) × IsTrue (is_letter_count (length letters))

-- the lines of a ring: its numbers, its letters, and the sessions of its two machines
pub record AreRingLines (ring : RingInput) (lines : List (List ℕ)) : Type 0 where
  -- the line of the numbers
  pub first : List ℕ
  -- the lines of the left machine's session
  pub left : List (List ℕ)
  -- those of the right machine's
  pub right : List (List ℕ)
  -- these are all lines
  pub all :
      lines ≡ first ∷ (codes "LINK :" ++ ring.link) ∷ (codes "ACKS :" ++ ring.acks) ∷ codes "LEFT" ∷ (left ++ codes "RIGHT" ∷ right)
  -- the first line has the rounds and the wait
  pub numbers : SaysTwoNumbers (ring.rounds, ring.wait) first
  -- they are a number of rounds
  pub rounds : IsTrue (is_round_count ring.rounds)
  -- and a wait
  pub wait : IsTrue (is_wait ring.wait)
  -- what happens to data is said in letters
  pub link : AreLetters ring.link
  -- and what happens to acknowledgements
  pub acks : AreLetters ring.acks
  -- the left machine has a session
  pub left_session : AreSessionLines ring.left left
  -- and the right one
  pub right_session : AreSessionLines ring.right right
  -- which has a kernel
  pub kernel : ring.right.bare ≡ false
  -- the line of `LEFT`
  pub left_line : ring.left_line ≡ LEFT_LINE
  -- the line of `RIGHT`
  pub right_line : ring.right_line ≡ LEFT_LINE + length left + 1

-- the text is a text of the ring
abbrev pub IsRing : List ℕ → RingInput → Type 0
IsRing text ring = AreRingLines ring (lines_of text)
