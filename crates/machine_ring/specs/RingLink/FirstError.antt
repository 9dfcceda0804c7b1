-- Which line of a text is the first in error.
use Rattle.std.specs.Prelude.{ℕ, ◌≡◌, ◌+◌, List, [], ◌∷◌, ◌++◌, Err, length}
use Rattle.module_text.specs.TextReader.Lines.{lines_of}
use Rattle.module_text.specs.TextReader.Refusal.{refusal}
use Rattle.machine_ring.specs.RingLink.RingForm.{AreRingLines, IsRing}
use Rattle.machine_ring.specs.RingLink.RingOfText.{ring_of}
use Rattle.machine_ring.specs.declared.ring_link.inputs.RingInput.{RingInput}

-- some ring's lines begin with these
abbrev pub BeginRing : List (List ℕ) → Type 0
BeginRing front = (ring : RingInput) × (rest : List (List ℕ)) × AreRingLines ring (front ++ rest)

-- the lines before line n begin a ring's lines, and with line n they do not
pub record IsFirstError (text : List ℕ) (n : ℕ) : Type 0 where
  -- the lines before it
  pub front : List (List ℕ)
  -- the line
  pub line : List ℕ
  -- the lines after it
  pub rest : List (List ℕ)
  -- these are all lines
  pub all : lines_of text ≡ front ++ line ∷ rest
  -- its number, from 1
  pub number : n ≡ length front + 1
  -- some ring begins with the lines before it
  pub before : BeginRing front
  -- none begins with these and it
  pub up_to : ¬ BeginRing (front ++ line ∷ [])

-- all lines begin a ring's lines, and are none; line n would be the next
pub record EndsEarly (text : List ℕ) (n : ℕ) : Type 0 where
  -- the number of the line that would follow
  pub next : n ≡ length (lines_of text) + 1
  -- some ring begins with all lines
  pub before : BeginRing (lines_of text)
  -- they are no ring
  pub short : (ring : RingInput) → ¬ IsRing text ring

-- the text is refused at line n with this code
abbrev pub IsRefused : List ℕ → ℕ → ℕ → Type 0
IsRefused text n code = ring_of text ≡ Err (refusal n code)
