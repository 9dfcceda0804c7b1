-- The four lines before the sessions of a ring: its numbers, and what its link does.
use Rattle.std.specs.Prelude.{ℕ, ◌==◌, ◌||◌, ◌&&◌, if◌then◌else◌, Bool, List, length, Result, Ok, Err, codes, nat_le}
use Rattle.std.specs.List.{list_all}
use Rattle.std.specs.Option.{ok_or}
use Rattle.module_text.specs.TextReader.Fields.{after_word}
use Rattle.module_text.specs.TextReader.Refusal.{Refusal, refusal}
use Rattle.module_text.specs.TextReader.Steps.{◌>>=◌}
use Rattle.machine_ring.specs.RingLink.NextLines.{line_after, next_line}
use Rattle.machine_ring.specs.RingLink.TwoNumbers.{two_numbers}
use Rattle.machine_ring.specs.declared.ring_link.heads.Head.{Head}
use Rattle.machine_ring.specs.declared.ring_link.inputs.TheConstants.{MOST_LETTERS, MOST_ROUNDS, MOST_WAIT}

-- ---- the ranges

-- a number of rounds that a ring may have
abbrev pub is_round_count : ℕ → Bool
is_round_count n = nat_le n MOST_ROUNDS

-- a number of rounds after which a byte may be sent again
abbrev pub is_wait : ℕ → Bool
is_wait n = nat_le 1 n && nat_le n MOST_WAIT

-- `D`, `X`, `R`, `O` and `.`
abbrev pub is_letter : ℕ → Bool
is_letter c = (c == 68) || (c == 88) || (c == 82) || (c == 79) || (c == 46)

-- a number of letters that a line of the link may have: from 1 to the most
abbrev pub is_letter_count : ℕ → Bool
is_letter_count n = nat_le 1 n && nat_le n MOST_LETTERS

-- ---- each line

-- the two numbers of the first line: the rounds, and how many rounds the sender waits until it sends again
abbrev pub numbers : List ℕ → Result (ℕ × ℕ) Refusal
numbers line = do
  both ← ok_or (two_numbers line) (refusal 1 1)
  if is_round_count both.0 && is_wait both.1 then Ok both else Err (refusal 1 2)

-- the first line, and the lines after it
abbrev pub numbers_line : List (List ℕ) → Result ((ℕ × ℕ) × List (List ℕ)) Refusal
numbers_line lines = do
  first ← next_line 1 lines
  both ← numbers first.0
  Ok (both, first.1)

-- letters of line n
abbrev pub letters : ℕ → List ℕ → Result (List ℕ) Refusal
letters n text =
    if list_all is_letter text then if is_letter_count (length text) then Ok text else Err (refusal n 2) else Err (refusal n 1)

-- the letters of line n, after their word
abbrev pub letters_after : List ℕ → ℕ → List ℕ → Result (List ℕ) Refusal
letters_after word n line = do
  text ← ok_or (after_word word line) (refusal n 1)
  letters n text

-- the letters of line n, after its word, and the lines after it
abbrev pub letters_line : List ℕ → ℕ → List (List ℕ) → Result (List ℕ × List (List ℕ)) Refusal
letters_line word n lines = do
  first ← next_line n lines
  found ← letters_after word n first.0
  Ok (found, first.1)

-- ---- all four

-- the four lines, and the lines after them
abbrev pub head_lines : List (List ℕ) → Result (Head × List (List ℕ)) Refusal
head_lines lines = do
  both ← numbers_line lines
  link ← letters_line (codes "LINK :") 2 both.1
  acks ← letters_line (codes "ACKS :") 3 link.1
  rest ← line_after (codes "LEFT") 4 acks.1
  Ok (record { rounds = both.0.0; wait = both.0.1; link = link.0; acks = acks.0 }, rest)
