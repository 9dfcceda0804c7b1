-- What is drawn from a state, and the state after it.
use Rattle.std.specs.Prelude.{ℕ, zero, suc, ◌+◌, ◌*◌, ◌/◌, ◌%◌, ◌^◌, List, [], ◌++◌}

-- what was drawn, and the state after it
pub record Drawn (A : Type 0) : Type 0 where
  -- what was drawn
  pub value : A
  -- the state of the generator after it
  pub state : ℕ

-- what is drawn from each state
abbrev pub Drawing : Type 0 → Type 0
Drawing A = ℕ → Drawn A

-- the successor of a state
abbrev pub next : ℕ → ℕ
next x = (1664525 * x + 1013904223) % 2 ^ 32

-- a number below m: the high half of the next state, modulo m
abbrev pub draw : ℕ → Drawing ℕ
draw m x = record { value = next x / 65536 % m; state = next x }

-- a text that is given, for which nothing is drawn
abbrev pub plain : List ℕ → Drawing (List ℕ)
plain text x = record { value = text; state = x }

-- a number is drawn, and it chooses the text that is drawn next
abbrev pub choosing : Drawing ℕ → (ℕ → Drawing (List ℕ)) → Drawing (List ℕ)
choosing number choice x = let drawn = number x in choice drawn.value drawn.state

-- a text that was drawn, and after it the one that is drawn next
abbrev pub with_next : Drawn (List ℕ) → Drawing (List ℕ) → Drawn (List ℕ)
with_next before last =
    let drawn = last before.state in
    record { value = before.value ++ drawn.value; state = drawn.state }

-- two texts, drawn one after the other
abbrev pub and_then : Drawing (List ℕ) → Drawing (List ℕ) → Drawing (List ℕ)
and_then first last x = with_next (first x) last

-- the texts of the numbers below n, drawn one after the other
unfoldable pub in_turn : ℕ → (ℕ → Drawing (List ℕ)) → Drawing (List ℕ)
in_turn zero text = plain []
in_turn (suc n) text = and_then (in_turn n text) (text n)
