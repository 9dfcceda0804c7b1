-- The keys that are typed while a machine runs.
use Rattle.std.specs.Prelude.{ℕ, ◌+◌, List, drop, length, nat_lt, if◌then◌else◌}

-- all keys, each as the step at which it is due and its byte, in the order in which they come; and how many of them have come
pub record KeyScript : Type 0 where
  -- all keys, each as the step at which it is due and its byte
  pub keys : List (ℕ × ℕ)
  -- how many of them have come
  pub come : ℕ

-- the keys that are still to come
abbrev pub still_to_come : KeyScript → List (ℕ × ℕ)
still_to_come s = drop s.come s.keys

-- the first key that is still to come has come, if there is one
abbrev pub with_next_come : KeyScript → KeyScript
with_next_come s = if nat_lt s.come (length s.keys) then record s { come = s.come + 1 } else s
