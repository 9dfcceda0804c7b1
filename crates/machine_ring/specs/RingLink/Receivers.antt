-- The end that receives: which bytes it takes.
use Rattle.std.specs.Prelude.{ℕ, ◌+◌, ◌==◌, ◌&&◌, Bool, if◌then◌else◌}

-- after so many bytes, the one with this number is taken: it is the next, and there is room
abbrev pub is_taken : ℕ → ℕ → Bool → Bool
is_taken count number room = (number == count) && room

-- how many bytes were taken, once it came
abbrev pub count_after : ℕ → ℕ → Bool → ℕ
count_after count number room = if is_taken count number room then count + 1 else count
