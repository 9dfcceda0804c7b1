-- Which steps are looked through.
use Rattle.std.specs.Prelude.{ℕ, ◌-◌, Bool, if◌then◌else◌, max}

-- the first of the last 1,000,000 steps where something is to be found, and else of the last 20,000
abbrev pub first_seen : ℕ → Bool → ℕ
first_seen steps asks = max (steps - (if asks then 1000000 - 1 else 20000 - 1)) 1
