-- The words of globals lie apart from those of a module.
use Rattle.std.specs.Prelude.{ℕ, ◌+◌, ◌<◌, ◌≤◌, ◌⊎◌}

-- none of the words g to g + 1000 is among the words from one address up to another
abbrev pub AreClear : ℕ → ℕ → ℕ → Type 0
AreClear g from end = (k : ℕ) → k ≤ 1000 → (g + k < from) ⊎ (end ≤ g + k)
