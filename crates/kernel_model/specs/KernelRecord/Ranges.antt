-- The versions of the system, and how large the numbers of its machines are.
use Rattle.std.specs.Prelude.{ℕ, ◌%◌, ◌≤◌, ◌&&◌, ◌==◌, if◌then◌else◌, Bool, nat_le}

-- the versions are 1 and 2
abbrev pub IsVersion : ℕ → Type 0
IsVersion version = (1 ≤ version) × (version ≤ 2)

-- the most words of a store
abbrev pub most_words : ℕ → ℕ
most_words version = if version == 1 then 262144 else 4194304

-- the size of a store is even, and at least 1,024 words
abbrev pub is_store_size : ℕ → ℕ → Bool
is_store_size version words = nat_le 1024 words && nat_le words (most_words version) && (words % 2 == 0)

-- the steps from one tick of a clock to the next
abbrev pub is_period : ℕ → Bool
is_period steps = nat_le 1 steps && nat_le steps 1000000

-- the most steps that a machine takes
abbrev pub most_steps : ℕ
most_steps = 4000000000
