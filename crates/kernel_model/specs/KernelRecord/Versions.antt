-- What depends on the version of the machine.
use Rattle.std.specs.Prelude.{ℕ, ◌==◌, if◌then◌else◌}

-- the highest number of a task
abbrev pub highest_id_of : ℕ → ℕ
highest_id_of version = if version == 2 then 63 else 20

-- the words of a guest's task block
abbrev pub head_words_of : ℕ → ℕ
head_words_of version = if version == 2 then 30 else 23

-- the most modules of a task
abbrev pub most_modules_of : ℕ → ℕ
most_modules_of version = if version == 2 then 8 else 1
