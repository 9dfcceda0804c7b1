-- Lines that say one number.
use Rattle.std.specs.Prelude.{ℕ, List, [], ◌∷◌, codes, decimal}
use Rattle.byte_streams.specs.Pieces.{joined}

-- a text, and a number in decimal after it
abbrev pub number_line : List ℕ → ℕ → List ℕ
number_line text n = joined (text ∷ decimal n ∷ codes "\n" ∷ [])

-- the code of a refusal
abbrev pub error_line : ℕ → List ℕ
error_line code = number_line (codes "Error ") code

-- the result of a program
abbrev pub return_code_line : ℕ → List ℕ
return_code_line result = number_line (codes "Return code ") result

-- the number of a task that was started
abbrev pub task_number_line : ℕ → List ℕ
task_number_line id = number_line (codes "Task ") id

-- such a line has at most so many bytes
abbrev pub most_in_number_line : ℕ
most_in_number_line = 23
