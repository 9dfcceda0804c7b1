-- The lines that sum up a run.
use Rattle.std.specs.Prelude.{ℕ, List, [], ◌∷◌, codes, decimal}
use Rattle.byte_streams.specs.Pieces.{joined, hex_digits_of}
use Rattle.tripos_run.specs.SessionGenerator.Tallies.{count_of, hash_of}

-- how long the session is, how many bytes the console has shown, and their hash
abbrev pub summary : ℕ → List ℕ → List ℕ
summary session_bytes console =
    joined (codes "session " ∷ decimal session_bytes ∷ codes " bytes\nconsole "
    ∷ decimal (count_of console) ∷ codes " bytes\nhash " ∷ hex_digits_of (hash_of console)
    ∷ codes "\n" ∷ [])
