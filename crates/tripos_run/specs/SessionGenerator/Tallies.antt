-- What is told of a list of bytes.
use Rattle.std.specs.Prelude.{ℕ, ◌+◌, ◌*◌, ◌-◌, ◌%◌, ◌^◌, List, length, min}
use Rattle.std.specs.List.{fold}

-- how many there are: at 2 ^ 64 - 1 the count stands still
abbrev pub count_of : List ℕ → ℕ
count_of bytes = min (length bytes) (2 ^ 64 - 1)

-- the hash of bytes, and of a byte more
abbrev pub hash_with : ℕ → ℕ → ℕ
hash_with hash byte = (31 * hash + byte) % 2 ^ 32

-- the hash of the bytes, which begins with 0
abbrev pub hash_of : List ℕ → ℕ
hash_of bytes = fold hash_with 0 bytes
