-- Things with numbers, each in the place of its number.
use Rattle.std.specs.Prelude.{ℕ, ◌+◌, ◌==◌, Option, List, find, map}
use Rattle.std.specs.List.{range_with_len}
use Rattle.std.specs.Option.{option_map}

-- the thing with this number, if there is one
abbrev pub thing_numbered : {A B : Type 0} → (A → ℕ) → (A → B) → List A → ℕ → Option B
thing_numbered number thing xs k = option_map thing (find (λ x. number x == k) xs)

-- so many places, of which the first is that of number 1: each has the thing with its number, if there is one
unfoldable pub placed : {A B : Type 0} → (A → ℕ) → (A → B) → ℕ → List A → List (Option B)
placed number thing places xs = map (λ i. thing_numbered number thing xs (i + 1)) (range_with_len 0 places)
