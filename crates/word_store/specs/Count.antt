-- How often an address is in a list. Lists that are apart are said by counts, which add over joined lists.
use Rattle.std.specs.Prelude.{ℕ, ◌+◌, ◌≤◌, ◌==◌, if◌then◌else◌, List, [], ◌∷◌}
use Rattle.std.specs.List.{flat_map, range_with_len}

-- 1 where the two are one address, else 0
abbrev pub hit : ℕ → ℕ → ℕ
hit a b = if a == b then 1 else 0

-- how often the address is in the list
abbrev pub times : ℕ → List ℕ → ℕ
times a [] = 0
times a (x ∷ xs) = hit a x + times a xs

-- no address is there twice
abbrev pub IsApart : List ℕ → Type 0
IsApart xs = (a : ℕ) → times a xs ≤ 1

-- the addresses of the words of a node: so many, from its own address on
abbrev pub node_words : (ℕ → ℕ) → ℕ → List ℕ
node_words size p = range_with_len p (size p)

-- the addresses of the words of all nodes
abbrev pub words_of : (ℕ → ℕ) → List ℕ → List ℕ
words_of size ps = flat_map (node_words size) ps
