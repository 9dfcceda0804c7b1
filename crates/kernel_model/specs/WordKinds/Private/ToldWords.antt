-- What a keeper of kinds knows before and after it is told of addresses that come or go.
use Rattle.std.specs.Prelude.{◌≡◌, ℕ, ◌+◌, ◌≤◌, List}
use Rattle.word_store.specs.Count.{times}

-- a keeper, seen by what it tells, knows each address as often as it is counted
abbrev pub KnowsCounts : (List ℕ → Type 0) → (ℕ → ℕ) → Type 0
KnowsCounts tells count = (known : List ℕ) → ((a : ℕ) → times a known ≡ count a) → tells known

-- the keeper was told that these addresses, which it knew, are the kernel's no more
abbrev pub WasReleased : (List ℕ → Type 0) → (List ℕ → Type 0) → List ℕ → Type 0
WasReleased tells told gone =
    (count : ℕ → ℕ) → ((a : ℕ) → count a + times a gone ≤ 1) → KnowsCounts tells (λ a. count a + times a gone) → KnowsCounts told count

-- the keeper was told that these addresses are the kernel's now
abbrev pub WasClaimed : (List ℕ → Type 0) → (List ℕ → Type 0) → List ℕ → Type 0
WasClaimed tells told new = (count : ℕ → ℕ) → KnowsCounts tells count → KnowsCounts told (λ a. count a + times a new)
