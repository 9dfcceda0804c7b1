-- Where hunks are loaded.
use Rattle.std.specs.Prelude.{ℕ, ◌+◌, ◌==◌, Bool, true, false, not, if◌then◌else◌, List, [], ◌∷◌, ◌++◌, length, Option, Some, None}
use Rattle.std.specs.List.{flat_map}
use Rattle.std.specs.Str.{bytes_eq}
use Rattle.program_places.specs.declared.loaded.LoadedHunk.{LoadedHunk}
use Rattle.program_places.specs.declared.maps.MappedHunk.{MappedHunk}
use Rattle.program_places.specs.declared.maps.PlacedHunk.{PlacedHunk}
use Rattle.program_places.specs.declared.maps.ProgramMap.{ProgramMap}

-- a word is the one that a hunk has there; any word is, where that one is relocated
abbrev pub is_like : ℕ → Option ℕ → Bool
is_like word (Some own) = word == own
is_like word None = true

-- words begin with those of a hunk
abbrev pub begins_with : List ℕ → List (Option ℕ) → Bool
begins_with words [] = true
begins_with [] (wanted ∷ more) = false
begins_with (word ∷ words) (wanted ∷ more) = if is_like word wanted then begins_with words more else false

-- those hunks that pass a test, of which the first has this number, are loaded at this address
abbrev pub hunks_at : (MappedHunk → Bool) → ℕ → ℕ → List MappedHunk → List LoadedHunk
hunks_at test word i [] = []
hunks_at test word i (hunk ∷ hunks) =
    (if test hunk then record { hunk = i; word = word } ∷ [] else []) ++ hunks_at test word (i + 1) hunks

-- the hunks that are where words begin, of which the first is at this address
abbrev pub hunks_here : List MappedHunk → ℕ → List ℕ → List LoadedHunk
hunks_here hunks at words = hunks_at (λ hunk. begins_with words hunk.words) at 0 hunks

-- the hunks that are anywhere in words, of which the first is at this address
abbrev pub hunks_along : List MappedHunk → ℕ → List ℕ → List LoadedHunk
hunks_along hunks at [] = []
hunks_along hunks at (word ∷ words) = hunks_here hunks at (word ∷ words) ++ hunks_along hunks (at + 1) words

-- whether the map says where its hunks are
abbrev pub is_placed : ProgramMap → Bool
is_placed map = not (length map.placed == 0)

-- the hunks with a name, at their place
abbrev pub placed_at : List MappedHunk → PlacedHunk → List LoadedHunk
placed_at hunks placed = hunks_at (λ hunk. bytes_eq hunk.name placed.name) placed.word 0 hunks

-- the hunks that are where the map says, in its order
abbrev pub placed_hunks : ProgramMap → List LoadedHunk
placed_hunks map = flat_map (placed_at map.hunks) map.placed
