-- A module as it is in a store.
use Rattle.std.specs.Prelude.{ℕ, ◌+◌, List, [], ◌∷◌, ◌++◌, length, map}
use Rattle.module_text.specs.Shapes.{words_in}
use Rattle.module_text.specs.declared.modules.Hunk.{Hunk}
use Rattle.kernel_lists.specs.HunkLoader.RelocatedWords.{relocated}

-- the numbers of the hunks' words
abbrev pub lengths_of : List Hunk → List ℕ
lengths_of hunks = map (λ h. length h.words) hunks

-- the words of the hunks, of which the first is at the base, one after the other and relocated
abbrev pub hunks_image : ℕ → List Hunk → List ℕ
hunks_image base [] = []
hunks_image base (h ∷ hs) = relocated base h.words h.relocations ++ hunks_image (base + length h.words) hs

-- the words of a module at an address: the link, the number of hunks, their lengths, and their words
abbrev pub module_row : ℕ → ℕ → List Hunk → List ℕ
module_row link m hunks = link ∷ length hunks ∷ lengths_of hunks ++ hunks_image (m + 2 + length hunks) hunks

-- the number of its last word
abbrev pub last_word : List Hunk → ℕ
last_word hunks = 1 + length hunks + words_in hunks
