-- The coroutines of a task that are active: the current one, its parent, and so on out to the root.
use Rattle.std.specs.Prelude.{◌≡◌, ℕ, zero, suc, ◌==◌, ◌||◌, if◌then◌else◌, List, [], ◌∷◌, length, slice_index}
use Rattle.kernel_lists.specs.Coroutines.CoroutineWords.{current_cell, parent_cell}

-- from the word at `at` on, the coroutines lead outwards through these, and the last word is `end`: 0 where none is active, and
-- the task's address as the last one's parent
abbrev pub LeadsOut : List ℕ → ℕ → ℕ → ℕ → List ℕ → Type 0
LeadsOut s t end at [] = slice_index s at ≡ end
LeadsOut s t end at (c ∷ cs) = (slice_index s at ≡ c) × LeadsOut s t t (parent_cell c) cs

-- the coroutines to which the words lead outwards, so many at most
unfoldable pub outwards : ℕ → List ℕ → ℕ → ℕ → List ℕ
outwards zero s t at = []
outwards (suc n) s t at =
    if (slice_index s at == 0) || (slice_index s at == t) then [] else slice_index s at ∷ outwards n s t (parent_cell (slice_index s at))

-- the active coroutines of the task at t, from the current one outwards
abbrev pub active_in : List ℕ → ℕ → List ℕ
active_in s t = outwards (length s) s t (current_cell t)
