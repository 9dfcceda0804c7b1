-- The words of a task block that have its modules.
use Rattle.std.specs.Prelude.{ℕ, ◌+◌, ◌≤◌, ◌==◌, not, List, ◌∷◌, filter, length, slice_range}
use Rattle.kernel_lists.specs.TaskBlock.Versions.{head_words}
use Rattle.kernel_lists.specs.declared.task_block.fields.TcbField.TheVariants.{Module}
use Rattle.kernel_model.specs.KernelRecord.KernelRanges.{task_size_in}
use Rattle.kernel_model.specs.KernelRecord.Recovered.{field_in, further_words}

-- the first, and those of a guest after word 22; where it has fewer modules they hold 0
abbrev pub module_fields : List ℕ → ℕ → List ℕ
module_fields s t = field_in s t Module ∷ further_words s t

-- how many of those after word 22 of a guest have one
abbrev pub further_count : List ℕ → ℕ → ℕ
further_count s t = length (filter (λ m. not (m == 0)) (slice_range s (t + 23) (t + head_words s)))

-- the store has all words of the task block
abbrev pub IsTaskIn : List ℕ → ℕ → Type 0
IsTaskIn s t = t + task_size_in s t ≤ length s
