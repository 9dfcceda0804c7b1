-- Numbers in their ranges, which are those of the text of a session.
use Rattle.std.specs.Prelude.{ℕ, if◌then◌else◌, Bool, List, codes, Option, Some, None, option_and_then}
use Rattle.std.specs.Str.{bytes_eq}
use Rattle.module_text.specs.TextReader.Numbers.{number_of}
use Rattle.kernel_model.specs.KernelRecord.Ranges.{is_period, is_store_size}
use Rattle.session_text.specs.Ranges.{is_priority, is_stack, is_step, is_task}

-- the number that a word is, if it is one in this range
abbrev pub number_where : (ℕ → Bool) → List ℕ → Option ℕ
number_where is_in_range word = option_and_then (λ n. if is_in_range n then Some n else None) (number_of word)

-- the version that a word is
abbrev pub version_in : List ℕ → Option ℕ
version_in word =
    if bytes_eq word (codes "1") then Some 1 else
    if bytes_eq word (codes "2") then Some 2 else
    None

-- the size of a store
abbrev pub store_in : ℕ → List ℕ → Option ℕ
store_in version word = number_where (is_store_size version) word

-- a number of steps
abbrev pub steps_in : List ℕ → Option ℕ
steps_in word = number_where is_step word

-- the period of a clock
abbrev pub period_in : List ℕ → Option ℕ
period_in word = number_where is_period word

-- the number of a task
abbrev pub task_in : ℕ → List ℕ → Option ℕ
task_in version word = number_where (is_task version) word

-- a priority
abbrev pub priority_in : List ℕ → Option ℕ
priority_in word = number_where is_priority word

-- the highest index of a stack
abbrev pub stack_in : List ℕ → Option ℕ
stack_in word = number_where is_stack word
