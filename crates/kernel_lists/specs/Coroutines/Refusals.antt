-- When a call on coroutines is refused, and with what.
use Rattle.std.specs.Prelude.{ℕ, Bool, not, ◌==◌, ◌||◌, Result, Ok, Err, List, [], ◌∷◌, if◌then◌else◌}
use Rattle.kernel_lists.specs.LinkedList.Places.{has}
use Rattle.kernel_lists.specs.TaskBlock.Lists.{coroutines_in}
use Rattle.kernel_lists.specs.Coroutines.Active.{active_in}
use Rattle.kernel_lists.specs.Coroutines.CoroutineWords.{current_in}
use Rattle.kernel_lists.specs.declared.coroutine_lists.ends.CoEnd.{CoEnd}
use Rattle.kernel_lists.specs.declared.coroutine_lists.ends.CoEnd.TheVariants.{HasParent, NoParent, Unknown}

-- the tests of a call in their order, each with the refusal where it fails
abbrev pub first_refusal : List (Bool × CoEnd) → Result Unit CoEnd
first_refusal [] = Ok tt
first_refusal (test ∷ tests) = if test.0 then first_refusal tests else Err test.1

-- c is one of the task's coroutines
abbrev pub is_known : List ℕ → ℕ → ℕ → Bool
is_known s t c = has c (coroutines_in s t)

-- c is active, and so has a parent
abbrev pub has_parent : List ℕ → ℕ → ℕ → Bool
has_parent s t c = has c (active_in s t)

-- a coroutine is current, and not the root
abbrev pub is_within : List ℕ → ℕ → Bool
is_within s t = not (current_in s t == 0)

-- whether c may be deleted or called: it has to be a coroutine of the task, without a parent
abbrev pub idle_answer : List ℕ → ℕ → ℕ → Result Unit CoEnd
idle_answer s t c = first_refusal ((is_known s t c, Unknown) ∷ (not (has_parent s t c), HasParent) ∷ [])

-- whether c may be resumed: it has to be a coroutine of the task, without a parent or the current one, and the root may not be
-- current
abbrev pub resume_answer : List ℕ → ℕ → ℕ → Result Unit CoEnd
resume_answer s t c =
    first_refusal ((is_known s t c, Unknown) ∷ (is_within s t, NoParent) ∷ (not (has_parent s t c) || (current_in s t == c), HasParent) ∷ [])

-- whether the current coroutine may wait: it may not be the root
abbrev pub wait_answer : List ℕ → ℕ → Result Unit CoEnd
wait_answer s t = first_refusal ((is_within s t, NoParent) ∷ [])
