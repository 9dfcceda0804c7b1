-- Why a call is refused, by the code that it answers.
use Rattle.std.specs.Prelude.{ℕ, ◌==◌, if◌then◌else◌, List, [], ◌∷◌, Option, Some, None, codes, decimal}
use Rattle.byte_streams.specs.Pieces.{joined}
use Rattle.show_run.specs.declared.step_log.moments.Moment.{Moment}
use Rattle.show_run.specs.StepLog.Moments.{line}

-- what a code means; no call answers any other
unfoldable pub refusal : ℕ → Option (List ℕ)
refusal code =
    if code == 1 then Some (codes "no run of free blocks is large enough") else
    if code == 2 then Some (codes "there is no such task") else
    if code == 3 then Some (codes "the link of the packet is not -1, so it is on a queue, or was never prepared") else
    if code == 4 then Some (codes "this is the number of no task and no device") else
    if code == 5 then Some (codes "the packet does not lie in one block that is in use, or one of its five words is the kernel's") else
    if code == 6 then Some (codes "this is no block that was taken by getvec") else
    if code == 7 then Some (codes "a queued packet lies in the block, or in the globals") else
    if code == 8 then Some (codes "a task has this priority") else
    if code == 9 then Some (codes "a priority is from 1 to 10,000") else
    if code == 10 then Some (codes "tasks have all numbers") else
    if code == 11 then Some (codes "the task is not dead") else
    if code == 12 then Some (codes "packets wait for the task") else
    if code == 13 then Some (codes "a packet that the task sent is still with a device or a resident") else
    if code == 14 then Some (codes "the task is a resident; the packet is a resident's") else
    if code == 15 then Some (codes "the task is not held") else
    if code == 16 then Some (codes "the task is held already") else
    if code == 17 then Some (codes "no module has this address") else
    if code == 18 then Some (codes "a hunk of the module has more globals than there are: its last word is above 1000") else
    if code == 19 then Some (codes "the packet is on none of the queues that are searched") else
    if code == 20 then Some (codes "no run of free blocks is large enough for the coroutine") else
    if code == 21 then Some (codes "the caller has no such coroutine") else
    if code == 22 then Some (codes "the coroutine has a parent") else
    if code == 23 then Some (codes "the call is made in the root, which has no parent") else
    if code == 24 then Some (codes "a queued packet lies in the coroutine's block") else
    if code == 25 then Some (codes "the task has coroutines") else
    if code == 26 then Some (codes "a task has the module") else
    if code == 27 then Some (codes "a task has this number") else
    if code == 28 then Some (codes "the task has eight modules") else
    None

-- the line of a code that has a meaning
abbrev pub meant_lines : Moment → ℕ → Option (List ℕ) → List ℕ
meant_lines m code None = []
meant_lines m code (Some text) = line m (joined (codes "refused code " ∷ decimal code ∷ codes ": " ∷ text ∷ []))

-- the line of a code
abbrev pub refusal_lines : Moment → ℕ → List ℕ
refusal_lines m code = meant_lines m code (refusal code)
