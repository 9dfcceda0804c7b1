-- What a call answers, as it is after the step.
use Rattle.std.specs.Prelude.{ℕ, ◌==◌, Bool, not, if◌then◌else◌, is_some, List, [], ◌∷◌, ◌++◌, Option, Some, None, codes}
use Rattle.std.specs.Fmt.{signed_decimal}
use Rattle.std.specs.List.{find}
use Rattle.std.specs.Option.{option_map}
use Rattle.byte_streams.specs.Pieces.{joined}
use Rattle.word_store.specs.Arithmetic.{signed}
use Rattle.kernel_model.specs.KernelRecord.Recovered.{task_in}
use Rattle.kernel_model.specs.KernelRecord.Task.{Task}
use Rattle.kernel_model.specs.declared.kernel_record.numbers.TheConstants.{WAITS}
use Rattle.tripos_machine.specs.State.{State, regs_of, running_of, stop_of}
use Rattle.tripos_machine.specs.State.State.{Bare, Full}
use Rattle.show_run.specs.declared.step_log.answers.CallAnswer.{CallAnswer}
use Rattle.show_run.specs.declared.step_log.answers.CallAnswer.TheVariants.{Waits, Results}
use Rattle.show_run.specs.declared.step_log.moments.Moment.{Moment}
use Rattle.show_run.specs.StepLog.Calls.{Call}
use Rattle.show_run.specs.StepLog.Moments.{line}
use Rattle.show_run.specs.StepLog.Refusals.{refusal_lines}

-- a task that does not run waits, or has what was saved of its registers
abbrev pub answer_saved : Task → CallAnswer
answer_saved t = if t.field == WAITS then Waits else Results t.saved.a t.saved.b

-- as the words of the task block at t say
abbrev pub answer_at : List ℕ → ℕ → CallAnswer
answer_at s t = answer_saved (task_in s t)

-- that of the task with the number, where there is one
unfoldable pub answer_of_task : ℕ → List Task → Option CallAnswer
answer_of_task id ts = option_map answer_saved (find (λ t. t.id == id) ts)

-- what a task that does not run has of its call; a machine without a kernel has none
abbrev pub answer_elsewhere : ℕ → State → Option CallAnswer
answer_elsewhere id (Bare m) = None
answer_elsewhere id (Full k) = answer_of_task id k.lists.tasks

-- What the task with the number has of its call: its registers, while it runs. There is no answer where the machine has stopped.
abbrev pub answer_of : ℕ → State → Option CallAnswer
answer_of id s =
    if is_some (stop_of s) then None else
    if running_of s == id then Some (Results (regs_of s).a (regs_of s).b) else
    answer_elsewhere id s

-- ---- its lines

-- that the call was refused, and why, where 0 and a code are how it says so
abbrev pub refused_lines : Moment → Bool → ℕ → ℕ → List ℕ
refused_lines m refuses first second = if not refuses then [] else if first == 0 then refusal_lines m second else []

-- both words of an answer, as signed numbers
abbrev pub values_text : ℕ → ℕ → List ℕ
values_text first second = joined (codes "answer = " ∷ signed_decimal (signed first) ∷ codes ", second " ∷ signed_decimal (signed second) ∷ [])

-- the answer, and whether it is a refusal
abbrev pub given_lines : Moment → Bool → ℕ → ℕ → List ℕ
given_lines m refuses first second = line m (values_text first second) ++ refused_lines m refuses first second

-- that the task waits, or what it was given
abbrev pub call_answer_lines : Moment → Bool → CallAnswer → List ℕ
call_answer_lines m refuses Waits = line m (codes "answer waits")
call_answer_lines m refuses (Results first second) = given_lines m refuses first second

-- what is known of the answer, where something is
abbrev pub made_lines : Moment → Bool → Option CallAnswer → List ℕ
made_lines m refuses None = []
made_lines m refuses (Some answer) = call_answer_lines m refuses answer

-- of the call that was made, if one was
abbrev pub answer_lines : Moment → Option Call → State → List ℕ
answer_lines m None s = []
answer_lines m (Some c) s = made_lines m c.refuses (answer_of m.task s)
