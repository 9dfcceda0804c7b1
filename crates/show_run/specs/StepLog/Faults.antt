-- The fault of a task that a step records.
use Rattle.std.specs.Prelude.{ℕ, ◌==◌, ◌&&◌, Bool, false, if◌then◌else◌, List, [], ◌∷◌, Option, Some, None, codes, decimal, nat_lt}
use Rattle.std.specs.List.{find}
use Rattle.std.specs.Option.{option_map}
use Rattle.byte_streams.specs.Pieces.{joined}
use Rattle.kernel_model.specs.KernelRecord.Recovered.{task_in}
use Rattle.kernel_model.specs.KernelRecord.Task.{Task}
use Rattle.kernel_model.specs.declared.kernel_record.numbers.TheConstants.{REPORTED}
use Rattle.tripos_machine.specs.State.{State}
use Rattle.tripos_machine.specs.State.State.{Bare, Full}
use Rattle.show_run.specs.declared.step_log.faults.FaultRecord.{FaultRecord}
use Rattle.show_run.specs.declared.step_log.moments.Moment.{Moment}
use Rattle.show_run.specs.StepLog.Moments.{line}

-- what is recorded of a fault of the task
abbrev pub recorded : Task → FaultRecord
recorded t = record { code = t.fault; address = t.fault_address }

-- as the words of the task block at t say
abbrev pub record_at : List ℕ → ℕ → FaultRecord
record_at s t = recorded (task_in s t)

-- that of the task with the number, where there is one
unfoldable pub record_of_task : ℕ → List Task → Option FaultRecord
record_of_task id ts = option_map recorded (find (λ t. t.id == id) ts)

-- what is recorded of the task with the number; a machine without a kernel records nothing
abbrev pub record_of : ℕ → State → Option FaultRecord
record_of id (Bare m) = None
record_of id (Full k) = record_of_task id k.lists.tasks

-- ---- its line

-- whether the record is the one from before
abbrev pub is_same : Option FaultRecord → FaultRecord → Bool
is_same None now = false
is_same (Some before) now = (before.code == now.code) && (before.address == now.address)

-- the line of a fault that is recorded
abbrev pub recorded_line : Moment → FaultRecord → List ℕ
recorded_line m f = line m (joined (codes "fault " ∷ decimal f.code ∷ codes " at " ∷ decimal f.address ∷ []))

-- that of a record which was not reported yet
abbrev pub unreported_lines : Moment → FaultRecord → List ℕ
unreported_lines m f = if f.code == 0 then [] else if nat_lt f.code REPORTED then recorded_line m f else []

-- the fault, where there is another record than before the step
abbrev pub fault_lines : Moment → Option FaultRecord → Option FaultRecord → List ℕ
fault_lines m before None = []
fault_lines m before (Some now) = if is_same before now then [] else unreported_lines m now
