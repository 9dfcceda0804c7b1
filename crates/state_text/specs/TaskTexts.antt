-- The tasks of a kernel in words.
use Rattle.std.specs.Prelude.{ℕ, ◌%◌, ◌==◌, ◌&&◌, Bool, if◌then◌else◌, nat_lt, Option, List, [], ◌∷◌, codes, decimal}
use Rattle.std.specs.List.{flat_map}
use Rattle.byte_streams.specs.Pieces.{joined}
use Rattle.kernel_model.specs.KernelRecord.Between.{is_empty_queue}
use Rattle.kernel_model.specs.KernelRecord.Lists.{Lists}
use Rattle.kernel_model.specs.KernelRecord.Task.{Task}
use Rattle.kernel_model.specs.KernelRecord.ValidTasks.{interrupted, runs, waits}
use Rattle.kernel_model.specs.declared.kernel_record.numbers.TheConstants.{REPORTED}
use Rattle.state_text.specs.AwaitedPackets.{awaited_lines}
use Rattle.state_text.specs.PacketTexts.{packet_lines}
use Rattle.state_text.specs.ProgramNames.{first_name, line_end}
use Rattle.state_text.specs.declared.places.Place.TheVariants.{Task as OfTask}

-- what a task does, by the field of its state
abbrev pub field_words : ℕ → List ℕ
field_words field =
    if field == runs then codes "runs" else
    if field == waits then codes "waits" else
    if field == interrupted then codes "was interrupted" else
    codes "is dead"

-- that it is held, where it is
abbrev pub held_words : Bool → List ℕ
held_words held = if held then codes ", is held" else []

-- its number, its address, its priority, and its state
abbrev pub state_words : Task → List ℕ
state_words t =
    joined (codes "task " ∷ decimal t.id ∷ codes " at " ∷ decimal t.address ∷ codes ", priority " ∷ decimal t.priority ∷ codes ", "
    ∷ field_words t.field ∷ held_words t.held ∷ [])

-- these, and the first name that one of its modules has
abbrev pub state_line : (ℕ → Option (List ℕ)) → Task → List ℕ
state_line name_at t = joined (state_words t ∷ line_end (first_name name_at t.modules) ∷ [])

-- its flags, where one is set
abbrev pub flags_line : ℕ → List ℕ
flags_line flags = if flags == 0 then [] else joined (codes "  its flags are " ∷ decimal flags ∷ codes "\n" ∷ [])

-- whether a fault was reported
abbrev pub report_words : ℕ → List ℕ
report_words fault = if nat_lt fault REPORTED then codes "not reported" else codes "reported"

-- the fault that it met, and the fault's address
abbrev pub fault_line : ℕ → ℕ → List ℕ
fault_line fault address =
    if fault == 0
    then []
    else joined (codes "  fault " ∷ decimal (fault % REPORTED) ∷ codes " at " ∷ decimal address ∷ codes ", " ∷ report_words fault ∷ codes "\n" ∷ [])

-- whether it waits, and no packet has come
abbrev pub awaits_packet : Task → Bool
awaits_packet t = (t.field == waits) && is_empty_queue t.queue

-- what it waits for, where it does
abbrev pub awaited_text : Lists → Task → List ℕ
awaited_text l t = if awaits_packet t then awaited_lines t.id l else []

-- where it goes on, if it was interrupted
abbrev pub resumption_line : Task → List ℕ
resumption_line t = if t.field == interrupted then joined (codes "  it goes on at byte " ∷ decimal t.saved.pc ∷ codes "\n" ∷ []) else []

-- the lines of a task
unfoldable pub task_text : (ℕ → Option (List ℕ)) → Lists → Task → List ℕ
task_text name_at l t =
    joined (state_line name_at t ∷ flags_line t.flags ∷ fault_line t.fault t.fault_address ∷ packet_lines (OfTask t.id) t.queue
    ∷ awaited_text l t ∷ resumption_line t ∷ [])

-- the lines of all tasks, in the order of the chain
unfoldable pub tasks_text : (ℕ → Option (List ℕ)) → Lists → List ℕ
tasks_text name_at l = joined (codes "tasks\n" ∷ flat_map (task_text name_at l) l.tasks ∷ [])
