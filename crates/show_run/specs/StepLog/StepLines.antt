-- What happens in a step, in words.
use Rattle.std.specs.Prelude.{ℕ, zero, suc, ◌+◌, ◌==◌, Bool, true, false, if◌then◌else◌, is_some, List, [], ◌∷◌, ◌++◌, Option, Some, None, codes, decimal, length, nat_le, slice_get}
use Rattle.std.specs.List.{flat_map}
use Rattle.std.specs.Option.{option_map}
use Rattle.byte_streams.specs.Pieces.{joined}
use Rattle.word_store.specs.Bytes.{byte_at}
use Rattle.kernel_model.specs.declared.kernel_record.stops.Stop.{Stop}
use Rattle.kernel_model.specs.declared.kernel_record.stops.Stop.TheVariants.{Steps, Quit, Finish, Fault}
use Rattle.debugger.specs.Texts.{instructions_text}
use Rattle.debugger.specs.Views.{is_guest_next}
use Rattle.tripos_machine.specs.GuestWrites.{guest_writes}
use Rattle.tripos_machine.specs.State.{State, keys_to_come, regs_of, running_of, steps_of, stop_of, words_of}
use Rattle.tripos_machine.specs.State.State.{Bare, Full}
use Rattle.tripos_machine.specs.Step.{Stepped, boot_events, step}
use Rattle.show_run.specs.declared.step_log.before.Before.{Before as BeforeInCode}
use Rattle.show_run.specs.declared.step_log.boots.TheConstants.{BOOT}
use Rattle.show_run.specs.declared.step_log.faults.FaultRecord.{FaultRecord}
use Rattle.show_run.specs.declared.step_log.moments.Moment.{Moment}
use Rattle.show_run.specs.StepLog.Answers.{answer_lines}
use Rattle.show_run.specs.StepLog.Calls.{Call, call_at, call_lines, call_seen}
use Rattle.show_run.specs.StepLog.Console.{console_lines}
use Rattle.show_run.specs.StepLog.Events.{event_line}
use Rattle.show_run.specs.StepLog.Faults.{fault_lines, record_of}
use Rattle.show_run.specs.StepLog.Moments.{line, start}
use Rattle.show_run.specs.StepLog.Packets.{told_lines, told_of}
use Rattle.show_run.specs.StepLog.Writes.{other_lines, written_lines}

-- ---- the boot

-- what happened before the first step, as lines of a step 0
abbrev pub boot_lines : State → List ℕ
boot_lines s = flat_map (event_line BOOT) (boot_events s)

-- ---- before the step

-- the ticks so far; a machine without a kernel has none
abbrev pub tick_of : State → ℕ
tick_of (Bare m) = 0
tick_of (Full k) = k.lists.tick

-- the step that comes next
abbrev pub moment_of : State → Moment
moment_of s = record { step = steps_of s + 1; tick = tick_of s; task = running_of s; pc = (regs_of s).pc }

-- the line of the instruction at PC, as the debugger lists it
abbrev pub listed_instruction : Moment → List ℕ → List ℕ
listed_instruction m words = start m (codes "step ") ++ instructions_text m.pc 1 words

-- that of one whose first byte is this, which is in the store
abbrev pub listed_line : Moment → Option ℕ → List ℕ → List ℕ
listed_line m None words = line m (codes "step outside the store")
listed_line m (Some b) words = listed_instruction m words

-- the line of what a guest does; at address 0 there is no instruction
abbrev pub guest_line : Moment → List ℕ → List ℕ
guest_line m words = if m.pc == 0 then line m (codes "die PC is 0") else listed_line m (byte_at words m.pc) words

-- the line of what a guest does next, where one is next
abbrev pub guest_lines : Moment → State → List ℕ
guest_lines m s = if is_guest_next s then guest_line m (words_of s) else []

-- a machine without a kernel has calls of its own
abbrev pub is_bare : State → Bool
is_bare (Bare m) = true
is_bare (Full k) = false

-- the call that is made in the next step, if one is
abbrev pub call_of : State → Option Call
call_of s = if is_guest_next s then call_at (is_bare s) (words_of s) (regs_of s) else None

-- What the lines need of the state before, besides the moment.
pub record Before : Type 0 where
  -- the call that is made, if one is
  pub call : Option Call
  -- how many keys are to come
  pub count : ℕ
  -- the first of them: the step at which it is due, and its byte
  pub first : Option (ℕ × ℕ)
  -- what is recorded of a fault of the task that runs
  pub fault : Option FaultRecord

-- what the lines need of this state
unfoldable pub before_of : State → Before
before_of s = record {
  call = call_of s;
  count = length (keys_to_come s);
  first = slice_get (keys_to_come s) 0;
  fault = record_of (running_of s) s;
}

-- the same, as the code has it
abbrev pub before_seen : BeforeInCode → Before
before_seen b = record { call = option_map call_seen b.call; count = b.keys.count; first = b.keys.first; fault = b.fault }

-- ---- after the step

-- the tick, where it is another
abbrev pub tick_lines : Moment → ℕ → List ℕ
tick_lines m tick = if m.tick == tick then [] else line m (joined (codes "tick " ∷ decimal tick ∷ []))

-- the byte of a key that has come
abbrev pub key_line : Moment → Option (ℕ × ℕ) → List ℕ
key_line m None = []
key_line m (Some key) = line m (joined (codes "key " ∷ decimal key.1 ∷ []))

-- where so many keys were to come, the first of them this one, and fewer are left
abbrev pub key_lines : Moment → ℕ → Option (ℕ × ℕ) → ℕ → List ℕ
key_lines m count first left = if nat_le count left then [] else key_line m first

-- why a machine has stopped, in words
abbrev pub stop_text : Stop → List ℕ
stop_text Steps = codes "stop steps"
stop_text (Quit code) = joined (codes "stop quit " ∷ decimal code ∷ [])
stop_text Finish = codes "stop finish"
stop_text (Fault code address task) =
    joined (codes "stop fault " ∷ decimal code ∷ codes " at " ∷ decimal address ∷ codes " in task " ∷ decimal task ∷ [])

-- why the machine has stopped, where it has
abbrev pub stop_lines : Moment → Option Stop → List ℕ
stop_lines m None = []
stop_lines m (Some stop) = line m (stop_text stop)

-- ---- the step

-- the instruction, what it writes, and its call
abbrev pub lines_before : Moment → Before → State → List ℕ
lines_before m b s = guest_lines m s ++ (written_lines m (words_of s) (guest_writes s) ++ call_lines m b.call)

-- what happens as the step is taken: its events in their order, the packets that were accepted, with their words after the step, and the
-- words that change beside those that the instruction writes
unfoldable pub turn_lines : Moment → Before → State → Stepped → List ℕ
turn_lines m b s x =
    flat_map (event_line m) x.events ++ (told_lines m (words_of x.state) (told_of x.events) ++ other_lines m b.call x.events s x.state)

-- what the call answers, and the fault that was recorded in place of an answer
abbrev pub end_lines : Moment → Before → State → List ℕ
end_lines m b s = answer_lines m b.call s ++ fault_lines m b.fault (record_of m.task s)

-- the tick, the key and the stop, each where it has come
abbrev pub change_lines : Moment → Before → State → List ℕ
change_lines m b s = tick_lines m (tick_of s) ++ (key_lines m b.count b.first (length (keys_to_come s)) ++ stop_lines m (stop_of s))

-- what is known after the step, of the bytes that it wrote and of the state that it left
abbrev pub lines_after : Moment → Before → List ℕ → State → List ℕ
lines_after m b bytes s = end_lines m b s ++ (console_lines m bytes ++ change_lines m b s)

-- What a step of a machine does, a line each: the instruction, what it writes, its call, the events in their order, the packets that were
-- accepted, with their words after the step, the other words that change, what the call answers, a fault of the task, what is written to the
-- console, the tick, the key that came, and the stop. Each line begins with the step, and where the machine stood before it.
unfoldable pub step_lines : State → Stepped → List ℕ
step_lines s x =
    let m = moment_of s in
    let b = before_of s in
    lines_before m b s ++ (turn_lines m b s x ++ lines_after m b x.bytes x.state)

-- the lines of the next n steps; a machine that has stopped takes none
unfoldable pub log_text : ℕ → State → List ℕ
log_text zero s = []
log_text (suc n) s = if is_some (stop_of s) then [] else step_lines s (step s) ++ log_text n (step s).state
