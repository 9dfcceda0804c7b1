-- What the lines of the debugger do, one after another.
use Rattle.std.specs.Prelude.{ℕ, zero, suc, ◌≡◌, ◌+◌, ◌-◌, ◌≤◌, min, if◌then◌else◌, is_some, nat_lt, List, [], ◌∷◌, ◌++◌, Option, Result, Ok, Err, codes, length, unwrap_or}
use Rattle.std.specs.Option.{option_map}
use Rattle.debugger.specs.MachineHistory.Pasts.{past_back, remembered, state_back}
use Rattle.tripos_machine.specs.State.{State, regs_of, running_of, steps_of, stop_of, words_of}
use Rattle.tripos_machine.specs.Step.{run, step}
use Rattle.debugger.specs.declared.limits.Limits.{Limits}
use Rattle.debugger.specs.declared.orders.BadLine.{BadLine}
use Rattle.debugger.specs.declared.orders.Order.{Order}
use Rattle.debugger.specs.declared.orders.Order.TheVariants.{Back, Blocks, Break, Continue, DeviceQueue, Instructions, Registers, Step, TaskQueue, Tasks, Unbreak, Words}
use Rattle.debugger.specs.Breakpoints.{is_full_for, with_breakpoint, without_breakpoint}
use Rattle.debugger.specs.Orders.{order_of}
use Rattle.debugger.specs.Texts.{blocks_text, device_queue_text, instructions_text, place_text, registers_line, task_queue_text, tasks_text, words_text}
use Rattle.debugger.specs.Views.{is_end}

-- A machine that is debugged.
pub record Debugging : Type 0 where
  -- the machine's state
  pub state : State
  -- the breakpoints, as byte addresses
  pub stops : List ℕ
  -- the states that can be gone back to, the oldest first, where a history is kept
  pub past : Option (List State)

-- What some lines have come to.
pub record Told : Type 0 where
  -- the machine after them
  pub after : Debugging
  -- the bytes that they wrote
  pub bytes : List ℕ

-- these bytes are written, and this is the machine afterwards
abbrev pub tell : List ℕ → Debugging → Told
tell bytes d = record { after = d; bytes = bytes }

-- first the one, and then what follows on it
abbrev pub told_then : Told → (Debugging → Told) → Told
told_then x next = record { after = (next x.after).after; bytes = x.bytes ++ (next x.after).bytes }

-- ---- steps

-- the steps that may be taken yet; none on a machine that has stopped
abbrev pub steps_left : Limits → State → ℕ
steps_left c s = if is_some (stop_of s) then 0 else c.last - steps_of s

-- How many steps lead to a breakpoint or to a stop, or else all: after each step it is asked again.
abbrev pub steps_to : List ℕ → ℕ → State → ℕ
steps_to stops zero s = zero
steps_to stops (suc n) s =
    if is_end stops (step s).state then 1 else suc (steps_to stops n (step s).state)

-- the console bytes of so many steps, and then where the machine is
abbrev pub steps_text : Limits → ℕ → State → List ℕ
steps_text c n s = (run n s).bytes ++ place_text c.first (run n s).state

-- what is past once n steps were taken; a machine that has stopped takes none
abbrev pub past_after : ℕ → List State → State → List State
past_after zero past s = past
past_after (suc n) past s =
    if is_some (stop_of s) then past else past_after n (remembered past s (step s).state) (step s).state

-- n steps are taken, and those before them are kept where steps can be undone
abbrev pub stepped : Limits → ℕ → Debugging → Told
stepped c n d =
    tell (steps_text c n d.state) (record d { state = (run n d.state).state; past = option_map (λ past. past_after n past d.state) d.past })

-- ---- steps that are undone

-- what can be gone back to; nothing where no history is kept
abbrev pub past_of : Debugging → List State
past_of d = unwrap_or d.past []

-- fewer than n steps can be undone
abbrev pub fewer_text : ℕ → List State → List ℕ
fewer_text n past = if nat_lt (length past) n then codes "? no more\n" else []

-- the machine n steps before, or as many as can be undone
abbrev pub went_back : ℕ → Debugging → Debugging
went_back n d = record d { state = state_back n (past_of d) d.state; past = option_map (past_back n) d.past }

-- n steps are undone; what is written says where the machine is then, and that fewer can be undone, where it is so
abbrev pub undone : Limits → ℕ → Debugging → Told
undone c n d = tell (fewer_text n (past_of d) ++ place_text c.first (went_back n d).state) (went_back n d)

-- ---- a line

-- what a breakpoint's line writes
abbrev pub full_text : ℕ → List ℕ → List ℕ
full_text a stops = if is_full_for a stops then codes "? full\n" else []

-- what each order does, and writes
abbrev pub obeyed : Limits → Order → Debugging → Told
obeyed c (Break a) d = tell (full_text a d.stops) (record d { stops = with_breakpoint a d.stops })
obeyed c (Unbreak a) d = tell [] (record d { stops = without_breakpoint a d.stops })
obeyed c (Step n) d = stepped c (min n (steps_left c d.state)) d
obeyed c (Back n) d = undone c n d
obeyed c Continue d = stepped c (steps_to d.stops (steps_left c d.state) d.state) d
obeyed c Registers d = tell (registers_line (regs_of d.state) (running_of d.state)) d
obeyed c (Words from count) d = tell (words_text from count (words_of d.state)) d
obeyed c Tasks d = tell (tasks_text d.state) d
obeyed c (TaskQueue id) d = tell (task_queue_text id d.state) d
obeyed c (DeviceQueue n) d = tell (device_queue_text n d.state) d
obeyed c Blocks d = tell (blocks_text d.state) d
obeyed c (Instructions from count) d = tell (instructions_text from count (words_of d.state)) d

-- a line that asks for nothing does nothing
abbrev pub line_obeyed : Limits → Result Order BadLine → Debugging → Told
line_obeyed c (Ok order) d = obeyed c order d
line_obeyed c (Err line) d = tell [] d

-- ---- lines, one after another

-- each line is obeyed, where it asks for something that is in its range
unfoldable pub lines_obeyed : Limits → List (List ℕ) → Debugging → Told
lines_obeyed c [] d = tell [] d
lines_obeyed c (line ∷ lines) d = told_then (line_obeyed c (order_of 0 line) d) (lines_obeyed c lines)

-- the lines of a call, of which the machine takes at most so many steps, less those that are undone; this can be gone back to before
abbrev pub debugged : ℕ → List (List ℕ) → State → Option (List State) → Told
debugged budget lines s past =
    lines_obeyed (record { first = steps_of s; last = steps_of s + budget }) lines (record { state = s; stops = []; past = past })

-- a call has left the machine as it is after some steps, at most its budget
pub record HasDebugged (budget : ℕ) (s t : State) : Type 0 where
  -- so many steps
  pub steps : ℕ
  -- they are in the budget
  pub few : steps ≤ budget
  -- the machine is as it is after them
  pub state : t ≡ (run steps s).state
