-- The machine of a session, after lines of the debugger.
use Rattle.std.specs.Prelude.{ℕ, ◌≡◌, ◌+◌, if◌then◌else◌, List, [], length, drop, Option, Some, None, Result, Ok, Err}
use Rattle.module_text.specs.TextReader.Lines.{lines_of}
use Rattle.module_text.specs.TextReader.Refusal.{Refusal}
use Rattle.session_text.specs.Front.{front_end, front_lines}
use Rattle.session_text.specs.SessionOfText.{session_lines}
use Rattle.session_text.specs.declared.sessions.Session.{Session}
use Rattle.tripos_machine.specs.Boot.{boot}
use Rattle.tripos_machine.specs.State.{State}
use Rattle.tripos_machine.specs.Step.{Stepped}
use Rattle.debugger.specs.declared.orders.BadLine.{BadLine}
use Rattle.debugger.specs.Debugged.{debugged}
use Rattle.debugger.specs.OrderLines.{first_bad, goes_back}
use Rattle.show_run.specs.declared.places.sessions.DebugEnd.{DebugEnd}
use Rattle.show_run.specs.declared.places.sessions.DebugEnd.TheVariants.{NoBoot, Refused, WantMemory}

-- an error is the one that the definition gives, unless memory ran out
abbrev pub EndsAs : {X : Type 0} → DebugEnd → Result X DebugEnd → Type 0
EndsAs WantMemory made = Unit {0}
EndsAs (Refused line code) made = made ≡ Err (Refused line code)
EndsAs (NoBoot line code) made = made ≡ Err (NoBoot line code)

-- what a call returned, seen by view, is what the definition gives, unless memory ran out
abbrev pub Gives : {X Y : Type 0} → (X → Y) → Result X DebugEnd → Result Y DebugEnd → Type 0
Gives view (Ok x) made = made ≡ Ok (view x)
Gives view (Err e) made = EndsAs e made

-- what can be gone back to at first: nothing, where some line undoes steps
abbrev pub first_past : List (List ℕ) → Option (List State)
first_past lines = if goes_back lines then Some [] else None

-- the state of a machine after lines that take at most so many steps
abbrev pub state_after : ℕ → List (List ℕ) → State → State
state_after budget lines s = (debugged budget lines s (first_past lines)).after.state

-- the state after lines, where the session boots
abbrev pub booted_state : ℕ → List (List ℕ) → Result Stepped Refusal → Result State DebugEnd
booted_state budget lines (Ok x) = Ok (state_after budget lines x.state)
booted_state budget lines (Err r) = Err (NoBoot r.line r.code)

-- the same, where the first line that asks for nothing is this one, if there is one
abbrev pub checked_by : Option BadLine → Result State DebugEnd → Result State DebugEnd
checked_by (Some bad) made = Err (Refused bad.line bad.code)
checked_by None made = made

-- the state after lines of which the first has this number
abbrev pub checked_state : Session → ℕ → List (List ℕ) → Result State DebugEnd
checked_state s first lines = checked_by (first_bad first lines) (booted_state s.go lines (boot s))

-- the same, where the session is read
abbrev pub read_state : List ℕ → Result Session Refusal → Result State DebugEnd
read_state text (Ok s) = checked_state s (length (front_lines text) + 1) (lines_of (drop (front_end text) text))
read_state text (Err r) = Err (Refused r.line r.code)

-- The state of the machine of the session at the front of a text, after the lines that follow it.
abbrev pub debugged_state : List ℕ → Result State DebugEnd
debugged_state text = read_state text (session_lines (front_lines text))
