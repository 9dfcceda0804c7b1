-- Where and why the first program refuses a text.
use Rattle.std.specs.Prelude.{ℕ, ◌+◌, List, drop, length, Option, Some, None, Result, Ok, Err}
use Rattle.std.specs.Result.{result_err}
use Rattle.module_text.specs.ModuleOfText.{module_of}
use Rattle.module_text.specs.TextReader.Lines.{lines_of}
use Rattle.module_text.specs.TextReader.Refusal.{Refusal, refusal}
use Rattle.session_text.specs.Front.{front_end, front_lines}
use Rattle.session_text.specs.SessionOfText.{session_lines, session_of}
use Rattle.session_text.specs.declared.sessions.Session.{Session}
use Rattle.machine_ring.specs.Boot.{booted_ring}
use Rattle.machine_ring.specs.RingLink.RingOfText.{ring_of}
use Rattle.machine_ring.specs.declared.ring_link.inputs.RingInput.{RingInput}
use Rattle.tripos_machine.specs.Boot.{boot}
use Rattle.debugger.specs.OrderLines.{first_bad}
use Rattle.debugger.specs.declared.orders.BadLine.{BadLine}
use Rattle.text_errors.specs.declared.kinds.TextKind.{TextKind}
use Rattle.text_errors.specs.declared.kinds.TextKind.TheVariants.{Debugging, Module, Ring, Session as SessionText}

-- a session is refused by its text, or does not boot
abbrev pub session_refusal : Result Session Refusal → Option Refusal
session_refusal (Ok s) = result_err (boot s)
session_refusal (Err r) = Some r

-- a line of the debugger is refused, or else the session does not boot
abbrev pub lines_refusal : Option BadLine → Session → Option Refusal
lines_refusal (Some bad) s = Some (refusal bad.line bad.code)
lines_refusal None s = result_err (boot s)

-- the session ends with the first line that begins with `GO `, and the lines after it are the debugger's
abbrev pub front_refusal : List ℕ → Result Session Refusal → Option Refusal
front_refusal text (Ok s) =
    lines_refusal (first_bad (length (front_lines text) + 1) (lines_of (drop (front_end text) text))) s
front_refusal text (Err r) = Some r

-- a session with lines of the debugger after it
abbrev pub debugging_refusal : List ℕ → Option Refusal
debugging_refusal text = front_refusal text (session_lines (front_lines text))

-- a ring is refused by its text, or one of its machines does not boot
abbrev pub ring_refusal : Result RingInput Refusal → Option Refusal
ring_refusal (Ok input) = result_err (booted_ring input)
ring_refusal (Err r) = Some r

-- where and why a text of this kind is refused, if it is
abbrev pub text_refusal : TextKind → List ℕ → Option Refusal
text_refusal SessionText text = session_refusal (session_of text)
text_refusal Debugging text = debugging_refusal text
text_refusal Ring text = ring_refusal (ring_of text)
text_refusal Module text = result_err (module_of text)
