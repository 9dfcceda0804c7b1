-- The calls of a guest, in words.
use Prim.Native.String.{String}
use Rattle.std.specs.Prelude.{ℕ, ◌==◌, Bool, true, false, if◌then◌else◌, is_ok, List, [], ◌∷◌, ◌++◌, Option, Some, None, Result, Ok, Err, codes}
use Rattle.std.specs.Fmt.{signed_decimal}
use Rattle.byte_streams.specs.Pieces.{joined}
use Rattle.word_store.specs.Arithmetic.{signed}
use Rattle.word_store.specs.Bytes.{byte_at}
use Rattle.word_store.specs.declared.registers.Regs.{Regs}
use Rattle.kernel_calls.specs.CallNumbers.{call_of}
use Rattle.kernel_calls.specs.declared.call_numbers.CallOutcome.{CallOutcome}
use Rattle.kernel_calls.specs.declared.call_numbers.KernelCall.{KernelCall}
use Rattle.kernel_calls.specs.declared.call_numbers.KernelCall.TheVariants.{AddModule, CallCo, ChangePri, CoWait, CreateCo, CreateTask, DeleteCo, DeleteTask, Dqpkt, Freevec, Getvec, Hold, MulDiv, Qpkt, Quit, Release, ResumeCo, SetFlags, TaskWait, TestFlags, Unload, Wrch}
use Rattle.bare_machine.specs.Calls.{call_answer}
use Rattle.show_run.specs.declared.step_log.calls.TheConstants.{SYS}
use Rattle.show_run.specs.declared.step_log.calls.Arguments.{Arguments}
use Rattle.show_run.specs.declared.step_log.calls.Arguments.TheVariants.{Zero, One, Two, Three}
use Rattle.show_run.specs.declared.step_log.calls.Call.{Call as CallInCode}
use Rattle.show_run.specs.declared.step_log.moments.Moment.{Moment}
use Rattle.show_run.specs.StepLog.Moments.{line}

-- A call that is made.
pub record Call : Type 0 where
  -- its name
  pub name : List ℕ
  -- its arguments
  pub arguments : List ℕ
  -- whether 0 and a code are how it answers where it is refused
  pub refuses : Bool

-- a call that may be refused
abbrev pub refusable : String → List ℕ → Call
refusable name arguments = record { name = codes name; arguments = arguments; refuses = true }

-- a call that is never refused
abbrev pub unrefused : String → List ℕ → Call
unrefused name arguments = record { name = codes name; arguments = arguments; refuses = false }

-- each of the kernel's calls, by its name
abbrev pub told : KernelCall → Call
told (Quit result) = unrefused "quit" (result ∷ [])
told (Getvec u) = refusable "getvec" (u ∷ [])
told (Freevec v) = refusable "freevec" (v ∷ [])
told (CreateTask m u pri) = refusable "createtask" (m ∷ u ∷ pri ∷ [])
told (DeleteTask id) = refusable "deletetask" (id ∷ [])
told (ChangePri id pri) = refusable "changepri" (id ∷ pri ∷ [])
told (SetFlags id flags) = refusable "setflags" (id ∷ flags ∷ [])
told (TestFlags mask) = refusable "testflags" (mask ∷ [])
told (Hold id) = refusable "hold" (id ∷ [])
told (Release id) = refusable "release" (id ∷ [])
told TaskWait = refusable "taskwait" []
told (Qpkt p) = refusable "qpkt" (p ∷ [])
told (Dqpkt id p) = refusable "dqpkt" (id ∷ p ∷ [])
told (Unload m) = refusable "unload" (m ∷ [])
told (CreateCo fn u) = refusable "createco" (fn ∷ u ∷ [])
told (DeleteCo c) = refusable "deleteco" (c ∷ [])
told (CallCo c v) = refusable "callco" (c ∷ v ∷ [])
told (ResumeCo c v) = refusable "resumeco" (c ∷ v ∷ [])
told (CoWait v) = refusable "cowait" (v ∷ [])
told (Wrch ch) = unrefused "wrch" (ch ∷ [])
told (MulDiv a b c) = unrefused "muldiv" (a ∷ b ∷ c ∷ [])
told (AddModule id m) = refusable "addmodule" (id ∷ m ∷ [])

-- a call that was read, and none where its arguments are outside or the number is no call's
abbrev pub told_if_read : Result KernelCall CallOutcome → Option Call
told_if_read (Ok call) = Some (told call)
told_if_read (Err outcome) = None

-- the call that the kernel reads there, if it reads one
abbrev pub kernel_call : List ℕ → Regs → Option Call
kernel_call words r = told_if_read (call_of words r)

-- a bare machine answers few of them, and faults at every other one
abbrev pub bare_call : List ℕ → Regs → Option Call
bare_call words r = if is_ok (call_answer words r) then kernel_call words r else None

-- the call that is made with these registers, on a bare machine or in a kernel
abbrev pub call_made : Bool → List ℕ → Regs → Option Call
call_made bare words r = if bare then bare_call words r else kernel_call words r

-- the call that the instruction with this first byte makes
abbrev pub call_by : Option ℕ → Bool → List ℕ → Regs → Option Call
call_by None bare words r = None
call_by (Some b) bare words r = if b == SYS then call_made bare words r else None

-- the call that the instruction at PC makes, on a bare machine or in a kernel; at address 0 there is none
unfoldable pub call_at : Bool → List ℕ → Regs → Option Call
call_at bare words r = if r.pc == 0 then None else call_by (byte_at words r.pc) bare words r

-- ---- its line

-- the arguments as signed numbers, with commas between them
abbrev pub separated : List ℕ → List (List ℕ)
separated [] = []
separated (a ∷ []) = signed_decimal (signed a) ∷ []
separated (a ∷ rest) = signed_decimal (signed a) ∷ codes ", " ∷ separated rest

-- the line of a call: its name, and its arguments in brackets
abbrev pub call_line : Moment → Call → List ℕ
call_line m c = line m (joined (codes "call " ∷ c.name ∷ codes "(" ∷ separated c.arguments ++ codes ")" ∷ []))

-- that line, where a call is made
abbrev pub call_lines : Moment → Option Call → List ℕ
call_lines m None = []
call_lines m (Some c) = call_line m c

-- ---- the same, as the code has it

-- the arguments as a list
abbrev pub arguments_seen : Arguments → List ℕ
arguments_seen Zero = []
arguments_seen (One a) = a ∷ []
arguments_seen (Two a b) = a ∷ b ∷ []
arguments_seen (Three a b c) = a ∷ b ∷ c ∷ []

-- a call as the definitions have it
abbrev pub call_seen : CallInCode → Call
call_seen c = record { name = c.name.now; arguments = arguments_seen c.arguments; refuses = c.refuses }
