-- A step of a bare machine, which has no kernel: all its words are plain.
use Rattle.std.specs.Prelude.{ℕ, ◌+◌, Bool, false, if◌then◌else◌, is_some, List, [], ◌++◌, Some, Result, Ok, Err}
use Rattle.std.specs.Option.{option_to_list}
use Rattle.instruction_set.specs.declared.Fault.{Fault}
use Rattle.instruction_set.specs.declared.Outcome.{Outcome}
use Rattle.instruction_set.specs.declared.Outcome.TheVariants.{Next, Sys, Returned, Fault as Faulted}
use Rattle.instruction_set.specs.Instruction.{After, instruction}
use Rattle.kernel_model.specs.declared.kernel_record.stops.Stop.{Stop}
use Rattle.kernel_model.specs.declared.kernel_record.stops.Stop.TheVariants.{Quit, Fault as StopByFault}
use Rattle.bare_machine.specs.declared.calls.CallAnswer.{CallAnswer}
use Rattle.bare_machine.specs.Calls.{call_answer}
use Rattle.bare_machine.specs.State.{BareState}

-- What some steps come to.
pub record BareStepped : Type 0 where
  -- the state after them
  pub state : BareState
  -- the bytes that they wrote to the console
  pub bytes : List ℕ

-- a state that steps come to without writing anything
abbrev pub quietly : BareState → BareStepped
quietly m = record { state = m; bytes = [] }

-- first the one, and then what follows on it
abbrev pub and_then : BareStepped → (BareState → BareStepped) → BareStepped
and_then x next = record { state = (next x.state).state; bytes = x.bytes ++ (next x.state).bytes }

-- the machine stops, and nothing is written
abbrev pub stopped_by : Stop → BareState → BareStepped
stopped_by stop m = quietly (record m { stop = Some stop })

-- a fault stops the machine, in task 0
abbrev pub faulted_by : Fault → BareState → BareStepped
faulted_by f m = stopped_by (StopByFault f.code f.address 0) m

-- a call changes no words
abbrev pub after_call : Result CallAnswer Fault → BareState → BareStepped
after_call (Ok c) m = record { state = record m { regs = c.regs; stop = c.stop }; bytes = option_to_list c.byte }
after_call (Err f) m = faulted_by f m

-- a return from the bottom of the stack stops the machine with quit 0
abbrev pub after_outcome : Outcome → BareState → BareStepped
after_outcome Next m = quietly m
after_outcome Sys m = after_call (call_answer m.words m.regs) m
after_outcome Returned m = stopped_by (Quit 0) m
after_outcome (Faulted f) m = faulted_by f m

-- no word is the kernel's
abbrev pub unmarked : ℕ → Bool
unmarked a = false

-- what the next instruction does, on words of which none is the kernel's
abbrev pub instruction_of : BareState → After
instruction_of m = instruction unmarked m.words m.regs

-- the instruction at PC, and what it asks for
abbrev pub turn : BareState → BareStepped
turn m = after_outcome (instruction_of m).outcome (record m { words = (instruction_of m).words; regs = (instruction_of m).regs })

-- a machine that has stopped stays as it is
unfoldable pub step : BareState → BareStepped
step m = if is_some m.stop then quietly m else turn (record m { steps = m.steps + 1 })
