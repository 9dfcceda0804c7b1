-- Steps up to a breakpoint, and steps that tell where they wrote.
use Rattle.std.specs.Prelude.{◌≡◌, ℕ, ◌<◌, Bool, false, List, ◌∷◌, None}
use Rattle.instruction_set.specs.Places.{DifferAt, addresses}
use Rattle.instruction_set.specs.declared.places.Places.{Places}
use Rattle.bare_machine.specs.Run.{IsPlain as IsBarePlain, is_met as bare_is_met}
use Rattle.kernel_lists.specs.TaskBlock.RootWords.{root_address}
use Rattle.kernel_lists.specs.declared.task_block.roots.RootField.TheVariants.{Tick}
use Rattle.kernel_machine.specs.RunningMachine.PlainSteps.{IsPlain as IsKernelPlain}
use Rattle.kernel_machine.specs.RunningMachine.Runs.{is_met as kernel_is_met}
use Rattle.tripos_machine.specs.State.{State, stop_of, words_of}
use Rattle.tripos_machine.specs.State.State.{Bare, Full}
use Rattle.tripos_machine.specs.Step.{quietly, run, step}

-- A guest's next instruction is at one of these byte addresses. On a machine without a kernel every instruction is a guest's.
abbrev pub is_met : List ℕ → State → Bool
is_met breakpoints (Bare m) = bare_is_met breakpoints m
is_met breakpoints (Full k) = kernel_is_met breakpoints k

-- between the first and the last of n steps none is met
abbrev pub Avoids : List ℕ → ℕ → State → Type 0
Avoids breakpoints n s = (i : ℕ) → 0 < i → i < n → is_met breakpoints (run i s).state ≡ false

-- the addresses of the words that a plain step may write: the word of the ticks, and where its instruction writes
abbrev pub plain_addresses : Places → List ℕ
plain_addresses p = root_address Tick ∷ addresses p

-- in the next step nothing happens but that a guest executes an instruction
abbrev pub IsPlain : State → Type 0
IsPlain (Bare m) = IsBarePlain m
IsPlain (Full k) = IsKernelPlain k

-- A step in which nothing happens but that a guest executes an instruction: it writes nothing to the console, has no events, and
-- does not stop the machine.
pub record IsPlainStep (p : Places) (s t : State) : Type 0 where
  -- it leads to that state
  pub step : step s ≡ quietly t
  -- which goes on
  pub goes : stop_of t ≡ None
  -- the words are as they were but at these addresses
  pub differ : DifferAt (plain_addresses p) (words_of s) (words_of t)
