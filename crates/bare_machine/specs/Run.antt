-- A run of a bare machine.
use Rattle.std.specs.Prelude.{◌≡◌, ℕ, zero, suc, ◌<◌, Bool, false, List, None}
use Rattle.word_store.specs.declared.registers.Regs.{Regs}
use Rattle.instruction_set.specs.Breakpoints.{has_breakpoint}
use Rattle.instruction_set.specs.Places.{DifferAt, addresses}
use Rattle.instruction_set.specs.declared.places.Places.{Places}
use Rattle.instruction_set.specs.declared.Outcome.TheVariants.{Next}
use Rattle.instruction_set.specs.Instruction.{instruction}
use Rattle.bare_machine.specs.State.{BareState}
use Rattle.bare_machine.specs.Step.{BareStepped, and_then, instruction_of, quietly, step, unmarked}

-- n steps
unfoldable pub run : ℕ → BareState → BareStepped
run zero m = quietly m
run (suc n) m = and_then (step m) (run n)

-- n instructions, each of which is a step of its own, lead from the one to the other words and registers
abbrev pub Executes : ℕ → List ℕ → Regs → List ℕ → Regs → Type 0
Executes zero words r words' r' = (words' ≡ words) × (r' ≡ r)
Executes (suc n) words r words' r' =
    let x = instruction unmarked words r in
    (x.outcome ≡ Next) × Executes n x.words x.regs words' r'

-- the next instruction is at one of these byte addresses
abbrev pub is_met : List ℕ → BareState → Bool
is_met breakpoints m = has_breakpoint m.regs.pc breakpoints

-- between the first and the last of n steps none is met
abbrev pub Avoids : List ℕ → ℕ → BareState → Type 0
Avoids breakpoints n m = (i : ℕ) → 0 < i → i < n → is_met breakpoints (run i m).state ≡ false

-- the next step is an instruction alone
abbrev pub IsPlain : BareState → Type 0
IsPlain m = (instruction_of m).outcome ≡ Next

-- a step that is an instruction alone: it writes nothing, and does not stop the machine
pub record IsPlainStep (p : Places) (m j : BareState) : Type 0 where
  -- it leads to that state
  pub step : step m ≡ quietly j
  -- which goes on
  pub goes : j.stop ≡ None
  -- the words are as they were but at these places
  pub differ : DifferAt (addresses p) m.words j.words
