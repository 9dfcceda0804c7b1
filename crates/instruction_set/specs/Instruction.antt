-- One instruction: what is there after it, from the words, the registers and the words that a guest may not write.
use Rattle.std.specs.Prelude.{ℕ, Bool, true, false, List, [], ◌∷◌, length, ◌/◌, Option, Some, None, Result, Ok, Err, nat_le, ◌==◌, if◌then◌else◌, slice_set}
use Rattle.word_store.specs.Arithmetic.{add}
use Rattle.word_store.specs.Bytes.{byte_at}
use Rattle.word_store.specs.declared.registers.Regs.{Regs}
use Rattle.instruction_set.specs.declared.instruction_table.effects.Effect.{Effect}
use Rattle.instruction_set.specs.declared.instruction_table.effects.Effect.TheVariants.{Sys}
use Rattle.instruction_set.specs.declared.operand_forms.instructions.Instr.{Instr}
use Rattle.instruction_set.specs.declared.operand_forms.instructions.DecodeEnd.{DecodeEnd}
use Rattle.instruction_set.specs.declared.operand_forms.instructions.DecodeEnd.TheVariants.{Outside, Undefined, Halfword}
use Rattle.instruction_set.specs.OperandForms.Decoded.{decoded}
use Rattle.instruction_set.specs.declared.Fault.{Fault}
use Rattle.instruction_set.specs.declared.Outcome.{Outcome}
use Rattle.instruction_set.specs.declared.Outcome.TheVariants.{Next, Sys as Call, Returned, Fault as Faulted}
use Rattle.instruction_set.specs.Change.{Change, fault}
use Rattle.instruction_set.specs.Effect.{change_of}

-- what one instruction leaves
pub record After : Type 0 where
  -- how it ended
  pub outcome : Outcome
  -- the words of the store
  pub words : List ℕ
  -- the registers
  pub regs : Regs

-- these three parts as one
abbrev pub after : Outcome → List ℕ → Regs → After
after outcome words r = record { outcome = outcome; words = words; regs = r }

-- A function or operand byte outside the store is fault 8, a byte without a row fault 1, and a halfword outside is
-- fault 3 at its word.
abbrev pub decode_fault : DecodeEnd → Fault
decode_fault (Outside a) = fault 8 a
decode_fault (Undefined a) = fault 1 a
decode_fault (Halfword a) = fault 3 (a / 4)

-- the first write, in order, that is outside the store (fault 4) or into a kernel word (fault 6)
abbrev pub write_fault : (ℕ → Bool) → List ℕ → List (ℕ × ℕ) → Option Fault
write_fault marks words [] = None
write_fault marks words (w ∷ ws) =
    if nat_le (length words) w.0 then Some (fault 4 w.0) else
    if marks w.0 then Some (fault 6 w.0) else
    write_fault marks words ws

-- the words once the writes are made, in their order
abbrev pub written : List ℕ → List (ℕ × ℕ) → List ℕ
written words [] = words
written words (w ∷ ws) = written (slice_set words w.0 w.1) ws

-- all the writes are made, or none is and there is a fault
abbrev pub made : Option Fault → List ℕ → Regs → Change → After
made (Some f) words r change = after (Faulted f) words r
made None words r change = after Next (written words change.writes) change.regs

-- a change is tried on the words and registers before the instruction; a fault on the way there leaves both as they were
abbrev pub settled : (ℕ → Bool) → List ℕ → Regs → Result Change Fault → After
settled marks words r (Err f) = after (Faulted f) words r
settled marks words r (Ok change) = made (write_fault marks words change.writes) words r change

-- whether an effect is a call of the kernel
abbrev pub is_call : Effect → Bool
is_call Sys = true
is_call _ = false

-- a kernel call is left to the kernel; every other effect is made
unfoldable pub effected : (ℕ → Bool) → List ℕ → Regs → Instr → After
effected marks words r i =
    if is_call i.effect then after Call words r else
    settled marks words r (change_of i.effect words (record r { pc = add r.pc i.length }) i.operand i.target r.pc)

-- what was decoded is done; a byte without a row, or an operand outside the store, is a fault
abbrev pub decided : (ℕ → Bool) → List ℕ → Regs → Result Instr DecodeEnd → After
decided marks words r (Err end) = after (Faulted (decode_fault end)) words r
decided marks words r (Ok i) = effected marks words r i

-- at PC 0 nothing is executed: the function at the bottom of the stack has returned
abbrev pub instruction : (ℕ → Bool) → List ℕ → Regs → After
instruction marks words r =
    if r.pc == 0 then after Returned words r else
    decided marks words r (decoded (byte_at words) r.pc)
