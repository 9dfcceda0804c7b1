-- What the next instruction writes: the addresses and the words, where it is executed.
use Rattle.std.specs.Prelude.{ℕ, Bool, List, [], Option, Some, None, Result, Ok, Err, ◌==◌, if◌then◌else◌}
use Rattle.word_store.specs.Arithmetic.{add}
use Rattle.word_store.specs.Bytes.{byte_at}
use Rattle.word_store.specs.declared.registers.Regs.{Regs}
use Rattle.instruction_set.specs.declared.operand_forms.instructions.Instr.{Instr}
use Rattle.instruction_set.specs.declared.operand_forms.instructions.DecodeEnd.{DecodeEnd}
use Rattle.instruction_set.specs.OperandForms.Decoded.{decoded}
use Rattle.instruction_set.specs.declared.Fault.{Fault}
use Rattle.instruction_set.specs.Change.{Change}
use Rattle.instruction_set.specs.Effect.{change_of}
use Rattle.instruction_set.specs.Instruction.{is_call, write_fault}

-- all the writes of a change, or none where one of them is a fault
abbrev pub unless_fault : Option Fault → List (ℕ × ℕ) → List (ℕ × ℕ)
unless_fault (Some f) writes = []
unless_fault None writes = writes

-- those of a change that is made, if it can be made; a fault writes nothing
abbrev pub writes_made : (ℕ → Bool) → List ℕ → Result Change Fault → List (ℕ × ℕ)
writes_made marks words (Err f) = []
writes_made marks words (Ok change) = unless_fault (write_fault marks words change.writes) change.writes

-- what the effect of a decoded instruction writes; a kernel call is no effect
unfoldable pub effect_writes : (ℕ → Bool) → List ℕ → Regs → Instr → List (ℕ × ℕ)
effect_writes marks words r i =
    if is_call i.effect then [] else
    writes_made marks words (change_of i.effect words (record r { pc = add r.pc i.length }) i.operand i.target r.pc)

-- what is no instruction writes nothing
abbrev pub decoded_writes : (ℕ → Bool) → List ℕ → Regs → Result Instr DecodeEnd → List (ℕ × ℕ)
decoded_writes marks words r (Err end) = []
decoded_writes marks words r (Ok i) = effect_writes marks words r i

-- what the instruction at PC writes, in the order in which it is tried; at PC 0 there is none
abbrev pub next_writes : (ℕ → Bool) → List ℕ → Regs → List (ℕ × ℕ)
next_writes marks words r = if r.pc == 0 then [] else decoded_writes marks words r (decoded (byte_at words) r.pc)
