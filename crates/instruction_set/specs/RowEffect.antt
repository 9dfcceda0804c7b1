-- What the row of a function byte does with the operand that follows the byte.
use Rattle.std.specs.Prelude.{ℕ, Bool, List, Option, Some, None, Result, Ok, Err}
use Rattle.word_store.specs.Bytes.{byte_at}
use Rattle.word_store.specs.declared.registers.Regs.{Regs}
use Rattle.instruction_set.specs.declared.instruction_table.effects.Effect.{Effect}
use Rattle.instruction_set.specs.declared.instruction_table.rows.Shape.{Shape}
use Rattle.instruction_set.specs.declared.operand_forms.fetch.Operand.{Operand}
use Rattle.instruction_set.specs.declared.operand_forms.instructions.DecodeEnd.{DecodeEnd}
use Rattle.instruction_set.specs.declared.operand_forms.instructions.DecodeEnd.TheVariants.{Undefined}
use Rattle.instruction_set.specs.declared.Outcome.TheVariants.{Fault as Faulted}
use Rattle.instruction_set.specs.Instruction.{After, after, decode_fault, effected}
use Rattle.instruction_set.specs.OperandForms.Decoded.{operand_at}

-- the effect is made with its operand, or what is wrong with the operand is a fault
abbrev pub with_operand : (ℕ → Bool) → List ℕ → Regs → ℕ → Effect → Result Operand DecodeEnd → After
with_operand marks words r byte effect (Err end) = after (Faulted (decode_fault end)) words r
with_operand marks words r byte effect (Ok o) = effected marks words r (record { byte = byte; effect = effect; operand = o.number; length = o.length; target = o.target })

-- a byte without a row is a fault
abbrev pub row_effect : (ℕ → Bool) → List ℕ → Regs → ℕ → Option Shape → After
row_effect marks words r byte None = after (Faulted (decode_fault (Undefined r.pc))) words r
row_effect marks words r byte (Some s) = with_operand marks words r byte s.effect (operand_at (byte_at words) r.pc s.form)
