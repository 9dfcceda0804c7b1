-- What the row of the byte at PC does is what the instruction does that is decoded there.
use Rattle.std.proofs.Common.{◌≡◌, ◌∙◌, sym, ap, ℕ, Bool, List, Option, Some, None, Result, Ok, Err, refl}
use Rattle.std.specs.Option.{ok_or, option_map}
use Rattle.word_store.specs.Bytes.{byte_at}
use Rattle.word_store.specs.declared.registers.Regs.{Regs}
use Rattle.instruction_set.specs.declared.instruction_table.effects.Effect.{Effect}
use Rattle.instruction_set.specs.declared.operand_forms.fetch.Operand.{Operand}
use Rattle.instruction_set.specs.declared.operand_forms.instructions.DecodeEnd.{DecodeEnd}
use Rattle.instruction_set.specs.declared.operand_forms.instructions.DecodeEnd.TheVariants.{Undefined}
use Rattle.instruction_set.specs.declared.operand_forms.instructions.Instr.{Instr}
use Rattle.instruction_set.specs.Instruction.{decided}
use Rattle.instruction_set.specs.InstructionTable.Shapes.{shape_of}
use Rattle.instruction_set.specs.InstructionTable.Table.{Entry, entry}
use Rattle.instruction_set.specs.OperandForms.Decoded.{byte_or_outside, decoded, operand_at}
use Rattle.instruction_set.specs.OperandForms.Steps.{◌>>=◌}
use Rattle.instruction_set.specs.RowEffect.{row_effect, with_operand}

module _ (marks : ℕ → Bool) (words : List ℕ) (r : Regs) where
  abbrev instr_of : ℕ → Effect → Operand → Result Instr DecodeEnd
  instr_of byte effect o = Ok (record { byte = byte; effect = effect; operand = o.number; length = o.length; target = o.target })

  operand-decided : (byte : ℕ) (effect : Effect) (o : Result Operand DecodeEnd) → with_operand marks words r byte effect o ≡ decided marks words r (o >>= instr_of byte effect)
  operand-decided byte effect (Ok o) = refl
  operand-decided byte effect (Err end) = refl

  abbrev by_row : ℕ → Option Entry → Result Instr DecodeEnd
  by_row byte o = ok_or o (Undefined r.pc) >>= λ row. operand_at (byte_at words) r.pc row.form >>= instr_of byte row.effect

  row-decided : (byte : ℕ) (o : Option Entry) → row_effect marks words r byte (option_map shape_of o) ≡ decided marks words r (by_row byte o)
  row-decided byte None = refl
  row-decided byte (Some row) = operand-decided byte row.effect (operand_at (byte_at words) r.pc row.form)

  pub byte_decided : (byte : ℕ) → byte_or_outside (byte_at words) r.pc ≡ Ok byte → row_effect marks words r byte (option_map shape_of (entry byte)) ≡ decided marks words r (decoded (byte_at words) r.pc)
  byte_decided byte read =
      row-decided byte (entry byte)
      ∙ sym (ap (λ (o : Result ℕ DecodeEnd). decided marks words r (o >>= λ b. by_row b (entry b))) read)
