use Rattle.std.proofs.Common.{◌<◌, ◌∙◌, sym, subst}
use Rattle.instruction_set.specs.Instruction.{After}
use Rattle.instruction_set.proofs.ByteRegister.{decided-byte}
use Rattle.instruction_set.proofs.RowsDecoded.{byte_decided}
use Rattle.instruction_set.proofs.Unexecuted.{StaysOrRuns, stays-decided}
use Rattle.instruction_set.proofs.execute.Goals as goal

pub returns-in-Ok-clause-byte : goal.returns-in-Ok-clause-byte
returns-in-Ok-clause-byte g c = subst (λ (a : After). a.regs.c < 256) (sym (c.row_effect.ensures ∙ byte_decided _ _ _ _ (sym c.in-Ok.ensures))) (decided-byte _ _ _ c.requires.byte _)

pub returns-in-Ok-clause-stays : goal.returns-in-Ok-clause-stays
returns-in-Ok-clause-stays g c = (subst (StaysOrRuns _ _) (sym (c.row_effect.ensures ∙ byte_decided _ _ _ _ (sym c.in-Ok.ensures))) (stays-decided _ _ _ _)).stays
