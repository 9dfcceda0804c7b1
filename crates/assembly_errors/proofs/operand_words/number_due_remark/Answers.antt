use Rattle.assembly_errors.proofs.operand_words.number_due_remark.Goals as goal

pub returns : goal.returns
returns c = rw (← c.bytes-word.ensures, ← c.bytes-more.ensures, ← c.operand_text.ensures) c.no_number_remark.ensures
