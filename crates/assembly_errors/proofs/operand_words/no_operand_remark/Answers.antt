use Rattle.assembly_errors.proofs.operand_words.no_operand_remark.Goals as goal

pub returns : goal.returns
returns c = rw (← c.bytes-word.ensures, ← c.bytes-more.ensures) c.make_remark.ensures
