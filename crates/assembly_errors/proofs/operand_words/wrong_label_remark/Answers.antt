use Rattle.assembly_errors.proofs.operand_words.wrong_label_remark.Goals as goal

pub returns : goal.returns
returns c = rw (← c.bytes-word.ensures, ← c.bytes-more.ensures) c.no_label_remark.ensures
