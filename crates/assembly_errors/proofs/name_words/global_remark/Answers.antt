use Rattle.assembly_errors.proofs.name_words.global_remark.Goals as goal

pub returns : goal.returns
returns c = rw (← c.bytes-number.ensures) c.make_remark.ensures
