use Rattle.assembly_errors.proofs.name_words.outside_remark.Goals as goal

pub returns : goal.returns
returns c = rw (← c.bytes-word.ensures, ← c.bytes-number.ensures, ← c.range_text.ensures) c.make_remark.ensures
