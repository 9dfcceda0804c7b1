use Rattle.assembly_errors.proofs.reach_words.far_remark.Goals as goal

pub returns : goal.returns
returns c = rw (← c.bytes-word.ensures, ← c.bytes-label.ensures) c.make_remark.ensures
