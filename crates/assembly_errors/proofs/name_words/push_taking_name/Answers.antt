use Rattle.assembly_errors.proofs.name_words.push_taking_name.Goals as goal

pub returns : goal.returns
returns c = rw (← c.bytes-word.ensures, ← c.range_text-range.ensures) c.push_sentence.ensures
