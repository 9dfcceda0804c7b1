use Rattle.assembly_notes.proofs.word_labels.push_byte_note.Goals as goal

pub returns : goal.returns
returns c = rw (← c.bytes-word.ensures, ← c.bytes-more.ensures, ← c.from.ensures) c.push_note.ensures
