use Rattle.assembly_errors.proofs.number_words.push_hex_value.Goals as goal

pub returns : goal.returns
returns c = rw (← c.sign_of-sign.ensures, ← c.s_form_of-form.ensures) c.push_sentence.ensures
