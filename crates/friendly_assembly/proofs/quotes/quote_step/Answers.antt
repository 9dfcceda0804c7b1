use Rattle.std.proofs.lemmas.List.{take_rest}
use Rattle.friendly_assembly.proofs.QuotedTexts.{pair_flaw}
use Rattle.friendly_assembly.proofs.quotes.quote_step.Goals as goal

pub returns-in-len2-up-clause-flaw : goal.returns-in-len2-up-clause-flaw
returns-in-len2-up-clause-flaw c =
    rw (c.pair_step.ensures, c.is_empty.ensures, take_rest) (pair_flaw c.args.quote c.args.column c.args.after c.args.text.now c.in-len2-up.len_at_least)
