use Rattle.friendly_assembly.proofs.TextLines.{first_line, last_line}
use Rattle.friendly_assembly.proofs.texts.split_line.Goals as goal

pub returns-in-Some-clause-cases : goal.returns-in-Some-clause-cases
returns-in-Some-clause-cases c =
    rw (c.split_at.ensures.front, c.split_at-in-Some.ensures.back) (first_line c.args.text.now c.in-Some.end c.in-Some.ensures.place c.in-Some.ensures.inside)

pub returns-in-None-clause-cases : goal.returns-in-None-clause-cases
returns-in-None-clause-cases c = last_line c.args.text.now c.in-None.ensures.place
