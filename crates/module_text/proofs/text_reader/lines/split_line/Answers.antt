use Rattle.std.proofs.Common.{arith}
use Rattle.std.proofs.lemmas.Bool.Decides.{nat_tests}
use Rattle.std.proofs.lemmas.List.{take_rest}
use Rattle.module_text.proofs.TextReader.LineEnds.{first_line_at, first_line_all}
use Rattle.module_text.proofs.text_reader.lines.split_line.Goals as goal

pub returns-in-Some-clause-cases : goal.returns-in-Some-clause-cases
returns-in-Some-clause-cases c =
    rw (c.without_carriage_return.ensures, take_rest) (first_line_at c.args.text.now c.in-Some.end c.in-Some.ensures)

pub returns-in-None-clause-cases : goal.returns-in-None-clause-cases
returns-in-None-clause-cases c =
    let e = c.if-is_empty.ensures in first_line_all c.args.text.now c.in-None.ensures (grind (arith, nat_tests))
