use Rattle.std.proofs.Common.{◌+◌, ap, arith}
use Rattle.std.proofs.lemmas.List.{take_rest}
use Rattle.command_lines.proofs.ArgumentTemplates.ItemEnds.{word-at}
use Rattle.command_lines.proofs.argument_templates.items.word.Goals as goal

pub returns-clause-value : goal.returns-clause-value
returns-clause-value c =
    word-at c.args.line.now (c.args.from + 1) (c.args.from + 1 + c.length_before.result) (omega arith) c.args.from
    (ap (λ n. c.args.from + 1 + n) (rw take_rest at c.length_before.ensures.value))
