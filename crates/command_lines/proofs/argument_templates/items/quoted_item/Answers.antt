use Rattle.std.proofs.Common.{◌+◌, ap, arith}
use Rattle.std.proofs.lemmas.List.{take_rest}
use Rattle.command_lines.proofs.ArgumentTemplates.ItemEnds.{closed-at, open-at}
use Rattle.command_lines.proofs.argument_templates.items.quoted_item.Goals as goal

pub returns-then-to-line-clause-value : goal.returns-then-to-line-clause-value
returns-then-to-line-clause-value c =
    open-at c.args.line.now c.args.from (c.args.from + c.length_before.result) (omega arith)
    (ap (λ n. c.args.from + n) (rw take_rest at c.length_before.ensures.value)) (omega arith)

pub returns-else-to-line-clause-value : goal.returns-else-to-line-clause-value
returns-else-to-line-clause-value c =
    closed-at c.args.line.now c.args.from (c.args.from + c.length_before.result) (omega arith)
    (ap (λ n. c.args.from + n) (rw take_rest at c.length_before.ensures.value)) (omega arith)
