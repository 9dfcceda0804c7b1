use Rattle.std.proofs.Common.{◌∙◌, ◌+◌, refl, ap, arith}
use Rattle.std.proofs.lemmas.List.{drop_all, take_rest}
use Rattle.command_lines.proofs.ArgumentTemplates.ItemEnds.{between-at, no_space-behind, quote-at, start-at}
use Rattle.command_lines.proofs.argument_templates.items.next_item.Goals as goal

pub returns-then-from-line-clause-value : goal.returns-then-from-line-clause-value
returns-then-from-line-clause-value c =
    let line = c.args.line.now in
    let from = c.args.at + c.length_of_spaces.result in
    let none = drop_all from line (omega arith) in
    between-at line c.args.at from (omega arith) (ap (λ n. c.args.at + n) (rw take_rest at c.length_of_spaces.ensures.value)) ∙ rw none refl

pub returns-then-line-from-eq34-clause-value : goal.returns-then-line-from-eq34-clause-value
returns-then-line-from-eq34-clause-value c =
    let line = c.args.line.now in
    let from = c.args.at + c.length_of_spaces.result in
    between-at line c.args.at from (omega arith) (ap (λ n. c.args.at + n) (rw take_rest at c.length_of_spaces.ensures.value))
    ∙ quote-at line from (omega arith) c.if-line-from-eq34.true
    ∙ c.quoted_item.ensures.value

pub returns-else-line-from-eq34-clause-value : goal.returns-else-line-from-eq34-clause-value
returns-else-line-from-eq34-clause-value c =
    let line = c.args.line.now in
    let from = c.args.at + c.length_of_spaces.result in
    let behind = ap (λ n. c.args.at + n) (rw take_rest at c.length_of_spaces.ensures.value) in
    between-at line c.args.at from (omega arith) behind
    ∙ start-at line from (omega arith) (no_space-behind line c.args.at from behind (omega arith)) c.if-line-from-eq34.false
    ∙ c.word.ensures.value
