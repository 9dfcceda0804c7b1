use Rattle.std.proofs.Common.{rules, tests, ◌==◌, ◌≤◌, length, arith, ◌∙◌, ap, sym}
use Rattle.std.proofs.lemmas.Iterator.Splits.{YieldsList-from_slice_split}
use Rattle.std.proofs.lemmas.Iterator.Consumers.{count_from_yields_List}
use Rattle.std.proofs.lemmas.Bool.Decides.{nat_tests}
use Rattle.command_lines.proofs.ArgumentTemplates.Chains.{entries-split}
use Rattle.command_lines.proofs.argument_templates.entries.entry_count.Goals as goal

pub returns : goal.returns
returns c =
    let e = c.if-is_empty.ensures in
    let some : 1 ≤ length c.args.template.now = grind (arith, nat_tests) in
    count_from_yields_List _ c.count.result c.count.ensures.ran
    (YieldsList-from_slice_split _ (λ b. b == 44) c.args.template.now (cc) (cc) (cc) (λ x b q k. search (rules, tests)))
    ∙ ap length (sym (entries-split c.args.template.now some))
