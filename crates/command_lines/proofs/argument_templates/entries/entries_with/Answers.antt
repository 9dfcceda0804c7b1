use Rattle.std.proofs.Common.{rules, tests, ◌==◌, ◌≤◌, length, arith, ◌∙◌, ap, sym}
use Rattle.std.proofs.lemmas.Iterator.Splits.{YieldsList-from_slice_split}
use Rattle.std.proofs.lemmas.Iterator.Consumers.{YieldsList-from_filter, count_from_yields_List}
use Rattle.std.proofs.lemmas.List.Sums.{length-filter}
use Rattle.std.specs.List.{count_by, slice_split}
use Rattle.command_lines.specs.ArgumentTemplates.Template.{has_name}
use Rattle.std.proofs.lemmas.Bool.Decides.{nat_tests}
use Rattle.command_lines.proofs.ArgumentTemplates.Chains.{entries-split}
use Rattle.command_lines.proofs.argument_templates.entries.entries_with.Goals as goal

pub returns : goal.returns
returns c =
    let e = c.if-is_empty.ensures in
    let some : 1 ≤ length c.args.template.now = grind (arith, nat_tests) in
    count_from_yields_List _ c.count.result c.count.ensures.ran
    (YieldsList-from_filter _ (has_name c.args.name.now)
    (YieldsList-from_slice_split _ (λ b. b == 44) c.args.template.now (cc) (cc) (cc) (λ x b q k. search (rules, tests))) c.filter.ensures.closure (λ x b q k. search (rules, tests)))
    ∙ length-filter (has_name c.args.name.now) (slice_split (λ b. b == 44) c.args.template.now)
    ∙ ap (count_by (has_name c.args.name.now)) (sym (entries-split c.args.template.now some))
