use Rattle.std.proofs.Common.{rules, tests, ◌==◌, ◌≤◌, length, arith, ◌∙◌, ap, sym}
use Rattle.std.proofs.lemmas.Iterator.Splits.{YieldsList-from_slice_split}
use Rattle.std.proofs.lemmas.Iterator.Search.{all_from_yields_List}
use Rattle.std.specs.List.{list_all}
use Rattle.command_lines.specs.ArgumentTemplates.Template.{entries, is_entry}
use Rattle.std.proofs.lemmas.Bool.Decides.{nat_tests}
use Rattle.command_lines.proofs.ArgumentTemplates.Chains.{entries-split}
use Rattle.command_lines.proofs.argument_templates.entries.are_entries.Goals as goal

pub returns : goal.returns
returns c =
    let e = c.if-is_empty.ensures in
    let some : 1 ≤ length c.args.template.now = grind (arith, nat_tests) in
    all_from_yields_List (is_entry (entries c.args.template.now)) _ _ c.all.result c.all.ensures.ran
    (YieldsList-from_slice_split _ (λ b. b == 44) c.args.template.now (cc) (cc) (cc) (λ x b q k. search (rules, tests)))
    (λ x b q k. search (rules, tests))
    ∙ ap (list_all (is_entry (entries c.args.template.now))) (sym (entries-split c.args.template.now some))
