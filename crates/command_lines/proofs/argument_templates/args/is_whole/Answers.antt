use Rattle.std.proofs.Common.{rules, tests, ◌==◌, ◌≤◌, length, arith, not, ◌∙◌, ap, sym}
use Rattle.std.proofs.lemmas.Iterator.Splits.{YieldsList-from_slice_split}
use Rattle.std.proofs.lemmas.Iterator.{YieldsList-from_slice, YieldsList-from_zip}
use Rattle.std.proofs.lemmas.Iterator.Consumers.{YieldsList-at}
use Rattle.std.proofs.lemmas.Iterator.Search.{all_from_yields_List}
use Rattle.command_lines.specs.ArgumentTemplates.Answer.{is_whole, lacks}
use Rattle.std.proofs.lemmas.Bool.Decides.{nat_tests}
use Rattle.command_lines.proofs.ArgumentTemplates.Chains.{entries-split}
use Rattle.command_lines.proofs.argument_templates.args.is_whole.Goals as goal

pub returns : goal.returns
returns c =
    let e = c.if-is_empty.ensures in
    let some : 1 ≤ length c.args.template.now = grind (arith, nat_tests) in
    all_from_yields_List (λ pair. not (lacks pair)) c.all.new.self _ c.all.result c.all.ensures.ran
    (YieldsList-from_zip (YieldsList-at c.zip.ensures.first (YieldsList-from_slice_split _ (λ b. b == 44) c.args.template.now (cc) (cc) (cc) (λ x b q k. search (rules, tests)))) (YieldsList-at c.zip.ensures.second (YieldsList-from_slice c.args.values.now cc)))
    (λ x b q k. search (rules, tests))
    ∙ ap (λ all. is_whole all c.args.values.now) (sym (entries-split c.args.template.now some))
