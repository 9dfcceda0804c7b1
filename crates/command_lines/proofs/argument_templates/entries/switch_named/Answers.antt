use Rattle.std.proofs.Common.{rules, tests, ◌==◌, ◌≤◌, length, arith, ◌<◌, ◌&&◌, ◌∙◌, ap, sym, subst, List, Bool, ℕ, Option}
use Rattle.std.proofs.lemmas.Iterator.Splits.{YieldsList-from_slice_split}
use Rattle.std.proofs.lemmas.Iterator.Search.{position_from_yields_List}
use Rattle.std.specs.List.{position}
use Rattle.std.specs.Option.{IfSome}
use Rattle.command_lines.specs.ArgumentTemplates.Template.{entries, has_name, is_switch}
use Rattle.std.proofs.lemmas.Bool.Decides.{nat_tests}
use Rattle.command_lines.proofs.ArgumentTemplates.Chains.{entries-split, position-inside}
use Rattle.command_lines.proofs.argument_templates.entries.switch_named.Goals as goal

pub returns-clause-value : goal.returns-clause-value
returns-clause-value c =
    let e = c.if-is_empty.ensures in
    let some : 1 ≤ length c.args.template.now = grind (arith, nat_tests) in
    let test : List ℕ → Bool = λ entry. has_name c.args.word.now entry && is_switch entry in
    position_from_yields_List test _ _ c.position.result c.position.ensures.ran
    (YieldsList-from_slice_split _ (λ b. b == 44) c.args.template.now (cc) (cc) (cc) (λ x b q k. search (rules, tests)))
    (λ x b q k. search (rules, tests))
    ∙ ap (position test) (sym (entries-split c.args.template.now some))

pub returns-clause-inside : goal.returns-clause-inside
returns-clause-inside c =
    let all = entries c.args.template.now in
    let P : Option ℕ → Type 0 = λ found. IfSome found (λ k. k < length all) in
    subst P (sym (returns-clause-value c)) (position-inside (λ entry. has_name c.args.word.now entry && is_switch entry) all)
