use Rattle.std.proofs.Common.{rules, tests, ◌==◌, ◌&&◌}
use Rattle.std.proofs.lemmas.Iterator.Splits.{YieldsList-from_slice_split}
use Rattle.std.proofs.lemmas.Iterator.Search.{all_from_yields_List}
use Rattle.std.specs.List.{before_first}
use Rattle.command_lines.specs.ArgumentTemplates.Template.{entries, is_entry_name, is_once}
use Rattle.command_lines.proofs.argument_templates.entries.are_names.Goals as goal

pub returns : goal.returns
returns c =
    all_from_yields_List (λ name. is_entry_name name && is_once (entries c.args.template.now) c.args.entry.now name) _ _ c.all.result c.all.ensures.ran
    (YieldsList-from_slice_split _ (λ b. b == 61) (before_first (λ b. b == 47) c.args.entry.now) (cc) (cc) (cc) (λ x b q k. search (rules, tests)))
    (λ x b q k. search (rules, tests))
