use Rattle.std.proofs.Common.{rules, tests, ◌==◌, ◌∙◌}
use Rattle.std.proofs.lemmas.Iterator.Splits.{YieldsList-from_slice_split}
use Rattle.std.proofs.lemmas.Iterator.Consumers.{YieldsList-from_filter, count_from_yields_List}
use Rattle.std.proofs.lemmas.List.Sums.{length-filter}
use Rattle.std.specs.List.{before_first}
use Rattle.std.specs.Str.{str_eq_ignore_ascii_case}
use Rattle.command_lines.specs.ArgumentTemplates.Template.{names}
use Rattle.command_lines.proofs.argument_templates.entries.times_in_entry.Goals as goal

pub returns : goal.returns
returns c =
    count_from_yields_List _ c.count.result c.count.ensures.ran
    (YieldsList-from_filter _ (λ other. str_eq_ignore_ascii_case other c.args.name.now)
    (YieldsList-from_slice_split _ (λ b. b == 61) (before_first (λ b. b == 47) c.args.entry.now) (cc) (cc) (cc) (λ x b q k. search (rules, tests))) c.filter.ensures.closure (λ x b q k. search (rules, tests)))
    ∙ length-filter (λ other. str_eq_ignore_ascii_case other c.args.name.now) (names c.args.entry.now)
