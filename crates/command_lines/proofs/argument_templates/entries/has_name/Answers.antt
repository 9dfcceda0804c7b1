use Rattle.std.proofs.Common.{rules, tests, ◌==◌}
use Rattle.std.proofs.lemmas.Iterator.Splits.{YieldsList-from_slice_split}
use Rattle.std.proofs.lemmas.Iterator.Search.{any_from_yields_List}
use Rattle.std.specs.List.{before_first}
use Rattle.std.specs.Str.{str_eq_ignore_ascii_case}
use Rattle.command_lines.proofs.argument_templates.entries.has_name.Goals as goal

pub returns : goal.returns
returns c =
    any_from_yields_List (λ name. str_eq_ignore_ascii_case name c.args.word.now) _ _ c.any.result c.any.ensures.ran
    (YieldsList-from_slice_split _ (λ b. b == 61) (before_first (λ b. b == 47) c.args.entry.now) (cc) (cc) (cc) (λ x b q k. search (rules, tests)))
    (λ x b q k. search (rules, tests))
