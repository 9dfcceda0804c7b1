use Rattle.std.proofs.Common.{rules, tests, ◌==◌}
use Rattle.std.proofs.lemmas.Iterator.Splits.{YieldsList-from_slice_split}
use Rattle.std.proofs.lemmas.Iterator.Search.{all_from_yields_List}
use Rattle.session_text.specs.Statements.{is_field}
use Rattle.session_text.proofs.fields.all_fields.Goals as goal

pub returns : goal.returns
returns c =
    all_from_yields_List is_field _ _ c.all.result c.all.ensures.ran
    (YieldsList-from_slice_split _ (λ b. b == 32) c.args.text.now (cc) (cc) (cc) (λ x b q k. search (rules, tests)))
    (λ x b q k. search (rules, tests))
