use Rattle.std.proofs.Common.{rules, tests, ◌==◌}
use Rattle.std.proofs.lemmas.Iterator.Splits.{YieldsList-from_slice_split}
use Rattle.std.proofs.lemmas.Iterator.Search.{any_from_yields_List}
use Rattle.log_words.specs.Kinds.{is_named}
use Rattle.log_words.proofs.kinds.is_any_named.Goals as goal

pub returns : goal.returns
returns c =
    any_from_yields_List (λ word. is_named word c.args.kind) _ _ c.any.result c.any.ensures.ran
    (YieldsList-from_slice_split _ (λ b. b == 32) c.args.words.now (cc) (cc) (cc) (λ x b q k. search (rules, tests)))
    (λ x b q k. search (rules, tests))
