use Rattle.std.proofs.Common.{◌≡◌, ◌++◌, drop, filter}
use Rattle.log_words.specs.Kinds.{is_kind_wanted}
use Rattle.log_words.proofs.kinds.wanted_of.Given as goal

abbrev pub invariant-loop-kind : goal.invariant-loop-kind
invariant-loop-kind l =
    l.wanted.items ++ filter (is_kind_wanted l.words) (drop l.kind-index l.kinds) ≡ filter (is_kind_wanted l.words) l.kinds
