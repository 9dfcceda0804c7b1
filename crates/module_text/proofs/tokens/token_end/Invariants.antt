use Rattle.std.proofs.Common.{◌≡◌, ◌+◌, drop}
use Rattle.std.specs.Prelude.{not}
use Rattle.std.specs.List.{prefix_len}
use Rattle.module_text.specs.Tokens.{is_blank}
use Rattle.module_text.proofs.tokens.token_end.Given as goal

abbrev pub invariant-loop-place : goal.invariant-loop-place
invariant-loop-place g l =
    l.place + prefix_len (λ c. not (is_blank c)) (drop l.place (g.X.TextBytes.text l.text))
    ≡ l.from + prefix_len (λ c. not (is_blank c)) (drop l.from (g.X.TextBytes.text l.text))
