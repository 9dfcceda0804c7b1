use Rattle.std.proofs.Common.{◌∙◌, ap, sym}
use Rattle.show_run.specs.ValueTries.Outcomes.{is_same_outcome}
use Rattle.show_run.proofs.ValueTries.Groupings.{outcome-itself, same-outcome}
use Rattle.show_run.proofs.value_tries.laws.outcome_law.Goals as goal

pub returns : goal.returns
returns c a b = (λ same. same-outcome a b same, λ is. ap (is_same_outcome a) (sym is) ∙ outcome-itself a)
