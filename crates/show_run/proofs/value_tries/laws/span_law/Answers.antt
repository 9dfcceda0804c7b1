use Rattle.show_run.proofs.ValueTries.LongerSpans.{values-of-spans}
use Rattle.show_run.proofs.value_tries.laws.span_law.Goals as goal

pub returns : goal.returns
returns c = values-of-spans
