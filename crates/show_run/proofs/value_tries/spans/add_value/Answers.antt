use Rattle.std.proofs.Common.{◌∙◌, sym, ap}
use Rattle.std.proofs.lemmas.Result.{on_ok_weaker}
use Rattle.show_run.specs.ValueTries.Spans.{spans_with}
use Rattle.show_run.proofs.ValueTries.LongerSpans.{spans_with-append}
use Rattle.show_run.proofs.value_tries.spans.add_value.Goals as goal

pub returns-in-Some : goal.returns-in-Some
returns-in-Some c =
    on_ok_weaker c.add_after.result (λ is. is ∙ sym (ap (spans_with c.args.value) c.in-Some.ensures.items ∙ spans_with-append c.args.value c.pop.new.self.items c.in-Some.last)) c.add_after.ensures
