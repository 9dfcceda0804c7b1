use Rattle.std.proofs.Common.{◌∙◌, length, sym, arith}
use Rattle.std.proofs.lemmas.Result.{err_from_is_err_and}
use Rattle.module_text.specs.Tokens.{line_at}
use Rattle.module_text.specs.Places.{bytes_in}
use Rattle.module_text.specs.Grammar.{finish}
use Rattle.module_text.specs.ModuleOfText.{module_of, read_token}
use Rattle.module_text.proofs.HunkLists.{bad_from, gather_cut, gather_end, gather_first, gather_more, gather_refused, gives_bad, ok_from}
use Rattle.module_text.proofs.read.whole_module.Goals as goal

pub loop-token-init : goal.loop-token-init
loop-token-init c = record { rest = rw c.new-hunks.ensures.items (gather_first c.args.text.now); inside = omega arith }

pub returns-in_err-step : goal.returns-in_err-step
returns-in_err-step c =
    let text = c.args.text.now in
    let token = c.in-Some.token in
    let line = line_at text token.start in
    let p = err_from_is_err_and c.from_residual.result c.from_residual.ensures.1 in
    let found = rw c.new.ensures at (sym c.in-Some.ensures.place) in
    let bad = bad_from line (read_token c.loop-token.expects (bytes_in text token)) c.in_err-step.field-0.0 c.in_err-step.ensures in
    let stop = gather_refused text c.loop-token.place token c.loop-token.hunks.items c.loop-token.expects bad.0 found bad.1 in
    gives_bad c.from_residual.result (module_of text) p.0 line bad.0 p.1 (p.2 ∙ bad.2) (sym c.loop-token.invariant.rest ∙ stop)

pub loop-token-preserved : goal.loop-token-preserved
loop-token-preserved c =
    let text = c.args.text.now in
    let token = c.in-Some.token in
    let found = rw c.new.ensures at (sym c.in-Some.ensures.place) in
    let inside = rw c.new.ensures at c.in-Some.ensures.inside.1 in
    let step = ok_from (line_at text token.start) (read_token c.loop-token.expects (bytes_in text token)) c.in_ok-step.step c.in_ok-step.ensures in
    record {
      rest = gather_more text c.loop-token.place token c.loop-token.hunks.items c.put.new.hunks.items c.loop-token.expects c.in_ok-step.step found step c.in_ok-put.ensures.added ∙ c.loop-token.invariant.rest;
      inside = inside;
    }

pub returns-in_err-finish_or_refusal : goal.returns-in_err-finish_or_refusal
returns-in_err-finish_or_refusal c =
    let text = c.args.text.now in
    let line = line_at text (length text) in
    let p = err_from_is_err_and c.from_residual-in_err-finish_or_refusal.result c.from_residual-in_err-finish_or_refusal.ensures.1 in
    let none = rw c.new.ensures at (sym c.next_span.ensures.place ∙ c.in_default.is) in
    let bad = bad_from line (finish c.loop-token.expects) c.in_err-finish_or_refusal.field-0.0 c.in_err-finish_or_refusal.ensures in
    let stop = gather_cut text c.loop-token.place c.loop-token.hunks.items c.loop-token.expects bad.0 none bad.1 in
    gives_bad c.from_residual-in_err-finish_or_refusal.result (module_of text) p.0 line bad.0 p.1 (p.2 ∙ bad.2) (sym c.loop-token.invariant.rest ∙ stop)

pub returns : goal.returns
returns c =
    let text = c.args.text.now in
    let none = rw c.new.ensures at (sym c.next_span.ensures.place ∙ c.in_default.is) in
    let end = ok_from (line_at text (length text)) (finish c.loop-token.expects) c.in_ok-finish_or_refusal.field-0 c.in_ok-finish_or_refusal.ensures in
    rw c.new-2.ensures (sym c.loop-token.invariant.rest ∙ gather_end text c.loop-token.place c.loop-token.hunks.items c.loop-token.expects c.in_ok-finish_or_refusal.field-0 none end)
