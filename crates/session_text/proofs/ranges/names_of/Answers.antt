use Rattle.std.proofs.Common.{◌∙◌, length, sym, ap, arith, option_map}
use Rattle.session_text.proofs.FieldParts.{fields-split, names-last, names-more, names-none, names-none_last}
use Rattle.session_text.proofs.ranges.names_of.Goals as goal

pub returns-in_err-name_of : goal.returns-in_err-name_of
returns-in_err-name_of c =
    ap (option_map (λ names. names.items)) c.from_residual.ensures
    ∙ names-none c.loop-first.names.items _ c.loop-first.rest.now c.in-Some.first.now c.in-Some.others.now c.in-Some.ensures c.in_err-name_of.ensures c.loop-first.invariant.names

pub loop-first-preserved : goal.loop-first-preserved
loop-first-preserved c =
    let more = names-more c.loop-first.names.items _ c.loop-first.rest.now c.in-Some.first.now c.in-Some.others.now c.in_ok-name_of.field-0 c.in-Some.ensures c.in_ok-name_of.ensures c.loop-first.invariant.names in
    record {
      names = rw c.push.ensures.items more;
      count = omega (arith, ap length (fields-split c.loop-first.rest.now (c.in-Some.first.now, c.in-Some.others.now) (sym c.in-Some.ensures)));
    }

pub returns-in_err-name_of-2 : goal.returns-in_err-name_of-2
returns-in_err-name_of-2 c =
    ap (option_map (λ names. names.items)) c.from_residual-in_err-name_of-2.ensures
    ∙ names-none_last c.loop-first.names.items _ c.loop-first.rest.now c.in_default.ensures c.in_err-name_of-2.ensures c.loop-first.invariant.names

pub returns : goal.returns
returns c =
    let last = names-last c.loop-first.names.items _ c.loop-first.rest.now c.in_ok-name_of-2.field-0 c.in_default.ensures c.in_ok-name_of-2.ensures c.loop-first.invariant.names in
    rw c.push-2.ensures.items last
