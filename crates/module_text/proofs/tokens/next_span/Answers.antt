use Rattle.std.proofs.Common.{◌<◌, length, arith}
use Rattle.module_text.specs.Places.{token_start}
use Rattle.module_text.proofs.Spans.{start_inside}
use Rattle.module_text.proofs.tokens.next_span.Goals as goal

pub returns-clause-inside : goal.returns-clause-inside
returns-clause-inside g c =
    let text = g.X.TextBytes.text c.args.text.now in
    let lt : token_start text c.args.from < length text = omega arith in
    rw (c.token_end-end.ensures, c.token_start-start.ensures) (start_inside text c.args.from lt)
