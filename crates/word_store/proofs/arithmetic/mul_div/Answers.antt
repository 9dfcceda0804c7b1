use Rattle.std.proofs.Common.{◌∙◌}
use Rattle.word_store.proofs.Wide.{mul_div-wide}
use Rattle.word_store.proofs.arithmetic.mul_div.Goals as goal

pub returns : goal.returns
returns c =
    c.quotient_and_remainder.ensures
    ∙ mul_div-wide c.args.a c.args.b c.args.c c.wide.result c.wide-2.result c.wide-3.result c.wide.ensures.value c.wide-2.ensures.value c.wide-3.ensures.value c.wide.ensures.fits c.wide-2.ensures.fits c.wide-3.ensures.fits c.if-c-eq0.false
