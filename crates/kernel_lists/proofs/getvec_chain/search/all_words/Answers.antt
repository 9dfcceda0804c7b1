use Rattle.std.proofs.Common.{◌≡◌, ◌∙◌, ◌+◌, ◌-◌, ap, arith, length, take}
use Rattle.std.proofs.Math.Seq.{take-length}
use Rattle.kernel_lists.proofs.getvec_chain.search.all_words.Goals as goal

pub returns : goal.returns
returns c =
    let s = c.args.store.now in
    let whole : 0 + c.size.result - 0 ≡ length s = omega (arith, c.size.ensures) in
    c.in-Some.ensures.inside ∙ ap (λ n. take n s) whole ∙ take-length s
