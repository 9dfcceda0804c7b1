use Rattle.std.proofs.Common.{◌≡◌, ◌∙◌, ◌+◌, ◌-◌, ◌<◌, ◌^◌, ap, arith, get_or, length, subst, take}
use Rattle.std.proofs.Math.Seq.{take-length}
use Rattle.kernel_machine.proofs.running_machine.residents.know_words.Goals as goal

pub returns : goal.returns
returns c = λ a.
    let s = c.args.store.now in
    let whole : 0 + c.size.result - 0 ≡ length s = omega (arith, c.size.ensures) in
    subst (λ xs. get_or xs a 0 < 2 ^ 32) (c.in-Some.ensures.inside ∙ ap (λ n. take n s) whole ∙ take-length s) (c.know_numbers.ensures a)
