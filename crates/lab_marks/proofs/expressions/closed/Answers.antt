use Rattle.std.proofs.lemmas.List.{reverse-append}
use Rattle.lab_marks.proofs.expressions.closed.Goals as goal

pub returns-in-Some : goal.returns-in-Some
returns-in-Some c =
    let items = c.in-Some.ensures.items in
    rw (items, reverse-append) c.with_sum.ensures
