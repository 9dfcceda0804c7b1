use Rattle.std.proofs.Common.{◌<◌, length, arith}
use Rattle.std.proofs.lemmas.Bool.Decides.{nat_tests}
use Rattle.module_text.proofs.PrintParts.{relocations_some}
use Rattle.module_text.proofs.print.gather_relocations.Goals as goal

pub returns-clause-text : goal.returns-clause-text
returns-clause-text g c =
    let e = c.if-is_empty.ensures in
    let some : 0 < length c.args.offsets.now = grind (arith, nat_tests) in
    rw (relocations_some c.args.offsets.now some) c.gather_item.ensures.text
