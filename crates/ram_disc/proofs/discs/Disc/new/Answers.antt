use Rattle.std.proofs.Common.{arith}
use Rattle.ram_disc.proofs.ChangeCalls.{kept-new}
use Rattle.ram_disc.proofs.discs.Disc.new.Goals as goal

pub invariant_of-result : goal.invariant_of-result
invariant_of-result c =
    let d = c.in_ok-new-2.field-0 in
    kept-new d.names.items c.in_ok-new.field-0 d.used.items d.unused.items (omega (arith, d.names.ok.0, c.in_ok-new-2.ensures.names))
    c.in_ok-new.ensures c.in_ok-new-2.ensures.used c.in_ok-new-2.ensures.unused
