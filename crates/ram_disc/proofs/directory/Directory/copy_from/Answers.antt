use Rattle.std.proofs.Common.{[], arith}
use Rattle.std.proofs.lemmas.List.{ext_get_or}
use Rattle.ram_disc.proofs.directory.Directory.copy_from.Goals as goal

pub returns-clause-names : goal.returns-clause-names
returns-clause-names c =
    ext_get_or [] c.loop-i.self.names.items c.args.other.now.names.items c.loop-i.invariant.size
    (λ k h. c.loop-i.invariant.done k (omega (arith, h, c.loop-i.invariant.size, c.requires.other, c.loop-i-test.false)))
