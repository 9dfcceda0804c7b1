use Rattle.std.proofs.Common.{subst}
use Rattle.ram_disc.specs.Disc.{IsDisc}
use Rattle.ram_disc.proofs.ValidDisc.{valid-kept}
use Rattle.ram_disc.proofs.discs.Disc.stream.Goals as goal

pub returns-in_default-clause-valid : goal.returns-in_default-clause-valid
returns-in_default-clause-valid c = subst IsDisc c.self.view_is (valid-kept _ _ _ _ _ c.self.invariant)

pub returns-clause-valid : goal.returns-clause-valid
returns-clause-valid c = subst IsDisc c.self.view_is (valid-kept _ _ _ _ _ c.self.invariant)
