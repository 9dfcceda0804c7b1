use Rattle.std.proofs.Common.{subst}
use Rattle.ram_disc.specs.Chain.{AreApart}
use Rattle.ram_disc.proofs.SectorLemmas.{apart-chained}
use Rattle.ram_disc.proofs.sectors.Sectors.left.Goals as goal

pub returns-clause-apart : goal.returns-clause-apart
returns-clause-apart c = subst AreApart c.self.view_is (apart-chained _ _ _ _ c.self.invariant)
