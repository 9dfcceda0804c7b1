use Rattle.std.proofs.Common.{ap, refl, arith}
use Rattle.ram_disc.specs.Disc.{most_files, most_sectors}
use Rattle.ram_disc.proofs.SectorLemmas.{chained-new, none-chained}
use Rattle.ram_disc.proofs.sectors.Sectors.new.Goals as goal

pub invariant_of-result : goal.invariant_of-result
invariant_of-result c =
    let links = c.in_ok-links_to_next.field-0 in
    chained-new links.items most_files most_sectors refl refl (omega (arith, links.ok.0, c.in_ok-links_to_next.ensures.size)) c.in_ok-links_to_next.ensures.next

pub returns : goal.returns
returns c = ap (λ xs. record { chains = xs; left = most_sectors }) (none-chained c.in_ok-links_to_next.field-0.items most_files)
