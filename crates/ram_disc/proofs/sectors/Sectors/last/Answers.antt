use Rattle.std.proofs.Common.{[], ◌≡◌, ◌-◌, length, get_or, subst, sym, ap, ◌∙◌, arith}
use Rattle.ram_disc.specs.Chain.{AreApart, Chains, chain_of, no_sector}
use Rattle.ram_disc.proofs.ChainLemmas.{length-chain}
use Rattle.ram_disc.proofs.SectorLemmas.{apart-chained, get_or-chains}
use Rattle.ram_disc.proofs.sectors.Sectors.last.Goals as goal

pub returns-clause-last : goal.returns-clause-last
returns-clause-last c =
    let s = c.self.inside in
    let it = get_or s.chains c.args.slot no_sector in
    let chain : get_or c.args.self.now.chains c.args.slot [] ≡ chain_of s.links.items it =
    ap (λ (x : Chains). get_or x.chains c.args.slot []) (sym c.self.view_is)
    ∙ get_or-chains s.links.items s.chains c.args.slot no_sector (omega (arith, c.self.invariant.slots)) in
    let size : length (get_or c.args.self.now.chains c.args.slot []) ≡ it.length = ap length chain ∙ length-chain s.links.items it.first it.length in
    sym (ap (λ n. get_or (get_or c.args.self.now.chains c.args.slot []) (n - 1) 0) size
    ∙ ap (λ xs. get_or xs (it.length - 1) 0) chain
    ∙ c.self.invariant.ends c.args.slot no_sector (omega (arith, c.self.invariant.slots)) (omega (arith, size, c.requires.some)))

pub returns-clause-apart : goal.returns-clause-apart
returns-clause-apart c = subst AreApart c.self.view_is (apart-chained _ _ _ _ c.self.invariant)
