use Rattle.std.proofs.Common.{◌≡◌, ◌-◌, ◌+◌, ◌<◌, suc, [], length, get_or, set, subst, sym, ap, ◌∙◌, arith}
use Rattle.std.proofs.lemmas.List.{nil_from_length, set-get_or}
use Rattle.ram_disc.specs.Chain.{AreApart, AreChained, Chains, chain_of, no_sector}
use Rattle.ram_disc.proofs.ChainLemmas.{length-chain}
use Rattle.ram_disc.proofs.SectorLemmas.{apart-chained, chained-give, chains-give, get_or-chains, gives-slot, last-below, length-below}
use Rattle.ram_disc.proofs.sectors.Sectors.release.Goals as goal

pub returns-then-chain-eq0-clause-chain : goal.returns-then-chain-eq0-clause-chain
returns-then-chain-eq0-clause-chain c =
    let s = c.self.inside in
    let it = get_or s.chains c.args.slot no_sector in
    let xs = c.args.self.now.chains in
    let chain : get_or xs c.args.slot [] ≡ chain_of s.links.items it =
    ap (λ (x : Chains). get_or x.chains c.args.slot []) (sym c.self.view_is)
    ∙ get_or-chains s.links.items s.chains c.args.slot no_sector (omega (arith, c.self.invariant.slots, c.requires)) in
    let none : get_or xs c.args.slot [] ≡ [] =
    nil_from_length (get_or xs c.args.slot []) (omega (arith, ap length chain, length-chain s.links.items it.first it.length, c.if-chain-eq0.true)) in
    sym (ap (λ x. set xs c.args.slot x) (sym none) ∙ set-get_or xs c.args.slot [])

pub returns-then-chain-eq0-clause-left : goal.returns-then-chain-eq0-clause-left
returns-then-chain-eq0-clause-left c =
    let s = c.self.inside in
    let it = get_or s.chains c.args.slot no_sector in
    let chain : get_or c.args.self.now.chains c.args.slot [] ≡ chain_of s.links.items it =
    ap (λ (x : Chains). get_or x.chains c.args.slot []) (sym c.self.view_is)
    ∙ get_or-chains s.links.items s.chains c.args.slot no_sector (omega (arith, c.self.invariant.slots, c.requires)) in
    omega (arith, ap length chain, length-chain s.links.items it.first it.length, c.if-chain-eq0.true)

pub returns-then-chain-eq0-clause-apart : goal.returns-then-chain-eq0-clause-apart
returns-then-chain-eq0-clause-apart c = subst AreApart c.self.view_is (apart-chained _ _ _ _ c.self.invariant)

pub index_mut-requires : goal.index_mut-requires
index_mut-requires c =
    let s = c.self.inside in
    let it = get_or s.chains c.args.slot no_sector in
    let some : 0 < it.length = omega (arith, c.if-chain-eq0.false) in
    omega (
      arith,
      s.links.ok.0,
      last-below s.links.items s.chains s.free s.left c.args.slot it.first it.last (it.length - 1) no_sector
          (gives-slot s.links.items s.chains s.free s.left c.args.slot c.self.invariant c.requires some),
    )

pub overflow_add-self : goal.overflow_add-self
overflow_add-self c =
    let s = c.self.inside in
    omega (arith, length-below s.links.items s.chains s.free s.left c.args.slot c.self.invariant c.requires)

pub invariant_of-self : goal.invariant_of-self
invariant_of-self c =
    let s = c.self.inside in
    let it = get_or s.chains c.args.slot no_sector in
    let some : 0 < it.length = omega (arith, c.if-chain-eq0.false) in
    let e : s.left + suc (it.length - 1) ≡ s.left + it.length = omega arith in
    subst (AreChained (set s.links.items it.last s.free) (set s.chains c.args.slot no_sector) it.first) e
    (chained-give s.links.items s.chains s.free s.left c.args.slot it.first it.last (it.length - 1) no_sector
    (gives-slot s.links.items s.chains s.free s.left c.args.slot c.self.invariant c.requires some))

pub returns-clause-chain : goal.returns-clause-chain
returns-clause-chain c =
    let s = c.self.inside in
    let it = get_or s.chains c.args.slot no_sector in
    let some : 0 < it.length = omega (arith, c.if-chain-eq0.false) in
    chains-give s.links.items s.chains s.free s.left c.args.slot it.first it.last (it.length - 1) no_sector
    (gives-slot s.links.items s.chains s.free s.left c.args.slot c.self.invariant c.requires some)
    ∙ ap (λ (x : Chains). set x.chains c.args.slot []) c.self.view_is

pub returns-clause-left : goal.returns-clause-left
returns-clause-left c =
    let s = c.self.inside in
    let it = get_or s.chains c.args.slot no_sector in
    let chain : get_or c.args.self.now.chains c.args.slot [] ≡ chain_of s.links.items it =
    ap (λ (x : Chains). get_or x.chains c.args.slot []) (sym c.self.view_is)
    ∙ get_or-chains s.links.items s.chains c.args.slot no_sector (omega (arith, c.self.invariant.slots, c.requires)) in
    omega (arith, ap length chain, length-chain s.links.items it.first it.length, ap (λ (x : Chains). x.left) c.self.view_is)

pub returns-clause-apart : goal.returns-clause-apart
returns-clause-apart c = apart-chained _ _ _ _ (invariant_of-self c)
