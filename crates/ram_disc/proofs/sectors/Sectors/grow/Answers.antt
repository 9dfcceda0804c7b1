use Rattle.std.proofs.Common.{◌≡◌, ◌-◌, ◌<◌, ◌++◌, ◌∷◌, [], get_or, set, sym, ap, ◌∙◌, arith}
use Rattle.std.proofs.lemmas.List.{get_or_read}
use Rattle.ram_disc.specs.Chain.{Chains, no_sector, times_in}
use Rattle.ram_disc.proofs.SectorLemmas.{apart-chained, before-below, chained-grow, chains-grow, fresh-grow, free-below, grows-slot, length-below}
use Rattle.ram_disc.proofs.sectors.Sectors.grow.Goals as goal

pub index-requires : goal.index-requires
index-requires c =
    let s = c.self.inside in
    let some : 0 < s.left = omega (arith, c.requires.room, ap (λ (x : Chains). x.left) c.self.view_is) in
    omega (arith, s.links.ok.0, c.self.invariant.size, free-below s.links.items s.chains s.free s.left c.self.invariant some)

pub index_mut-requires : goal.index_mut-requires
index_mut-requires c =
    let s = c.self.inside in
    let some : 0 < s.left = omega (arith, c.requires.room, ap (λ (x : Chains). x.left) c.self.view_is) in
    omega (
      arith,
      s.links.ok.0,
      c.self.invariant.size,
      c.before-before.ensures,
      before-below s.links.items s.chains s.free s.left c.args.slot c.self.invariant c.requires.slot some,
    )

pub with_last-requires : goal.with_last-requires
with_last-requires c =
    let s = c.self.inside in
    omega (
      arith,
      c.requires.room,
      ap (λ (x : Chains). x.left) c.self.view_is,
      length-below s.links.items s.chains s.free s.left c.args.slot c.self.invariant c.requires.slot,
    )

pub invariant_of-self : goal.invariant_of-self
invariant_of-self c =
    let s = c.self.inside in
    let it = get_or s.chains c.args.slot no_sector in
    let some : 0 < s.left = omega (arith, c.requires.room, ap (λ (x : Chains). x.left) c.self.view_is) in
    let read : c.index.result.now ≡ get_or s.links.items s.free 0 =
    get_or_read s.links.items _ _ (omega (arith, c.self.invariant.size, free-below s.links.items s.chains s.free s.left c.self.invariant some)) c.index.ensures 0 in
    rw (c.before-before.ensures, c.with_last.ensures, read)
    (chained-grow s.links.items s.chains s.free (s.left - 1) c.args.slot it.first it.last it.length no_sector
    (grows-slot s.links.items s.chains s.free s.left c.args.slot c.self.invariant c.requires.slot some))

pub returns-clause-chain : goal.returns-clause-chain
returns-clause-chain c =
    let s = c.self.inside in
    let it = get_or s.chains c.args.slot no_sector in
    let some : 0 < s.left = omega (arith, c.requires.room, ap (λ (x : Chains). x.left) c.self.view_is) in
    rw (c.before-before.ensures, c.with_last.ensures)
    (chains-grow s.links.items s.chains s.free (s.left - 1) c.args.slot it.first it.last it.length no_sector
    (grows-slot s.links.items s.chains s.free s.left c.args.slot c.self.invariant c.requires.slot some)
    ∙ ap (λ (x : Chains). set x.chains c.args.slot (get_or x.chains c.args.slot [] ++ s.free ∷ [])) c.self.view_is)

pub returns-clause-fresh : goal.returns-clause-fresh
returns-clause-fresh c =
    let s = c.self.inside in
    let it = get_or s.chains c.args.slot no_sector in
    let some : 0 < s.left = omega (arith, c.requires.room, ap (λ (x : Chains). x.left) c.self.view_is) in
    ap (λ (x : Chains). times_in s.free x.chains) (sym c.self.view_is)
    ∙ fresh-grow s.links.items s.chains s.free (s.left - 1) c.args.slot it.first it.last it.length no_sector
    (grows-slot s.links.items s.chains s.free s.left c.args.slot c.self.invariant c.requires.slot some)

pub returns-clause-apart : goal.returns-clause-apart
returns-clause-apart c = apart-chained _ _ _ _ (invariant_of-self c)
