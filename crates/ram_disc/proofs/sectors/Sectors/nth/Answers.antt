use Rattle.std.proofs.Common.{[], ◌≡◌, ◌+◌, ◌<◌, length, get_or, sym, ap, ◌∙◌, arith}
use Rattle.std.proofs.lemmas.List.{get_or_read}
use Rattle.ram_disc.specs.Chain.{Chains, chains_of}
use Rattle.ram_disc.proofs.SectorLemmas.{chained-below, slot-first, slot-next}
use Rattle.ram_disc.proofs.sectors.Sectors.nth.Goals as goal

pub loop-i-init : goal.loop-i-init
loop-i-init c =
    let s = c.self.inside in
    let e : get_or c.args.self.now.chains c.args.slot [] ≡ get_or (chains_of s.links.items s.chains) c.args.slot [] =
    ap (λ (x : Chains). get_or x.chains c.args.slot []) (sym c.self.view_is) in
    ap (λ xs. get_or xs 0 0) e
    ∙ slot-first s.links.items s.chains c.args.slot (omega (arith, c.self.invariant.slots, c.requires.slot)) (omega (arith, c.requires.within, ap length e))

pub index-sector-requires : goal.index-sector-requires
index-sector-requires c =
    let s = c.self.inside in
    let e : get_or c.args.self.now.chains c.args.slot [] ≡ get_or (chains_of s.links.items s.chains) c.args.slot [] =
    ap (λ (x : Chains). get_or x.chains c.args.slot []) (sym c.self.view_is) in
    let below = chained-below s.links.items s.chains s.free s.left c.args.slot c.loop-i.i c.self.invariant (omega (arith, c.self.invariant.slots, c.requires.slot))
    (omega (arith, c.requires.within, ap length e)) in
    omega (arith, s.links.ok.0, c.self.invariant.size, below, ap (λ xs. get_or xs c.loop-i.i 0) e, c.loop-i.invariant)

pub loop-i-preserved : goal.loop-i-preserved
loop-i-preserved c =
    let s = c.self.inside in
    let e : get_or c.args.self.now.chains c.args.slot [] ≡ get_or (chains_of s.links.items s.chains) c.args.slot [] =
    ap (λ (x : Chains). get_or x.chains c.args.slot []) (sym c.self.view_is) in
    let below = chained-below s.links.items s.chains s.free s.left c.args.slot c.loop-i.i c.self.invariant (omega (arith, c.self.invariant.slots, c.requires.slot))
    (omega (arith, c.requires.within, ap length e)) in
    let lt : c.loop-i.sector < length s.links.items = omega (arith, c.self.invariant.size, below, ap (λ xs. get_or xs c.loop-i.i 0) e, c.loop-i.invariant) in
    let read : c.index-sector.result.now ≡ get_or s.links.items c.loop-i.sector 0 = get_or_read s.links.items _ _ lt c.index-sector.ensures 0 in
    ap (λ xs. get_or xs (c.loop-i.i + 1) 0) e
    ∙ slot-next s.links.items s.chains c.args.slot c.loop-i.i (omega (arith, c.self.invariant.slots, c.requires.slot)) (omega (arith, c.requires.within, ap length e))
    ∙ ap (λ xs. get_or s.links.items (get_or xs c.loop-i.i 0) 0) (sym e)
    ∙ ap (λ i. get_or s.links.items i 0) c.loop-i.invariant
    ∙ sym read
