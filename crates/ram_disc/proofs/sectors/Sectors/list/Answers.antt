use Rattle.std.proofs.Common.{[], ◌∷◌, ◌++◌, ◌≡◌, ◌+◌, ◌<◌, length, get_or, take, sym, subst, ap, ◌∙◌, rules, arith}
use Rattle.std.proofs.lemmas.List.{get_or_read, take_all, take_more}
use Rattle.ram_disc.specs.Chain.{AreApart, Chains, chains_of, no_sector}
use Rattle.ram_disc.proofs.ChainLemmas.{length-chain}
use Rattle.ram_disc.proofs.SectorLemmas.{apart-chained, chained-below, get_or-chains, length-below, slot-first, slot-next}
use Rattle.ram_disc.proofs.sectors.Sectors.list.Goals as goal

pub loop-i-init : goal.loop-i-init
loop-i-init c =
    let s = c.self.inside in
    let e : get_or c.args.self.now.chains c.args.slot [] ≡ get_or (chains_of s.links.items s.chains) c.args.slot [] =
    ap (λ (x : Chains). get_or x.chains c.args.slot []) (sym c.self.view_is) in
    record {
      sofar = search rules;
      len = search rules;
      next = λ some. ap (λ xs. get_or xs 0 0) e
          ∙ slot-first s.links.items s.chains c.args.slot (omega (arith, c.self.invariant.slots, c.requires)) (omega (arith, some, ap length e));
    }

pub push-requires : goal.push-requires
push-requires c =
    let s = c.self.inside in
    let below = length-below s.links.items s.chains s.free s.left c.args.slot c.self.invariant c.requires in
    (omega arith, omega (arith, below, c.loop-i.invariant.len, c.loop-i-test.true))

pub index-sector-requires : goal.index-sector-requires
index-sector-requires c =
    let s = c.self.inside in
    let it = get_or s.chains c.args.slot no_sector in
    let lt : c.args.slot < length s.chains = omega (arith, c.self.invariant.slots, c.requires) in
    let e : get_or c.args.self.now.chains c.args.slot [] ≡ get_or (chains_of s.links.items s.chains) c.args.slot [] =
    ap (λ (x : Chains). get_or x.chains c.args.slot []) (sym c.self.view_is) in
    let size : length (get_or c.args.self.now.chains c.args.slot []) ≡ it.length =
    ap length e ∙ ap length (get_or-chains s.links.items s.chains c.args.slot no_sector lt) ∙ length-chain s.links.items it.first it.length in
    let below = chained-below s.links.items s.chains s.free s.left c.args.slot c.loop-i.i c.self.invariant lt (omega (arith, c.loop-i-test.true, size, ap length e)) in
    omega (arith, s.links.ok.0, c.self.invariant.size, below, ap (λ xs. get_or xs c.loop-i.i 0) e, c.loop-i.invariant.next (omega (arith, c.loop-i-test.true, size)))

pub loop-i-preserved : goal.loop-i-preserved
loop-i-preserved c =
    let s = c.self.inside in
    let it = get_or s.chains c.args.slot no_sector in
    let lt : c.args.slot < length s.chains = omega (arith, c.self.invariant.slots, c.requires) in
    let e : get_or c.args.self.now.chains c.args.slot [] ≡ get_or (chains_of s.links.items s.chains) c.args.slot [] =
    ap (λ (x : Chains). get_or x.chains c.args.slot []) (sym c.self.view_is) in
    let size : length (get_or c.args.self.now.chains c.args.slot []) ≡ it.length =
    ap length e ∙ ap length (get_or-chains s.links.items s.chains c.args.slot no_sector lt) ∙ length-chain s.links.items it.first it.length in
    let i = c.loop-i.i in
    let within : i < length (get_or c.args.self.now.chains c.args.slot []) = omega (arith, c.loop-i-test.true, size) in
    let here = c.loop-i.invariant.next within in
    let below = chained-below s.links.items s.chains s.free s.left c.args.slot i c.self.invariant lt (omega (arith, within, ap length e)) in
    let inside : c.loop-i.sector < length s.links.items = omega (arith, c.self.invariant.size, below, ap (λ xs. get_or xs i 0) e, here) in
    let read : c.index-sector.result.now ≡ get_or s.links.items c.loop-i.sector 0 = get_or_read s.links.items _ _ inside c.index-sector.ensures 0 in
    record {
      sofar = c.push.ensures.items ∙ ap (λ xs. xs ++ c.loop-i.sector ∷ []) c.loop-i.invariant.sofar
          ∙ ap (λ x. take i (get_or c.args.self.now.chains c.args.slot []) ++ x ∷ []) (sym here)
          ∙ sym (take_more (get_or c.args.self.now.chains c.args.slot []) i 0 within);
      len = omega (arith, c.push.ensures.len, c.loop-i.invariant.len);
      next = λ more. ap (λ xs. get_or xs (i + 1) 0) e
          ∙ slot-next s.links.items s.chains c.args.slot i lt (omega (arith, more, ap length e))
          ∙ ap (λ xs. get_or s.links.items (get_or xs i 0) 0) (sym e)
          ∙ ap (λ j. get_or s.links.items j 0) here
          ∙ sym read;
    }

pub returns-clause-sectors : goal.returns-clause-sectors
returns-clause-sectors c =
    let s = c.self.inside in
    let it = get_or s.chains c.args.slot no_sector in
    let lt : c.args.slot < length s.chains = omega (arith, c.self.invariant.slots, c.requires) in
    let e : get_or c.args.self.now.chains c.args.slot [] ≡ get_or (chains_of s.links.items s.chains) c.args.slot [] =
    ap (λ (x : Chains). get_or x.chains c.args.slot []) (sym c.self.view_is) in
    let size : length (get_or c.args.self.now.chains c.args.slot []) ≡ it.length =
    ap length e ∙ ap length (get_or-chains s.links.items s.chains c.args.slot no_sector lt) ∙ length-chain s.links.items it.first it.length in
    c.loop-i.invariant.sofar ∙ take_all c.loop-i.i (get_or c.args.self.now.chains c.args.slot []) (omega (arith, size, c.loop-i-test.false))

pub returns-clause-apart : goal.returns-clause-apart
returns-clause-apart c = subst AreApart c.self.view_is (apart-chained _ _ _ _ c.self.invariant)
