use Rattle.std.proofs.Common.{[], ◌≡◌, ◌+◌, suc, length, get_or, sym, ap, ◌∙◌, arith}
use Rattle.std.proofs.lemmas.List.{get_or_read}
use Rattle.ram_disc.specs.Chain.{Chains, chain_of, no_sector}
use Rattle.ram_disc.proofs.ChainLemmas.{chain-next, length-chain}
use Rattle.ram_disc.proofs.SectorLemmas.{get_or-chains}
use Rattle.ram_disc.proofs.sectors.Sectors.next.Goals as goal

pub returns : goal.returns
returns c slot k inside within here =
    let s = c.self.inside in
    let it = get_or s.chains slot no_sector in
    let chain : get_or c.args.self.now.chains slot [] ≡ chain_of s.links.items it =
    ap (λ (x : Chains). get_or x.chains slot []) (sym c.self.view_is)
    ∙ get_or-chains s.links.items s.chains slot no_sector (omega (arith, c.self.invariant.slots)) in
    let size : length (get_or c.args.self.now.chains slot []) ≡ it.length = ap length chain ∙ length-chain s.links.items it.first it.length in
    let more : k + 1 ≡ suc k = omega arith in
    let read : c.index.result.now ≡ get_or s.links.items c.args.sector 0 =
    get_or_read s.links.items _ _ (omega (arith, c.self.invariant.size, c.requires)) c.index.ensures 0 in
    ap (λ i. get_or (get_or c.args.self.now.chains slot []) i 0) more
    ∙ ap (λ xs. get_or xs (suc k) 0) chain
    ∙ chain-next s.links.items it.first it.length k (omega (arith, within, size))
    ∙ ap (λ xs. get_or s.links.items (get_or xs k 0) 0) (sym chain)
    ∙ ap (λ i. get_or s.links.items i 0) here
    ∙ sym read
