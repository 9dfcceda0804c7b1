use Rattle.std.proofs.Common.{[], ◌<◌, length, get_or, set, subst, ap, ◌∙◌, arith}
use Rattle.std.proofs.lemmas.List.{get_or-set_other}
use Rattle.ram_disc.specs.Contents.{Area, Empties, all_bytes}
use Rattle.ram_disc.proofs.ContentsLemmas.{clear-area, clear-bytes, length-slot}
use Rattle.ram_disc.proofs.contents.Contents.clear.Goals as goal

pub invariant_of-self : goal.invariant_of-self
invariant_of-self c =
    let s = c.self.inside in
    clear-area s.bytes.items s.sectors c.release.new.self s.sizes c.args.slot
    (record { area = c.self.invariant; inside = omega (arith, c.self.told, c.requires); chains = c.release.ensures.chain; apart = c.release.ensures.apart })

pub returns : goal.returns
returns c =
    let s = c.self.inside in
    let after = c.release.new.self in
    let lt : c.args.slot < length s.sizes = omega (arith, c.self.told, c.requires) in
    let P : Area → Type 0 = λ a. Empties a
    (record { chains = after.chains; bytes = all_bytes s.bytes.items after.chains (set s.sizes c.args.slot 0); left = after.left }) c.args.slot in
    subst P c.self.view_is (record {
      bytes = clear-bytes s.bytes.items s.sectors after s.sizes c.args.slot
          (record { area = c.self.invariant; inside = lt; chains = c.release.ensures.chain; apart = c.release.ensures.apart });
      others = λ j ne. ap (λ xs. get_or xs j []) c.release.ensures.chain ∙ get_or-set_other s.sectors.chains c.args.slot j [] [] ne;
      left = omega (arith, c.release.ensures.left, c.self.invariant.lengths c.args.slot lt, length-slot s.bytes.items s.sectors.chains s.sizes c.args.slot lt);
    })
