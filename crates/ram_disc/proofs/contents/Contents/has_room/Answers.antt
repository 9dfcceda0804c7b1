use Rattle.std.proofs.Common.{◌≡◌, length, get_or, sym, ap, ◌∙◌, arith}
use Rattle.std.proofs.lemmas.Bool.{le-leb, leb-true}
use Rattle.ram_disc.specs.Contents.{Area, bytes_at}
use Rattle.ram_disc.proofs.ContentsLemmas.{length-slot}
use Rattle.ram_disc.proofs.contents.Contents.has_room.Goals as goal

pub returns : goal.returns
returns c =
    let s = c.self.inside in
    let size : length (bytes_at c.args.self.now c.args.slot) ≡ get_or s.sizes c.args.slot 0 =
    ap (λ (x : Area). length (bytes_at x c.args.slot)) (sym c.self.view_is)
    ∙ length-slot s.bytes.items s.sectors.chains s.sizes c.args.slot (omega (arith, c.self.invariant.slots, c.requires.slot)) in
    let left : c.args.self.now.left ≡ s.sectors.left = ap (λ (x : Area). x.left) (sym c.self.view_is) in
    (λ t. omega (arith, leb-true _ _ t, size, left), λ h. le-leb _ _ (omega (arith, h, size, left)))
