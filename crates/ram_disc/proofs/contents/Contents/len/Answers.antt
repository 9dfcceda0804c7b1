use Rattle.std.proofs.Common.{length, sym, ap, ◌∙◌, arith}
use Rattle.ram_disc.specs.Contents.{Area, bytes_at}
use Rattle.ram_disc.proofs.ContentsLemmas.{length-slot}
use Rattle.ram_disc.proofs.contents.Contents.len.Goals as goal

pub returns : goal.returns
returns c =
    let s = c.self.inside in
    sym (ap (λ (x : Area). length (bytes_at x c.args.slot)) (sym c.self.view_is)
    ∙ length-slot s.bytes.items s.sectors.chains s.sizes c.args.slot (omega (arith, c.self.invariant.slots, c.requires)))
