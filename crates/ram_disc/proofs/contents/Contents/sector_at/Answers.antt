use Rattle.std.proofs.Common.{◌≡◌, ◌<◌, length, get_or, sym, ap, ◌∙◌, arith}
use Rattle.ram_disc.specs.Contents.{Area, bytes_at}
use Rattle.ram_disc.proofs.ContentsLemmas.{length-slot, size-below}
use Rattle.ram_disc.proofs.contents.Contents.sector_at.Goals as goal

pub returns-then-position-self : goal.returns-then-position-self
returns-then-position-self c within =
    let s = c.self.inside in
    let lt : c.args.slot < length s.sizes = omega (arith, c.self.invariant.slots, c.requires) in
    let size : length (bytes_at c.args.self.now c.args.slot) ≡ get_or s.sizes c.args.slot 0 =
    ap (λ (x : Area). length (bytes_at x c.args.slot)) (sym c.self.view_is) ∙ length-slot s.bytes.items s.sectors.chains s.sizes c.args.slot lt in
    absurd (omega (arith, size, within, c.if-position-self.true))

pub overflow_cast-position : goal.overflow_cast-position
overflow_cast-position c =
    let s = c.self.inside in
    let lt : c.args.slot < length s.sizes = omega (arith, c.self.invariant.slots, c.requires) in
    omega (arith, c.if-position-self.false, size-below s.bytes.items s.sectors s.sizes c.args.slot c.self.invariant lt)

pub nth-requires-clause-within : goal.nth-requires-clause-within
nth-requires-clause-within c =
    let s = c.self.inside in
    let lt : c.args.slot < length s.sizes = omega (arith, c.self.invariant.slots, c.requires) in
    omega (arith, c.if-position-self.false, c.self.invariant.lengths c.args.slot lt)
