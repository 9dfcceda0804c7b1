use Rattle.std.proofs.Common.{[], ◌≡◌, ◌+◌, ◌/◌, ◌<◌, length, get_or, sym, ap, ◌∙◌, arith}
use Rattle.ram_disc.specs.Contents.{Area, bytes_at, chain_at}
use Rattle.ram_disc.proofs.ContentsLemmas.{apart-below, length-slot, size-below}
use Rattle.ram_disc.proofs.contents.Contents.sector_after.Goals as goal
use Rattle.ram_disc.proofs.contents.Contents.sector_after.Goals.{else-next-eq0-via-then-next-eq0+else-next-size, else-next-eq0-via-else-next-eq0}

pub overflow_add-next : goal.overflow_add-next
overflow_add-next c =
    let s = c.self.inside in
    let lt : c.args.slot < length s.sizes = omega (arith, c.self.invariant.slots, c.requires.slot) in
    let size : length (bytes_at c.args.self.now c.args.slot) ≡ get_or s.sizes c.args.slot 0 =
    ap (λ (x : Area). length (bytes_at x c.args.slot)) (sym c.self.view_is) ∙ length-slot s.bytes.items s.sectors.chains s.sizes c.args.slot lt in
    omega (arith, size, c.requires.within, size-below s.bytes.items s.sectors s.sizes c.args.slot c.self.invariant lt)

pub next-requires : goal.next-requires
next-requires c =
    let s = c.self.inside in
    let lt : c.args.slot < length s.sizes = omega (arith, c.self.invariant.slots, c.requires.slot) in
    let size : length (bytes_at c.args.self.now c.args.slot) ≡ get_or s.sizes c.args.slot 0 =
    ap (λ (x : Area). length (bytes_at x c.args.slot)) (sym c.self.view_is) ∙ length-slot s.bytes.items s.sectors.chains s.sizes c.args.slot lt in
    let within : c.args.position / 512 < length (get_or s.sectors.chains c.args.slot []) =
    omega (arith, size, c.requires.some, c.requires.within, c.self.invariant.lengths c.args.slot lt) in
    let same : chain_at c.args.self.now c.args.slot ≡ get_or s.sectors.chains c.args.slot [] = ap (λ (x : Area). chain_at x c.args.slot) (sym c.self.view_is) in
    omega (
      arith,
      apart-below s.sectors c.args.slot (c.args.position / 512) c.self.invariant.apart (omega (arith, c.self.invariant.apart.slots, c.requires.slot)) within,
      c.requires.sector,
      ap (λ xs. get_or xs (c.args.position / 512) 0) same,
    )

pub returns-else-next-eq0-clause-sector : goal.returns-else-next-eq0-clause-sector
returns-else-next-eq0-clause-sector c within =
    let s = c.self.inside in
    let lt : c.args.slot < length s.sizes = omega (arith, c.self.invariant.slots, c.requires.slot) in
    let size : length (bytes_at c.args.self.now c.args.slot) ≡ get_or s.sizes c.args.slot 0 =
    ap (λ (x : Area). length (bytes_at x c.args.slot)) (sym c.self.view_is) ∙ length-slot s.bytes.items s.sectors.chains s.sizes c.args.slot lt in
    elim c.else-next-eq0.branch [
      | else-next-eq0-via-then-next-eq0+else-next-size w ↦ absurd (omega (arith, within, size, w.if-next-size.false))
      | else-next-eq0-via-else-next-eq0 w ↦ (
          let same : c.args.position / 512 ≡ (c.args.position + c.args.count) / 512 = omega (arith, c.requires.inside, w.if-next-eq0.false) in
          c.requires.sector ∙ ap (λ i. get_or (chain_at c.args.self.now c.args.slot) i 0) same
          )
    ]

pub returns-else-next-eq0-clause-end : goal.returns-else-next-eq0-clause-end
returns-else-next-eq0-clause-end c =
    let s = c.self.inside in
    let lt : c.args.slot < length s.sizes = omega (arith, c.self.invariant.slots, c.requires.slot) in
    let size : length (bytes_at c.args.self.now c.args.slot) ≡ get_or s.sizes c.args.slot 0 =
    ap (λ (x : Area). length (bytes_at x c.args.slot)) (sym c.self.view_is) ∙ length-slot s.bytes.items s.sectors.chains s.sizes c.args.slot lt in
    omega (arith, size, c.requires.within, size-below s.bytes.items s.sectors s.sizes c.args.slot c.self.invariant lt)
