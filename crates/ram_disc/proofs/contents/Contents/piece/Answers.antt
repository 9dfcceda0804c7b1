use Rattle.std.proofs.Common.{[], ◌≡◌, ◌+◌, ◌/◌, ◌%◌, ◌<◌, ◌≤◌, length, get_or, take, drop, sym, ap, ◌∙◌, arith}
use Rattle.std.specs.List.{between}
use Rattle.std.proofs.lemmas.List.Edits.{length-between}
use Rattle.ram_disc.specs.Contents.{Area, bytes_at, chain_at, place_in}
use Rattle.ram_disc.proofs.ContentsLemmas.{length-slot, piece-is, row-inside}
use Rattle.ram_disc.proofs.contents.Contents.piece.Goals as goal

pub slice_bounds-result-end : goal.slice_bounds-result-end
slice_bounds-result-end c =
    let s = c.self.inside in
    let lt : c.args.slot < length s.sizes = omega (arith, c.self.invariant.slots, c.requires.slot) in
    let size : length (bytes_at c.args.self.now c.args.slot) ≡ get_or s.sizes c.args.slot 0 =
    ap (λ (x : Area). length (bytes_at x c.args.slot)) (sym c.self.view_is) ∙ length-slot s.bytes.items s.sectors.chains s.sizes c.args.slot lt in
    let same : chain_at c.args.self.now c.args.slot ≡ get_or s.sectors.chains c.args.slot [] = ap (λ (x : Area). chain_at x c.args.slot) (sym c.self.view_is) in
    let place : c.place-start.result ≡ place_in (get_or s.sectors.chains c.args.slot []) c.args.position =
    omega (arith, c.place-start.ensures, c.requires.sector, ap (λ xs. get_or xs (c.args.position / 512) 0) same) in
    let some : 0 < c.min-count.result = omega arith in
    let few : c.min-count.result ≤ c.args.most = omega arith in
    let inside : c.args.position % 512 + c.min-count.result ≤ 512 = omega arith in
    omega (
      arith,
      row-inside s.bytes.items s.sectors s.sizes c.args.slot c.args.position c.min-count.result c.place-start.result c.self.invariant lt some (omega (arith, c.requires.within, size, few)) inside place,
      ap length c.deref.ensures.value,
    )

pub returns-clause-bytes : goal.returns-clause-bytes
returns-clause-bytes c =
    let s = c.self.inside in
    let p = c.args.position in
    let n = c.min-count.result in
    let at = c.place-start.result in
    let lt : c.args.slot < length s.sizes = omega (arith, c.self.invariant.slots, c.requires.slot) in
    let size : length (bytes_at c.args.self.now c.args.slot) ≡ get_or s.sizes c.args.slot 0 =
    ap (λ (x : Area). length (bytes_at x c.args.slot)) (sym c.self.view_is) ∙ length-slot s.bytes.items s.sectors.chains s.sizes c.args.slot lt in
    let same : chain_at c.args.self.now c.args.slot ≡ get_or s.sectors.chains c.args.slot [] = ap (λ (x : Area). chain_at x c.args.slot) (sym c.self.view_is) in
    let place : at ≡ place_in (get_or s.sectors.chains c.args.slot []) p =
    omega (arith, c.place-start.ensures, c.requires.sector, ap (λ xs. get_or xs (c.args.position / 512) 0) same) in
    let some : 0 < n = omega arith in
    let few : n ≤ c.args.most = omega arith in
    let inside : p % 512 + n ≤ 512 = omega arith in
    let within : p + n ≤ get_or s.sizes c.args.slot 0 = omega (arith, c.requires.within, size, few) in
    let fits : at + n ≤ length s.bytes.items = row-inside s.bytes.items s.sectors s.sizes c.args.slot p n at c.self.invariant lt some within inside place in
    let bytes : between at (at + n) c.deref.result.now ≡ take n (drop p (bytes_at c.args.self.now c.args.slot)) =
    ap (between at (at + n)) c.deref.ensures.value ∙ piece-is s.bytes.items s.sectors.chains s.sizes c.args.slot p n at lt within inside place fits
    ∙ ap (λ (x : Area). take n (drop p (bytes_at x c.args.slot))) c.self.view_is in
    let long : length (between at (at + n) c.deref.result.now) ≡ n =
    omega (arith, length-between c.deref.result.now at (at + n) (omega (arith, fits, ap length c.deref.ensures.value))) in
    bytes ∙ ap (λ k. take k (drop p (bytes_at c.args.self.now c.args.slot))) (sym long)
