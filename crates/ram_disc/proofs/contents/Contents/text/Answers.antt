use Rattle.std.proofs.Common.{◌<◌, length, get_or, sym, ap, ◌∙◌, arith}
use Rattle.ram_disc.specs.Contents.{Area, bytes_at, bytes_in, place_in}
use Rattle.ram_disc.proofs.ContentsLemmas.{get_or-all_bytes, place-inside}
use Rattle.ram_disc.proofs.contents.Contents.text.Goals as goal

pub new-requires-clause-size : goal.new-requires-clause-size
new-requires-clause-size c =
    let s = c.self.inside in
    omega (
      arith,
      ap length c.as_slice-2.ensures.value,
      ap length c.list.ensures.sectors,
      c.self.invariant.lengths c.args.slot (omega (arith, c.self.invariant.slots, c.requires)),
    )

pub new-requires-clause-inside : goal.new-requires-clause-inside
new-requires-clause-inside c p h =
    let s = c.self.inside in
    let lt : c.args.slot < length s.sizes = omega (arith, c.self.invariant.slots, c.requires) in
    omega (
      arith,
      place-inside s.bytes.items s.sectors s.sizes c.args.slot p c.self.invariant lt h,
      ap length c.as_slice.ensures.value,
      ap (λ xs. place_in xs p) (c.as_slice-2.ensures.value ∙ c.list.ensures.sectors),
    )

pub returns : goal.returns
returns c =
    let s = c.self.inside in
    let lt : c.args.slot < length s.sizes = omega (arith, c.self.invariant.slots, c.requires) in
    c.new.ensures
    ∙ ap (λ xs. bytes_in xs c.as_slice-2.result.now (get_or s.sizes c.args.slot 0)) c.as_slice.ensures.value
    ∙ ap (λ xs. bytes_in s.bytes.items xs (get_or s.sizes c.args.slot 0)) (c.as_slice-2.ensures.value ∙ c.list.ensures.sectors)
    ∙ sym (get_or-all_bytes s.bytes.items s.sectors.chains s.sizes c.args.slot lt)
    ∙ ap (λ (x : Area). bytes_at x c.args.slot) c.self.view_is
