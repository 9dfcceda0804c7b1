use Rattle.std.proofs.Common.{◌≡◌, ◌++◌, ◌+◌, ◌*◌, ◌%◌, ◌<◌, ◌≤◌, length, get_or, set, take, drop, refl, sym, subst, ap, ◌∙◌, arith, take_at}
use Rattle.ram_disc.specs.Contents.{Adds, Area, IsArea, all_bytes, bytes_at, with_piece}
use Rattle.ram_disc.proofs.ContentsLemmas.{Pushes, at-inside, length-slot, push-area, push-bytes, size-below}
use Rattle.ram_disc.proofs.PutBytes.{length-with_piece}
use Rattle.ram_disc.proofs.contents.Contents.push.Goals as goal

pub sector_to_write-sector-requires-clause-slots : goal.sector_to_write-sector-requires-clause-slots
sector_to_write-sector-requires-clause-slots c = c.self.invariant.apart.slots

pub sector_to_write-sector-requires-clause-size : goal.sector_to_write-sector-requires-clause-size
sector_to_write-sector-requires-clause-size c =
    let s = c.self.inside in
    let lt : c.args.slot < length s.sizes = omega (arith, c.requires.slot, c.self.told) in
    c.self.invariant.lengths c.args.slot lt

pub sector_to_write-sector-requires-clause-room : goal.sector_to_write-sector-requires-clause-room
sector_to_write-sector-requires-clause-room c =
    let s = c.self.inside in
    let lt : c.args.slot < length s.sizes = omega (arith, c.requires.slot, c.self.told) in
    omega (
      arith,
      c.requires.some,
      c.requires.fits,
      c.requires.room,
      ap (λ (x : Area). length (bytes_at x c.args.slot)) c.self.view_is,
      ap (λ (x : Area). x.left) c.self.view_is,
      length-slot s.bytes.items s.sectors.chains s.sizes c.args.slot lt,
    )

pub overflow_add-self : goal.overflow_add-self
overflow_add-self c =
    let s = c.self.inside in
    let lt : c.args.slot < length s.sizes = omega (arith, c.requires.slot, c.self.told) in
    omega (arith, c.requires.fits, size-below s.bytes.items s.sectors s.sizes c.args.slot c.self.invariant lt)

pub put_at-requires : goal.put_at-requires
put_at-requires c =
    let s = c.self.inside in
    let lt : c.args.slot < length s.sizes = omega (arith, c.requires.slot, c.self.told) in
    let n = get_or s.sizes c.args.slot 0 in
    let fits : n % 512 + length c.args.bytes.now ≤ 512 =
    omega (arith, c.requires.fits, ap (λ (x : Area). length (bytes_at x c.args.slot)) c.self.view_is, length-slot s.bytes.items s.sectors.chains s.sizes c.args.slot lt) in
    let pushes : Pushes s.bytes.items s.sectors c.sector_to_write-sector.new.sectors s.sizes c.args.slot n c.sector_to_write-sector.result c.args.bytes.now =
    record { area = c.self.invariant; reserves = c.sector_to_write-sector.ensures; inside = lt; is = refl; some = c.requires.some; fits = fits } in
    omega (
      arith,
      c.place.ensures,
      ap length c.as_mut_slice.ensures.value,
      at-inside s.bytes.items s.sectors c.sector_to_write-sector.new.sectors s.sizes c.args.slot n c.sector_to_write-sector.result c.args.bytes.now pushes,
    )

pub invariant_of-self : goal.invariant_of-self
invariant_of-self c =
    let s = c.self.inside in
    let lt : c.args.slot < length s.sizes = omega (arith, c.requires.slot, c.self.told) in
    let n = get_or s.sizes c.args.slot 0 in
    let after = c.sector_to_write-sector.new.sectors in
    let list = c.put_at.new.list in
    let fits : n % 512 + length c.args.bytes.now ≤ 512 =
    omega (arith, c.requires.fits, ap (λ (x : Area). length (bytes_at x c.args.slot)) c.self.view_is, length-slot s.bytes.items s.sectors.chains s.sizes c.args.slot lt) in
    let pushes : Pushes s.bytes.items s.sectors after s.sizes c.args.slot n c.sector_to_write-sector.result c.args.bytes.now =
    record { area = c.self.invariant; reserves = c.sector_to_write-sector.ensures; inside = lt; is = refl; some = c.requires.some; fits = fits } in
    let written : list ≡ with_piece s.bytes.items (512 * c.sector_to_write-sector.result + n % 512) c.args.bytes.now =
    c.put_at.ensures ∙ (λ i. with_piece (c.as_mut_slice.ensures.value i) (c.place.ensures i) c.args.bytes.now) in
    let long : length list ≡ s.bytes.len =
    omega (
      arith,
      s.bytes.ok.0,
      ap length written,
      length-with_piece s.bytes.items (512 * c.sector_to_write-sector.result + n % 512) c.args.bytes.now
          (at-inside s.bytes.items s.sectors after s.sizes c.args.slot n c.sector_to_write-sector.result c.args.bytes.now pushes),
    ) in
    subst (λ xs. IsArea xs after (set s.sizes c.args.slot (n + length c.args.bytes.now)))
    (sym (take_at list (drop (length list) s.bytes.items) s.bytes.len long ∙ written))
    (push-area s.bytes.items s.sectors after s.sizes c.args.slot n c.sector_to_write-sector.result c.args.bytes.now pushes)

pub returns : goal.returns
returns c =
    let s = c.self.inside in
    let lt : c.args.slot < length s.sizes = omega (arith, c.requires.slot, c.self.told) in
    let n = get_or s.sizes c.args.slot 0 in
    let after = c.sector_to_write-sector.new.sectors in
    let list = c.put_at.new.list in
    let sizes = set s.sizes c.args.slot (n + length c.args.bytes.now) in
    let size = length-slot s.bytes.items s.sectors.chains s.sizes c.args.slot lt in
    let fits : n % 512 + length c.args.bytes.now ≤ 512 = omega (arith, c.requires.fits, ap (λ (x : Area). length (bytes_at x c.args.slot)) c.self.view_is, size) in
    let pushes : Pushes s.bytes.items s.sectors after s.sizes c.args.slot n c.sector_to_write-sector.result c.args.bytes.now =
    record { area = c.self.invariant; reserves = c.sector_to_write-sector.ensures; inside = lt; is = refl; some = c.requires.some; fits = fits } in
    let written : list ≡ with_piece s.bytes.items (512 * c.sector_to_write-sector.result + n % 512) c.args.bytes.now =
    c.put_at.ensures ∙ (λ i. with_piece (c.as_mut_slice.ensures.value i) (c.place.ensures i) c.args.bytes.now) in
    let long : length list ≡ s.bytes.len =
    omega (
      arith,
      s.bytes.ok.0,
      ap length written,
      length-with_piece s.bytes.items (512 * c.sector_to_write-sector.result + n % 512) c.args.bytes.now
          (at-inside s.bytes.items s.sectors after s.sizes c.args.slot n c.sector_to_write-sector.result c.args.bytes.now pushes),
    ) in
    let P : Area → Type 0 = λ a. Adds a
    (record { chains = after.chains; bytes = all_bytes (take s.bytes.len (list ++ drop (length list) s.bytes.items)) after.chains sizes; left = after.left })
    c.args.slot c.args.bytes.now in
    subst P c.self.view_is (record {
      bytes = ap (λ xs. all_bytes xs after.chains sizes) (take_at list (drop (length list) s.bytes.items) s.bytes.len long ∙ written)
          ∙ push-bytes s.bytes.items s.sectors after s.sizes c.args.slot n c.sector_to_write-sector.result c.args.bytes.now pushes;
      others = c.sector_to_write-sector.ensures.others;
      left = omega (arith, c.sector_to_write-sector.ensures.left, size, c.requires.some, fits);
    })
