use Rattle.std.proofs.Common.{◌≡◌, ◌∙◌, ◌+◌, ◌-◌, length, refl, sym, subst, ap, arith, length-set}
use Rattle.word_store.proofs.Rows.{length-with_words}
use Rattle.kernel_lists.specs.HunkLoader.RelocatedWords.{relocated}
use Rattle.kernel_lists.proofs.HunkLoader.PlacedHunks.{HunksLeft, first_inside, hunk_first, hunks_begin, hunks_done, hunks_then, row_behind}
use Rattle.kernel_lists.proofs.hunk_loader.placement.place_hunks.Goals as goal

pub address_of-lengths-requires : goal.address_of-lengths-requires
address_of-lengths-requires g c = (let fits = c.requires.1 in omega (arith, fits.inside))

pub address_of-base-requires : goal.address_of-base-requires
address_of-base-requires g c = (let fits = c.requires.1 in omega (arith, fits.inside, fits.all, c.address_of-lengths.ensures))

pub loop-i-init : goal.loop-i-init
loop-i-init g c = record {
  all = λ hunks f.
      subst (λ b. HunksLeft (g.X.TextBytes.text c.args.text.now) c.args.store.now 0 (c.args.m + 2 + 0) b (c.args.count - 0) (row_behind c.args.store.now c.args.m c.args.count hunks.hunks))
      (sym (c.address_of-base.ensures ∙ ap (λ z. z + c.args.count) c.address_of-lengths.ensures))
      (hunks_begin _ _ c.args.m c.args.count hunks (c.args.m + 2 + 0) (c.args.count - 0) f (omega arith) (omega arith));
  size = refl;
}

pub place_hunk-hunk-requires : goal.place_hunk-hunk-requires
place_hunk-hunk-requires g c =
    let l = c.loop-i.invariant.all c.requires.0 c.requires.1 in
    let f = hunk_first _ _ _ _ _ _ (c.args.count - (c.loop-i.i + 1)) _ l (omega arith) in
    let inside = first_inside _ _ _ _ _ _ _ _ l f in
    (f.h, f.others, f.follow, omega arith)

pub address_of-base-requires-in-loop-i : goal.address_of-base-requires-in-loop-i
address_of-base-requires-in-loop-i g c =
    let l = c.loop-i.invariant.all c.requires.0 c.requires.1 in
    let f = hunk_first _ _ _ _ _ _ (c.args.count - (c.loop-i.i + 1)) _ l (omega arith) in
    let inside = first_inside _ _ _ _ _ _ _ _ l f in
    let same = c.place_hunk-hunk.ensures.count f.h f.others f.follow in
    let words = c.place_hunk-hunk.ensures.words f.h f.others f.follow (omega arith) in
    omega (
      arith,
      ap length c.set_word_at.ensures,
      length-set c.place_hunk-hunk.new.store (c.address_of-lengths.result + c.loop-i.i) c.place_hunk-hunk.result.length,
      ap length words,
      length-with_words c.loop-i.store c.loop-i.base (relocated c.loop-i.base f.h.words f.h.relocations),
    )

pub loop-i-preserved : goal.loop-i-preserved
loop-i-preserved g c =
    let text = g.X.TextBytes.text c.args.text.now in
    let s = c.loop-i.store in
    let base = c.loop-i.base in
    let many = c.args.count - c.loop-i.i in
    let left = c.args.count - (c.loop-i.i + 1) in
    let at = c.args.m + 2 + c.loop-i.i in
    let next = c.args.m + 2 + (c.loop-i.i + 1) in
    let t = c.place_hunk-hunk.new.store in
    let n = c.place_hunk-hunk.result.length in
    let end = c.place_hunk-hunk.result.end in
    let e = c.place_hunk-hunk.ensures in
    let l0 = c.loop-i.invariant.all c.requires.0 c.requires.1 in
    let f0 = hunk_first _ _ _ _ _ _ left _ l0 (omega arith) in
    let inside0 = first_inside _ _ _ _ _ _ _ _ l0 f0 in
    let words0 = e.words f0.h f0.others f0.follow (omega arith) in
    let size : length c.set_word_at.new.store ≡ length s
    = ap length c.set_word_at.ensures ∙ length-set t (c.address_of-lengths.result + c.loop-i.i) n ∙ ap length words0 ∙ length-with_words s base (relocated base f0.h.words f0.h.relocations)
    in
    record {
      all = λ hunks fits.
          (let l = c.loop-i.invariant.all hunks fits in
          let f = hunk_first _ _ _ _ _ _ left _ l (omega arith) in
          let inside = first_inside _ _ _ _ _ _ _ _ l f in
          let result = row_behind c.args.store.now c.args.m c.args.count hunks.hunks in
          let words = e.words f.h f.others f.follow (omega arith) in
          hunks_then text s t c.set_word_at.new.store c.loop-i.place at (c.address_of-lengths.result + c.loop-i.i) next base c.address_of-base-in-loop-i.result n many left end result l f (omega arith) words
          (e.others f.h f.others f.follow) (e.count f.h f.others f.follow) (omega arith) (ap (λ z. z + c.loop-i.i) c.address_of-lengths.ensures) c.address_of-base-in-loop-i.ensures c.set_word_at.ensures);
      size = size ∙ c.loop-i.invariant.size;
    }

pub returns : goal.returns
returns g c = λ hunks fits. hunks_done _ _ _ _ _ _ _ (c.loop-i.invariant.all hunks fits) (omega arith)
