use Rattle.std.proofs.Common.{◌≡◌, ◌∙◌, ℕ, ◌+◌, ◌<◌, ◌≤◌, List, length, slice_index, slice_range, sym, ap, subst, refl, arith}
use Rattle.std.proofs.lemmas.Bool.{false≢true}
use Rattle.kernel_lists.specs.HunkLoader.Globals.{highest}
use Rattle.kernel_lists.specs.HunkLoader.ModuleHunks.{hunk_count, module_end}
use Rattle.kernel_lists.proofs.HunkLoader.HunkWalk.{FitLeft, fit_begin, fit_end, fit_more, fit_none, hunk_room, module_inside}
use Rattle.kernel_lists.proofs.hunk_loader.globals.globals_fit.Goals as goal

pub address_of-lengths-requires : goal.address_of-lengths-requires
address_of-lengths-requires c =
    let inside = module_inside c.args.store.now c.args.m c.requires.modules c.requires.listed in
    omega arith

pub address_of-base-requires : goal.address_of-base-requires
address_of-base-requires c =
    let inside = module_inside c.args.store.now c.args.m c.requires.modules c.requires.listed in
    omega (arith, c.word_at-count.ensures, c.address_of-lengths.ensures)

pub loop-i-init : goal.loop-i-init
loop-i-init c = fit_begin c.args.store.now c.args.m 0 _ refl (omega (arith, c.word_at-count.ensures, c.address_of-lengths.ensures, c.address_of-base.ensures))

-- the next hunk lies in the store
room : (s : List ℕ) (m i base count n lengths : ℕ) → FitLeft s m i base → module_end s m + 2 ≤ length s → count ≡ hunk_count s m → i < count → lengths ≡ m + 2
    → n ≡ slice_index s (lengths + i) → base + n ≤ length s
room s m i base count n lengths l inside e lt at is =
    let r = hunk_room s m i base (omega arith) inside l.room in
    let same : n ≡ slice_index s (m + 2 + i) = is ∙ ap (λ z. slice_index s (z + i)) at in
    omega arith

pub highest-requires : goal.highest-requires
highest-requires c =
    let inside = module_inside c.args.store.now c.args.m c.requires.modules c.requires.listed in
    room c.args.store.now c.args.m c.loop-i.i c.loop-i.base c.word_at-count.result c.word_at-length.result c.address_of-lengths.result c.loop-i.invariant inside
    c.word_at-count.ensures c.loop-i-test.true c.address_of-lengths.ensures c.word_at-length.ensures

pub address_of-base-requires-in-loop-i : goal.address_of-base-requires-in-loop-i
address_of-base-requires-in-loop-i c =
    let inside = module_inside c.args.store.now c.args.m c.requires.modules c.requires.listed in
    room c.args.store.now c.args.m c.loop-i.i c.loop-i.base c.word_at-count.result c.word_at-length.result c.address_of-lengths.result c.loop-i.invariant inside
    c.word_at-count.ensures c.loop-i-test.true c.address_of-lengths.ensures c.word_at-length.ensures

-- the answer of highest, as that of the hunk
hunk_highest : (s : List ℕ) (m i base n lengths h : ℕ) → lengths ≡ m + 2 → n ≡ slice_index s (lengths + i) → h ≡ highest (slice_range s base (base + n))
    → h ≡ highest (slice_range s base (base + slice_index s (m + 2 + i)))
hunk_highest s m i base n lengths h at is top = top ∙ ap (λ (x : ℕ). highest (slice_range s base (base + x))) (is ∙ ap (λ z. slice_index s (z + i)) at)

pub returns-then-highest-gt-MOST_GLOBALS : goal.returns-then-highest-gt-MOST_GLOBALS
returns-then-highest-gt-MOST_GLOBALS c =
    let s = c.args.store.now in
    let inside = module_inside s c.args.m c.requires.modules c.requires.listed in
    let over = c.if-highest-gt-MOST_GLOBALS.true in (
      λ e. absurd (false≢true e),
      λ fit.
          (let lt = c.loop-i-test.true in
          let here = fit_none s c.args.m c.loop-i.i c.loop-i.base (omega (arith, c.word_at-count.ensures)) inside c.loop-i.invariant fit in
          let same = hunk_highest s c.args.m c.loop-i.i c.loop-i.base c.word_at-length.result c.address_of-lengths.result c.highest.result c.address_of-lengths.ensures c.word_at-length.ensures c.highest.ensures in
          absurd (omega arith)),
    )

pub loop-i-preserved : goal.loop-i-preserved
loop-i-preserved c =
    let s = c.args.store.now in
    let m = c.args.m in
    let i = c.loop-i.i in
    let inside = module_inside s m c.requires.modules c.requires.listed in
    let few = c.if-highest-gt-MOST_GLOBALS.false in
    let lt = c.loop-i-test.true in
    let same = hunk_highest s m i c.loop-i.base c.word_at-length.result c.address_of-lengths.result c.highest.result c.address_of-lengths.ensures c.word_at-length.ensures c.highest.ensures in
    let more = fit_more s m i c.loop-i.base (omega (arith, c.word_at-count.ensures)) inside c.loop-i.invariant (omega arith) in
    let base : c.address_of-base-in-loop-i.result ≡ c.loop-i.base + slice_index s (m + 2 + i)
    = c.address_of-base-in-loop-i.ensures ∙ ap (λ x. c.loop-i.base + x) (c.word_at-length.ensures ∙ ap (λ z. slice_index s (z + i)) c.address_of-lengths.ensures) in
    subst (FitLeft s m (i + 1)) (sym base) more

pub returns : goal.returns
returns c =
    let fit = fit_end c.args.store.now c.args.m c.loop-i.i c.loop-i.base (omega (arith, c.word_at-count.ensures)) c.loop-i.invariant in
    (λ e. fit, λ f. refl)
