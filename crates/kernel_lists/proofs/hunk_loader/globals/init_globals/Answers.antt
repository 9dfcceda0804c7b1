use Rattle.std.proofs.Common.{◌≡◌, ◌∙◌, ℕ, ◌+◌, ◌<◌, ◌≤◌, List, length, slice_index, refl, sym, ap, subst, arith}
use Rattle.std.specs.Prelude.{slice_range}
use Rattle.kernel_lists.specs.HunkLoader.Globals.{globals_of_hunk}
use Rattle.kernel_lists.specs.HunkLoader.ModuleHunks.{hunk_count, module_end, placed}
use Rattle.kernel_lists.proofs.HunkLoader.GlobalLists.{length-with_globals}
use Rattle.kernel_lists.proofs.HunkLoader.HunkWalk.{SetLeft, hunk_clear, hunk_room, module_inside, set_begin, set_end, set_more}
use Rattle.kernel_lists.proofs.hunk_loader.globals.init_globals.Goals as goal

pub address_of-lengths-requires : goal.address_of-lengths-requires
address_of-lengths-requires c =
    let inside = module_inside c.args.store.now c.args.m c.requires.modules c.requires.listed in
    omega arith

pub address_of-base-requires : goal.address_of-base-requires
address_of-base-requires c =
    let inside = module_inside c.args.store.now c.args.m c.requires.modules c.requires.listed in
    omega (arith, c.word_at-count.ensures, c.address_of-lengths.ensures)

pub loop-i-init : goal.loop-i-init
loop-i-init c = set_begin c.args.store.now c.args.m c.args.g 0 _ refl (omega (arith, c.word_at-count.ensures, c.address_of-lengths.ensures, c.address_of-base.ensures))

-- the next hunk lies in the module
room : (s t : List ℕ) (m g i base count n lengths : ℕ) → SetLeft s t m g i base → module_end s m + 2 ≤ length s → count ≡ hunk_count s m → i < count → lengths ≡ m + 2
    → n ≡ slice_index t (lengths + i) → base + n ≤ module_end s m
room s t m g i base count n lengths l inside e lt at is =
    let above = l.above in
    let here : n ≡ slice_index t (m + 2 + i) = is ∙ ap (λ z. slice_index t (z + i)) at in
    let r = hunk_room s m i base (omega arith) inside l.room in
    let same = l.same (m + 2 + i) (omega arith) (omega arith) in
    omega arith

pub init_hunk-requires-clause-hunk : goal.init_hunk-requires-clause-hunk
init_hunk-requires-clause-hunk c =
    let inside = module_inside c.args.store.now c.args.m c.requires.modules c.requires.listed in
    let r = room c.args.store.now c.loop-i.store c.args.m c.args.g c.loop-i.i c.loop-i.base c.word_at-count.result c.word_at-length.result c.address_of-lengths.result c.loop-i.invariant inside
    c.word_at-count.ensures c.loop-i-test.true c.address_of-lengths.ensures c.word_at-length.ensures in
    omega (arith, c.loop-i.invariant.size)

pub init_hunk-requires-clause-clear : goal.init_hunk-requires-clause-clear
init_hunk-requires-clause-clear c =
    let s = c.args.store.now in
    let inside = module_inside s c.args.m c.requires.modules c.requires.listed in
    let r = room s c.loop-i.store c.args.m c.args.g c.loop-i.i c.loop-i.base c.word_at-count.result c.word_at-length.result c.address_of-lengths.result c.loop-i.invariant inside
    c.word_at-count.ensures c.loop-i-test.true c.address_of-lengths.ensures c.word_at-length.ensures in
    hunk_clear s c.args.m c.args.g c.loop-i.base c.word_at-length.result c.requires.clear c.loop-i.invariant.above r

pub address_of-base-requires-in-loop-i : goal.address_of-base-requires-in-loop-i
address_of-base-requires-in-loop-i c =
    let s = c.args.store.now in
    let inside = module_inside s c.args.m c.requires.modules c.requires.listed in
    let r = room s c.loop-i.store c.args.m c.args.g c.loop-i.i c.loop-i.base c.word_at-count.result c.word_at-length.result c.address_of-lengths.result c.loop-i.invariant inside
    c.word_at-count.ensures c.loop-i-test.true c.address_of-lengths.ensures c.word_at-length.ensures in
    omega (arith, c.loop-i.invariant.size, ap length c.init_hunk.ensures, length-with_globals c.loop-i.store c.args.g (globals_of_hunk (placed c.loop-i.base (slice_range c.loop-i.store c.loop-i.base (c.loop-i.base + c.word_at-length.result)))))

pub loop-i-preserved : goal.loop-i-preserved
loop-i-preserved c =
    let s = c.args.store.now in
    let inside = module_inside s c.args.m c.requires.modules c.requires.listed in
    let lt = c.loop-i-test.true in
    subst (SetLeft s c.init_hunk.new.store c.args.m c.args.g (c.loop-i.i + 1)) (sym c.address_of-base-in-loop-i.ensures)
    (set_more s c.loop-i.store c.init_hunk.new.store c.args.m c.args.g c.loop-i.i c.loop-i.base c.word_at-length.result (omega (arith, c.word_at-count.ensures)) inside c.requires.clear c.loop-i.invariant
    (c.word_at-length.ensures ∙ ap (λ z. slice_index c.loop-i.store (z + c.loop-i.i)) c.address_of-lengths.ensures) c.init_hunk.ensures)

pub returns : goal.returns
returns c = set_end c.args.store.now c.loop-i.store c.args.m c.args.g c.loop-i.i c.loop-i.base (omega (arith, c.word_at-count.ensures)) c.loop-i.invariant
