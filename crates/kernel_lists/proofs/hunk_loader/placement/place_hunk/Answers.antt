use Rattle.std.proofs.Common.{refl, arith}
use Rattle.kernel_lists.proofs.HunkLoader.PlacedHunks.{after_words, count_read, count_some, hunk_inside, hunk_placed, hunk_some, lists_follow}
use Rattle.kernel_lists.proofs.hunk_loader.placement.place_hunk.Goals as goal

pub read_word-kind-requires : goal.read_word-kind-requires
read_word-kind-requires g c = hunk_some _ _ _ _ c.requires.2

pub read_word-count-requires : goal.read_word-count-requires
read_word-count-requires g c = count_some _ _ _ _ c.requires.2 c.read_word-kind.result c.read_word-kind.ensures

pub address_of-after-requires : goal.address_of-after-requires
address_of-after-requires g c =
    let h = c.requires in
    let k = count_read _ _ _ _ h.2 c.args.base _ c.read_word-kind.result c.read_word-count.result c.read_word-kind.ensures c.read_word-count.ensures refl in
    let same = k.many in
    omega (arith, h.3)

pub copy_words-lists-requires : goal.copy_words-lists-requires
copy_words-lists-requires g c =
    let h = c.requires in
    let k = count_read _ _ _ _ h.2 c.args.base c.address_of-after.result c.read_word-kind.result c.read_word-count.result c.read_word-kind.ensures c.read_word-count.ensures c.address_of-after.ensures in
    (h.0.words, after_words _ _ _ _ h.2, k.follow)

pub relocate-end-requires : goal.relocate-end-requires
relocate-end-requires g c =
    let h = c.requires in
    let e = c.copy_words-lists.ensures in
    let k = count_read _ _ _ _ h.2 c.args.base c.address_of-after.result c.read_word-kind.result c.read_word-count.result c.read_word-kind.ensures c.read_word-count.ensures c.address_of-after.ensures in (
      h.2.is.lists,
      h.1,
      lists_follow _ _ _ _ h.2 c.copy_words-lists.result (e.others _ _ k.follow),
      hunk_inside _ _ _ _ h.2 c.args.base c.args.store.now c.copy_words-lists.new.store h.3 (e.words _ _ k.follow),
    )

pub returns-clause-words : goal.returns-clause-words
returns-clause-words g c = λ h others f fits.
    (let k = count_read _ _ h others f c.args.base c.address_of-after.result c.read_word-kind.result c.read_word-count.result c.read_word-kind.ensures c.read_word-count.ensures c.address_of-after.ensures in
    let e = c.copy_words-lists.ensures in
    let l = lists_follow _ _ h others f c.copy_words-lists.result (e.others _ _ k.follow) in
    hunk_placed _ _ h others f c.args.base c.args.store.now c.copy_words-lists.new.store c.relocate-end.new.store fits (e.words _ _ k.follow) (c.relocate-end.ensures.words _ _ l))

pub returns-clause-count : goal.returns-clause-count
returns-clause-count g c = λ h others f.
    (count_read _ _ h others f c.args.base c.address_of-after.result c.read_word-kind.result c.read_word-count.result c.read_word-kind.ensures c.read_word-count.ensures c.address_of-after.ensures).many

pub returns-clause-others : goal.returns-clause-others
returns-clause-others g c = λ h others f.
    (let k = count_read _ _ h others f c.args.base c.address_of-after.result c.read_word-kind.result c.read_word-count.result c.read_word-kind.ensures c.read_word-count.ensures c.address_of-after.ensures in
    let l = lists_follow _ _ h others f c.copy_words-lists.result (c.copy_words-lists.ensures.others _ _ k.follow) in
    c.relocate-end.ensures.others _ _ l)
