use Rattle.std.proofs.Common.{◌≡◌, ℕ, ◌+◌, ◌-◌, ◌<◌, [], ◌∷◌, ◌++◌, ap, get_or, length, subst, sym, ◌∙◌, arith}
use Rattle.std.specs.List.{range_with_len}
use Rattle.debugger.proofs.UndoJournal.FormerWordLemmas.{AreNoted, AreNoted_more, former_words-same, length-former_at-le, range_with_len-append, same_words, with_new_words-same}
use Rattle.debugger.proofs.UndoJournal.RingLemmas.{ring_with-none}
use Rattle.debugger.specs.UndoJournal.Private.Rings.{ring_with}
use Rattle.debugger.proofs.undo_journal.former_words.note_block.Goals as goal

-- the words of the block are the same
same : (c : goal.Then-are_same_words) → (i : ℕ) → i < c.args.end - c.args.first
    → get_or c.args.latest.now (c.args.first + i) 0 ≡ get_or c.args.store.now (c.args.first + i) 0
same c = same_words c.args.latest.now c.args.store.now c.args.first c.args.end (sym c.are_same_words.ensures ∙ c.if-are_same_words.true)

pub loop-address-preserved : goal.loop-address-preserved
loop-address-preserved c =
    let l = c.loop-address in
    let first = c.args.first in
    let old = c.args.latest.now in
    let new = c.args.store.now in
    let before_it = l.address - first in
    let ats = range_with_len first before_it in
    let step = c.note_word-count in
    let inv = l.invariant in
    let one-more : range_with_len first (l.address + 1 - first) ≡ ats ++ l.address ∷ [] =
    let count : l.address + 1 - first ≡ before_it + 1 = omega arith in
    let last : first + before_it ≡ l.address = omega arith in
    ap (range_with_len first) count ∙ (range_with_len-append first before_it 1 ∙ ap (λ a. ats ++ a ∷ []) last) in
    let before : AreNoted old new ats c.args.former.now l.latest l.former l.count =
    record { sizes = inv.sizes; latest = inv.latest; room = inv.room; former = inv.former; count = inv.count } in
    let after =
    subst (λ all. AreNoted old new all c.args.former.now step.new.latest step.new.former (l.count + step.result)) (sym one-more)
    (AreNoted_more old new ats l.address c.args.former.now l.latest step.new.latest l.former step.new.former l.count step.result before c.requires.sizes
    step.ensures.latest step.ensures.former step.ensures.count) in
    record {
      sizes = after.sizes;
      latest = after.latest;
      room = after.room;
      former = after.former;
      count = after.count;
      most = omega (arith, inv.most, step.ensures.count, length-former_at-le l.latest new l.address);
    }

pub returns-then-are_same_words-clause-latest : goal.returns-then-are_same_words-clause-latest
returns-then-are_same_words-clause-latest c = sym (with_new_words-same c.args.latest.now c.args.store.now c.args.first (c.args.end - c.args.first) (same c))

pub returns-then-are_same_words-clause-former : goal.returns-then-are_same_words-clause-former
returns-then-are_same_words-clause-former c =
    sym (ring_with-none c.args.former.now c.requires.room)
    ∙ ap (ring_with c.args.former.now) (sym (former_words-same c.args.latest.now c.args.store.now c.args.first (c.args.end - c.args.first) (same c)))

pub returns-then-are_same_words-clause-count : goal.returns-then-are_same_words-clause-count
returns-then-are_same_words-clause-count c = ap length (sym (former_words-same c.args.latest.now c.args.store.now c.args.first (c.args.end - c.args.first) (same c)))
