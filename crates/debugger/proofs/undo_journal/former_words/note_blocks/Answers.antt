use Rattle.std.proofs.Common.{◌≡◌, ℕ, ◌+◌, ◌-◌, ◌*◌, ◌/◌, ◌≤◌, ◌++◌, ap, length, subst, sym, ◌∙◌, arith}
use Rattle.std.specs.List.{range_with_len}
use Rattle.debugger.proofs.UndoJournal.FormerWordLemmas.{AreNoted, AreNoted_append, range_with_len-append}
use Rattle.debugger.proofs.undo_journal.former_words.note_blocks.Goals as goal

-- the addresses from the first one up to b are m addresses and the others from there
up_to : (first m b : ℕ) → first + m ≤ b → range_with_len first m ++ range_with_len (first + m) (b - (first + m)) ≡ range_with_len first (b - first)
up_to first m b low =
    let both : m + (b - (first + m)) ≡ b - first = omega arith in
    sym (range_with_len-append first m (b - (first + m))) ∙ ap (range_with_len first) both

pub loop-block-preserved : goal.loop-block-preserved
loop-block-preserved c =
    let l = c.loop-block in
    let old = c.args.latest.now in
    let new = c.args.store.now in
    let first = c.args.first in
    let start = first + l.block * 64 in
    let end = first + l.block * 64 + 64 in
    let step = c.note_block-count in
    let inv = l.invariant in
    let before : AreNoted old new (range_with_len first (l.block * 64)) c.args.former.now l.latest l.former l.count =
    record { sizes = inv.sizes; latest = inv.latest; room = inv.room; former = inv.former; count = inv.count } in
    let count : end - first ≡ (l.block + 1) * 64 = omega arith in
    let after =
    subst (λ all. AreNoted old new all c.args.former.now step.new.latest step.new.former (l.count + step.result))
    (up_to first (l.block * 64) end (omega arith) ∙ ap (range_with_len first) count)
    (AreNoted_append old new (range_with_len first (l.block * 64)) (range_with_len start (end - start)) c.args.former.now l.latest step.new.latest l.former step.new.former l.count
    step.result before c.requires.sizes step.ensures.latest step.ensures.former step.ensures.count) in
    record {
      sizes = after.sizes;
      latest = after.latest;
      room = after.room;
      former = after.former;
      count = after.count;
      most = omega (arith, inv.most, step.ensures.most);
    }

-- what is noted of the addresses
noted : (c : goal.After-note_block) → AreNoted c.args.latest.now c.args.store.now (range_with_len c.args.first (c.args.end - c.args.first)) c.args.former.now
    c.note_block.new.latest c.note_block.new.former (c.loop-block.count + c.note_block.result)
noted c =
    let l = c.loop-block in
    let old = c.args.latest.now in
    let new = c.args.store.now in
    let first = c.args.first in
    let end = c.args.end in
    let whole = (end - first) / 64 * 64 in
    let rest = c.note_block in
    let inv = l.invariant in
    let blocks : l.block * 64 ≡ whole = omega (arith, l.auto.block-end, c.loop-block-test.false) in
    let low : first + whole ≤ end = omega (arith, c.requires.order) in
    let before : AreNoted old new (range_with_len first whole) c.args.former.now l.latest l.former l.count =
    subst (λ n. AreNoted old new (range_with_len first n) c.args.former.now l.latest l.former l.count) blocks
    (record { sizes = inv.sizes; latest = inv.latest; room = inv.room; former = inv.former; count = inv.count }) in
    subst (λ all. AreNoted old new all c.args.former.now rest.new.latest rest.new.former (l.count + rest.result))
    (up_to first whole end low)
    (AreNoted_append old new (range_with_len first whole) (range_with_len (first + whole) (end - (first + whole))) c.args.former.now l.latest rest.new.latest l.former rest.new.former l.count
    rest.result before c.requires.sizes rest.ensures.latest rest.ensures.former rest.ensures.count)

pub returns-clause-latest : goal.returns-clause-latest
returns-clause-latest c = (noted c).latest

pub returns-clause-former : goal.returns-clause-former
returns-clause-former c = (noted c).former

pub returns-clause-count : goal.returns-clause-count
returns-clause-count c = (noted c).count
