use Rattle.std.proofs.Common.{◌≡◌, ℕ, ◌+◌, ◌-◌, ◌*◌, ◌/◌, ◌≤◌, ◌++◌, ap, length, subst, sym, ◌∙◌, arith}
use Rattle.std.specs.List.{range_with_len}
use Rattle.debugger.specs.UndoJournal.FormerWords.{addresses_of}
use Rattle.debugger.proofs.UndoJournal.FormerWordLemmas.{AreNoted, AreNoted_append, range_with_len-append}
use Rattle.debugger.proofs.undo_journal.former_words.note_all_words.Goals as goal

-- the addresses up to b are those up to a, and then the others
up_to : (a b : ℕ) → a ≤ b → range_with_len 0 a ++ range_with_len a (b - a) ≡ range_with_len 0 b
up_to a b low =
    let first : a ≡ 0 + a = omega arith in
    let both : a + (b - a) ≡ b = omega arith in
    ap (λ i. range_with_len 0 a ++ range_with_len i (b - a)) first ∙ (sym (range_with_len-append 0 a (b - a)) ∙ ap (range_with_len 0) both)

pub loop-area-preserved : goal.loop-area-preserved
loop-area-preserved c =
    let l = c.loop-area in
    let old = c.args.latest.now in
    let new = c.args.store.now in
    let first = l.area * 512 in
    let end = (l.area + 1) * 512 in
    let step = c.note_area-count in
    let inv = l.invariant in
    let before : AreNoted old new (range_with_len 0 first) c.args.former.now l.latest l.former l.count =
    record { sizes = inv.sizes; latest = inv.latest; room = inv.room; former = inv.former; count = inv.count } in
    let after =
    subst (λ all. AreNoted old new all c.args.former.now step.new.latest step.new.former (l.count + step.result)) (up_to first end (omega arith))
    (AreNoted_append old new (range_with_len 0 first) (range_with_len first (end - first)) c.args.former.now l.latest step.new.latest l.former step.new.former l.count
    step.result before c.requires.sizes step.ensures.latest step.ensures.former step.ensures.count) in
    record {
      sizes = after.sizes;
      latest = after.latest;
      room = after.room;
      former = after.former;
      count = after.count;
      most = omega (arith, inv.most, step.ensures.most);
    }

-- what is noted of all addresses
noted : (c : goal.After-note_area) → AreNoted c.args.latest.now c.args.store.now (addresses_of c.args.store.now) c.args.former.now
    c.note_area.new.latest c.note_area.new.former (c.loop-area.count + c.note_area.result)
noted c =
    let l = c.loop-area in
    let old = c.args.latest.now in
    let new = c.args.store.now in
    let first = c.size-areas.result / 512 * 512 in
    let end = c.size.result in
    let rest = c.note_area in
    let inv = l.invariant in
    let areas : l.area * 512 ≡ first = omega (arith, l.auto.area-end, c.loop-area-test.false) in
    let size : end ≡ length new = c.size.ensures in
    let low : first ≤ end = omega (arith, c.size-areas.ensures) in
    let before : AreNoted old new (range_with_len 0 first) c.args.former.now l.latest l.former l.count =
    subst (λ n. AreNoted old new (range_with_len 0 n) c.args.former.now l.latest l.former l.count) areas
    (record { sizes = inv.sizes; latest = inv.latest; room = inv.room; former = inv.former; count = inv.count }) in
    subst (λ all. AreNoted old new all c.args.former.now rest.new.latest rest.new.former (l.count + rest.result))
    (up_to first end low ∙ ap (range_with_len 0) size)
    (AreNoted_append old new (range_with_len 0 first) (range_with_len first (end - first)) c.args.former.now l.latest rest.new.latest l.former rest.new.former l.count
    rest.result before c.requires.sizes rest.ensures.latest rest.ensures.former rest.ensures.count)

pub returns-clause-latest : goal.returns-clause-latest
returns-clause-latest c = (noted c).latest

pub returns-clause-former : goal.returns-clause-former
returns-clause-former c = (noted c).former

pub returns-clause-count : goal.returns-clause-count
returns-clause-count c = (noted c).count
