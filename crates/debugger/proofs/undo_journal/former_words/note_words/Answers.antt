use Rattle.std.proofs.Common.{◌+◌, get_or, subst, sym, take, arith}
use Rattle.std.proofs.lemmas.List.{take_more}
use Rattle.debugger.proofs.UndoJournal.FormerWordLemmas.{AreNoted, AreNoted_more, length-former_at-le}
use Rattle.debugger.proofs.undo_journal.former_words.note_words.Goals as goal

pub loop-address-preserved : goal.loop-address-preserved
loop-address-preserved c =
    let l = c.loop-address in
    let old = c.args.latest.now in
    let new = c.args.store.now in
    let all = c.args.addresses.now in
    let ats = take l.address-index all in
    let a = get_or all l.address-index 0 in
    let step = c.note_word-count in
    let inv = l.invariant in
    let before : AreNoted old new ats c.args.former.now l.latest l.former l.count =
    record { sizes = inv.sizes; latest = inv.latest; room = inv.room; former = inv.former; count = inv.count } in
    let after =
    subst (λ ats. AreNoted old new ats c.args.former.now step.new.latest step.new.former (l.count + step.result)) (sym (take_more all l.address-index 0 (omega arith)))
    (AreNoted_more old new ats a c.args.former.now l.latest step.new.latest l.former step.new.former l.count step.result before c.requires.sizes
    step.ensures.latest step.ensures.former step.ensures.count) in
    record {
      sizes = after.sizes;
      latest = after.latest;
      room = after.room;
      former = after.former;
      count = after.count;
      most = omega (arith, inv.most, step.ensures.count, length-former_at-le l.latest new a);
    }
