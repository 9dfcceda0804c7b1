use Rattle.std.proofs.Common.{◌≤◌, length, sym, ap, ◌∙◌, arith}
use Rattle.circular_buffer.specs.Buffer.{buffer}
use Rattle.debugger.specs.UndoJournal.KeptPast.{newest_members, total_changed}
use Rattle.debugger.proofs.UndoJournal.MemberLemmas.{newest_members_all}
use Rattle.debugger.proofs.undo_journal.members.drop_oldest.Goals as goal

pub returns-clause-members : goal.returns-clause-members
returns-clause-members g c =
    let l = c.loop-members in
    let inv = l.invariant in
    let few : length l.members.items ≤ c.args.steps = omega (arith, c.len.ensures.len) in
    let less : total_changed l.members.items ≤ c.args.changes = omega (arith, inv.left) in
    ap (λ xs. buffer xs l.members.capacity) (sym (newest_members_all c.args.steps c.args.changes l.members.items few less) ∙ inv.newest)
    ∙ ap (buffer (newest_members c.args.steps c.args.changes c.args.members.now.items)) inv.capacity
