use Rattle.resident_tasks.specs.FaultReporter.Recorded.{held_with, sent}
use Rattle.resident_tasks.proofs.FaultReporter.HeldGuest.{held-caller, held-reporter, same-then}
use Rattle.resident_tasks.proofs.fault_reporter.records.record_fault.Goals as goal

pub send_packet-requires : goal.send_packet-requires
send_packet-requires g c =
    let l = c.requires.0 in
    let r = c.requires.2 in
    (held_with c.args.fault l, (c.hold_with.ensures l c.requires.1 r).lists.lists, held-caller l c.args.fault r.caller, held-reporter l c.args.fault r.reporter)

pub returns-clause-recorded : goal.returns-clause-recorded
returns-clause-recorded g c = λ l h r.
    let x = c.hold_with.ensures l h r in
    let m = held_with c.args.fault l in
    same-then c.args.store.now c.hold_with.new.store c.send_packet.new.store l m (sent m) x (c.send_packet.ensures.sent m x.lists.lists (held-caller l c.args.fault r.caller) (held-reporter l c.args.fault r.reporter))

pub returns-clause-notes : goal.returns-clause-notes
returns-clause-notes g c = λ l h r.
    let x = c.hold_with.ensures l h r in
    c.send_packet.ensures.notes (held_with c.args.fault l) x.lists.lists (held-caller l c.args.fault r.caller) (held-reporter l c.args.fault r.reporter)
