use Rattle.std.proofs.Common.{◌++◌, ◌∙◌, length, ap}
use Rattle.kernel_model.proofs.KernelRecord.WalkedLists.{can-walk}
use Rattle.resident_tasks.specs.ResidentRequests.Requests.{work}
use Rattle.resident_tasks.specs.FaultReporter.FaultTurns.{all_reported, fault_taken_from}
use Rattle.resident_tasks.proofs.FaultReporter.HeldGuest.{same-then}
use Rattle.resident_tasks.proofs.FaultReporter.ReportLines.{lines-room, reports-read}
use Rattle.resident_tasks.proofs.FaultReporter.ReportedTurn.{reported-runs, reports-same, taken-runs, then-finished}
use Rattle.resident_tasks.proofs.fault_reporter.turns.report_faults.Goals as goal

pub print_reports-requires-clause-chain : goal.print_reports-requires-clause-chain
print_reports-requires-clause-chain g c =
    let l = c.requires.0 in
    let x = c.take_packet.ensures.taken l c.requires.1 c.requires.2.runs c.requires.2.reporter c.requires.3 in
    (can-walk c.take_packet.new.store (fault_taken_from (work l) l) x.lists.lists).chain

pub print_reports-requires-clause-room : goal.print_reports-requires-clause-room
print_reports-requires-clause-room g c =
    let l = c.requires.0 in
    let x = c.take_packet.ensures.taken l c.requires.1 c.requires.2.runs c.requires.2.reporter c.requires.3 in
    lines-room c.take_packet.new.store (fault_taken_from (work l) l) (length c.args.bytes.now) x.lists.lists c.requires.2.room

pub mark_reports-requires : goal.mark_reports-requires
mark_reports-requires g c =
    let l = c.requires.0 in
    (fault_taken_from (work l) l, (c.take_packet.ensures.taken l c.requires.1 c.requires.2.runs c.requires.2.reporter c.requires.3).lists.lists)

pub finish_turn-requires : goal.finish_turn-requires
finish_turn-requires g c =
    let l = c.requires.0 in
    let m = fault_taken_from (work l) l in
    let x = c.take_packet.ensures.taken l c.requires.1 c.requires.2.runs c.requires.2.reporter c.requires.3 in
    (all_reported m, (c.mark_reports.ensures m x.lists.lists).lists.lists, reported-runs m (taken-runs l c.requires.2.runs))

pub returns-clause-lists : goal.returns-clause-lists
returns-clause-lists g c = λ l h r f.
    let m = fault_taken_from (work l) l in
    let x = c.take_packet.ensures.taken l h r.runs r.reporter f in
    let y = c.mark_reports.ensures m x.lists.lists in
    then-finished c.args.store.now c.mark_reports.new.store c.finish_turn.new.store l (all_reported m) (same-then c.args.store.now c.take_packet.new.store c.mark_reports.new.store l m (all_reported m) x y)
    (c.finish_turn.ensures (all_reported m) y.lists.lists (reported-runs m (taken-runs l r.runs)))

pub returns-clause-bytes : goal.returns-clause-bytes
returns-clause-bytes g c = λ l h r f.
    let x = c.take_packet.ensures.taken l h r.runs r.reporter f in
    c.print_reports.ensures ∙ ap (λ z. c.args.bytes.now ++ z) (reports-read c.take_packet.new.store (fault_taken_from (work l) l) x.lists.lists ∙ reports-same l)
