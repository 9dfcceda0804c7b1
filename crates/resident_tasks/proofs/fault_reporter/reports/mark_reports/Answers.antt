use Rattle.std.proofs.Common.{arith}
use Rattle.resident_tasks.proofs.FaultReporter.Reported.{marks-begin, marks-end, marks-next, reported_below}
use Rattle.resident_tasks.proofs.fault_reporter.reports.mark_reports.Goals as goal

pub loop-id-init : goal.loop-id-init
loop-id-init c = record { low = omega arith; lists = λ l h. marks-begin c.args.store.now l h }

pub mark_report-requires-clause-lists : goal.mark_report-requires-clause-lists
mark_report-requires-clause-lists c = (reported_below c.loop-id.id c.requires.0, (c.loop-id.invariant.lists c.requires.0 c.requires.1).lists.lists)

pub loop-id-preserved : goal.loop-id-preserved
loop-id-preserved c = record {
  low = omega (arith, c.loop-id.invariant.low);
  lists = λ l h.
      let x = c.loop-id.invariant.lists l h in
      marks-next c.args.store.now c.loop-id.store c.mark_report.new.store l c.loop-id.id x (c.mark_report.ensures (reported_below c.loop-id.id l) x.lists.lists);
}

pub returns : goal.returns
returns c = λ l h. marks-end c.args.store.now c.loop-id.store l c.loop-id.id h (omega (arith, c.loop-id-test.false)) (c.loop-id.invariant.lists l h)
