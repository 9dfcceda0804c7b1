use Rattle.kernel_model.proofs.KernelRecord.NotedInTurn.{notes-then}
use Rattle.tripos_machine.specs.Step.{boot_events, run}
use Rattle.tripos_run.proofs.NotedRuns.{notes-run}
use Rattle.tripos_run.proofs.machines.note_run.Goals as goal

pub returns-clause-events : goal.returns-clause-events
returns-clause-events g c =
    let log = g.L.EventLog in
    let k = c.args.machine.now.state in
    notes-then _ _ _ _ _ _ (boot_events k) (run c.args.go k).events c.note_boot.ensures
    (notes-run (log.noted c.note_boot.new.log) (log.noted c.run.new.log) (log.has_failed c.note_boot.new.log) (log.has_failed c.run.new.log) c.args.go k _ c.run.result c.run.ensures.end)
