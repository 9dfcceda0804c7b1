use Rattle.std.proofs.Common.{◌+◌, ◌%◌, ◌∙◌, get_or, set}
use Rattle.resident_tasks.proofs.FaultReporter.HeldGuest.{is-held}
use Rattle.resident_tasks.proofs.fault_reporter.records.hold_with.Goals as goal

pub returns : goal.returns
returns c = λ l h r.
    is-held c.args.store.now l c.args.fault h r c.caller-task.result (c.caller-task.ensures l h r.caller) c.set_field-3.new.store
    (c.set_field-3.ensures
    ∙ (λ i. set (c.set_field-2.ensures i) (c.caller-task.result + 4) (c.field-state.ensures i % 2 + 2))
    ∙ (λ i. set (set (c.set_field.ensures i) (c.caller-task.result + 21) c.args.fault.code) (c.caller-task.result + 4) (get_or c.args.store.now (c.caller-task.result + 4) 0 % 2 + 2)))
