use Rattle.std.proofs.Common.{◌+◌, ◌∙◌, set, sym, ap, subst}
use Rattle.kernel_calls.proofs.CallAnswers.FoundTask.{Finds, find-task, reads}
use Rattle.resident_tasks.specs.FaultReporter.Texts.{is_unreported_word}
use Rattle.resident_tasks.proofs.FaultReporter.Reported.{no-guest, nothing-new, one-new}
use Rattle.resident_tasks.proofs.fault_reporter.reports.mark_report.Goals as goal

pub find-requires : goal.find-requires
find-requires c = (reads c.args.store.now c.requires.lists.0 c.requires.lists.1).tasks.tasks

pub returns-in_default : goal.returns-in_default
returns-in_default c = λ l h. no-guest c.args.store.now l c.args.id h (subst (Finds c.args.id l.tasks) (sym c.find.ensures ∙ c.in_default.is) (find-task c.args.store.now l c.args.id h))

pub returns-then-not-is_unreported : goal.returns-then-not-is_unreported
returns-then-not-is_unreported c = λ l h.
    nothing-new c.args.store.now l c.args.id h c.requires.guest c.in-Some.task (subst (Finds c.args.id l.tasks) (sym c.find.ensures ∙ c.in-Some.is) (find-task c.args.store.now l c.args.id h))
    (sym (ap is_unreported_word c.field-fault.ensures) ∙ sym c.is_unreported.ensures ∙ c.if-not-is_unreported.true)

pub returns : goal.returns
returns c = λ l h.
    one-new c.args.store.now l c.args.id h c.requires.guest c.in-Some.task (subst (Finds c.args.id l.tasks) (sym c.find.ensures ∙ c.in-Some.is) (find-task c.args.store.now l c.args.id h))
    (sym (ap is_unreported_word c.field-fault.ensures) ∙ sym c.is_unreported.ensures ∙ c.if-not-is_unreported.false) c.set_field.new.store
    (c.set_field.ensures ∙ ap (λ w. set c.args.store.now (c.in-Some.task + 21) (w + 256)) c.field-fault.ensures)
