use Rattle.std.proofs.Common.{sym, ◌∙◌, subst}
use Rattle.kernel_calls.proofs.CallAnswers.FoundTask.{Finds, find-task, reads}
use Rattle.kernel_calls.proofs.CallAnswers.Refusals.{guest-at, high-guest, low-resident, no_task, resident}
use Rattle.kernel_calls.proofs.call_answers.guests.guest.Goals as goal

pub find-requires : goal.find-requires
find-requires c = (reads c.args.store.now c.requires.0 c.requires.1).tasks.tasks

pub returns-in-None : goal.returns-in-None
returns-in-None c = λ l h.
    no_task l c.args.id (subst (Finds c.args.id l.tasks) (sym c.find.ensures ∙ c.in-None.is) (find-task c.args.store.now l c.args.id h))

pub returns-in-Some : goal.returns-in-Some
returns-in-Some c = λ l h.
    resident l c.args.id c.in-Some.field-0 (subst (Finds c.args.id l.tasks) (sym c.find.ensures ∙ c.in-Some.is) (find-task c.args.store.now l c.args.id h))
    (low-resident c.args.id c.if-id-lt-FIRST_GUEST.true)

pub returns-in-Some-2 : goal.returns-in-Some-2
returns-in-Some-2 c = λ l h.
    guest-at l c.args.id c.in-Some.field-0 (subst (Finds c.args.id l.tasks) (sym c.find.ensures ∙ c.in-Some.is) (find-task c.args.store.now l c.args.id h))
    (high-guest c.args.id c.if-id-lt-FIRST_GUEST.false)
