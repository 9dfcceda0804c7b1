use Rattle.std.proofs.Common.{None, Some, ◌∙◌, sym, subst}
use Rattle.kernel_calls.proofs.CallAnswers.FoundTask.{Finds, find-task, reads}
use Rattle.kernel_calls.proofs.PacketCalls.NamedQueues.{names-task}
use Rattle.kernel_calls.proofs.packet_calls.destinations.destination.Goals as goal

pub find-requires : goal.find-requires
find-requires c = (reads c.args.store.now c.requires.0 c.requires.1).tasks.tasks

pub returns-in_err-task : goal.returns-in_err-task
returns-in_err-task c = λ l h.
    c.from_residual.ensures
    ∙ names-task l c.args.number c.if-number-eq-CLOCK.false c.if-number-eq-KEYBOARD.false c.if-number-eq-OUTPUT.false None h.valid.tasks.distinct
    (subst (Finds c.args.number l.tasks) (sym c.find.ensures ∙ c.in_err-task.was) (find-task c.args.store.now l c.args.number h))

pub returns : goal.returns
returns c = λ l h.
    names-task l c.args.number c.if-number-eq-CLOCK.false c.if-number-eq-KEYBOARD.false c.if-number-eq-OUTPUT.false (Some c.in_ok-task.task) h.valid.tasks.distinct
    (subst (Finds c.args.number l.tasks) (sym c.find.ensures ∙ c.in_ok-task.was) (find-task c.args.store.now l c.args.number h))
