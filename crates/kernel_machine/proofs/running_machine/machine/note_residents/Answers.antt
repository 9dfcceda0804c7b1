use Rattle.std.proofs.Common.{◌∙◌, ap, subst, sym}
use Rattle.kernel_model.specs.KernelRecord.NotedEvents.{NotesAll}
use Rattle.kernel_model.proofs.KernelRecord.NotedInTurn.{notes-none, notes-one, notes-then}
use Rattle.kernel_machine.specs.KernelSteps.Step.{first_events}
use Rattle.kernel_machine.proofs.RunningMachine.TurnTests.{no-residents, some-residents}
use Rattle.kernel_machine.proofs.running_machine.machine.note_residents.Goals as goal

pub returns-then-root-eq0 : goal.returns-then-root-eq0
returns-then-root-eq0 g c = λ l h.
    subst (NotesAll _ _ _ _) (ap first_events (sym (no-residents c.args.store.now l h (sym c.root.ensures ∙ c.if-root-eq0.true)))) (notes-none _ _)

pub returns : goal.returns
returns g c = λ l h.
    subst (NotesAll _ _ _ _) (ap first_events (sym (some-residents c.args.store.now l h (λ e. c.if-root-eq0.false (c.root.ensures ∙ e)))))
    (notes-then _ _ _ _ _ _ _ _ (notes-one _ _ _ _ _ c.note.ensures) (notes-one _ _ _ _ _ c.note-2.ensures))
