use Rattle.std.proofs.Common.{◌∙◌, ap, cond, subst, sym, [], ◌∷◌}
use Rattle.std.proofs.lemmas.Bool.{ne_eqb}
use Rattle.kernel_lists.specs.declared.packet_queue.events.KernelEvent.TheVariants.{Runs}
use Rattle.kernel_model.specs.KernelRecord.NotedEvents.{NotesAll}
use Rattle.kernel_model.proofs.KernelRecord.NotedInTurn.{notes-one}
use Rattle.kernel_machine.specs.KernelSteps.Step.{run_events}
use Rattle.kernel_machine.proofs.running_machine.machine.note_running.Goals as goal

pub returns-then-task-ne0 : goal.returns-then-task-ne0
returns-then-task-ne0 g c = λ l h.
    let one = ap (λ b. cond b [] (Runs c.running-task.result ∷ [])) (ne_eqb c.running-task.result 0 c.if-task-ne0.true) in
    subst (NotesAll _ _ _ _) (sym one ∙ ap run_events (c.running-task.ensures l h)) (notes-one _ _ _ _ _ c.note.ensures)
