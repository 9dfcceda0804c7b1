use Rattle.std.proofs.Common.{◌∙◌, sym, subst, cond, [], ◌∷◌}
use Rattle.std.proofs.lemmas.Bool.{ne_eqb}
use Rattle.kernel_lists.specs.declared.packet_queue.events.KernelEvent.TheVariants.{Runs}
use Rattle.kernel_model.specs.KernelRecord.NotedEvents.{NotesAll}
use Rattle.kernel_model.proofs.KernelRecord.NotedInTurn.{notes-one}
use Rattle.kernel_model.specs.KernelDispatch.Private.DispatchWords.{running_in}
use Rattle.kernel_model.proofs.kernel_dispatch.idleness.idle.Goals as goal

pub returns-clause-events : goal.returns-clause-events
returns-clause-events g c =
    subst (λ b. NotesAll (g.L.EventLog.noted c.args.log.now) (g.L.EventLog.noted c.note.new.self) (g.L.EventLog.has_failed c.args.log.now) (g.L.EventLog.has_failed c.note.new.self) (cond b [] (Runs 0 ∷ [])))
    (sym (ne_eqb (running_in c.args.store.now) 0 (λ e. c.if-ran-eq0.false (c.root-ran.ensures ∙ e))))
    (notes-one (g.L.EventLog.noted c.args.log.now) (g.L.EventLog.noted c.note.new.self) (g.L.EventLog.has_failed c.args.log.now) (g.L.EventLog.has_failed c.note.new.self) (Runs 0) c.note.ensures)
