use Rattle.std.proofs.Common.{◌∙◌, ap, sym}
use Rattle.ram_disc.specs.DiscCalls.{after_delete, after_rename}
use Rattle.shell.specs.Commands.{executed}
use Rattle.shell.specs.Prompts.{answered}
use Rattle.shell.specs.TurnParts.{with_disc}
use Rattle.shell.proofs.DoneParts.{done-is, ready-disc}
use Rattle.shell.proofs.TaskCalls.{done-by-call, flags-call, hold-call, priority-call, ready-by-call, release-call}
use Rattle.shell.proofs.commands.execute.Goals as goal

pub returns-in-Nothing-clause-done : goal.returns-in-Nothing-clause-done
returns-in-Nothing-clause-done g c = λ b x r. done-is (c.prompt.ensures.done b _ x r) _ (ap (λ k. executed k x) (sym c.in-Nothing.is))

pub returns-in-Examine-clause-done : goal.returns-in-Examine-clause-done
returns-in-Examine-clause-done g c = λ b x r. done-is (c.list_files.ensures.done b x r) _ (ap (λ k. executed k x) (sym c.in-Examine.is))

pub returns-in-Delete-clause-done : goal.returns-in-Delete-clause-done
returns-in-Delete-clause-done g c = λ b x r.
    let name = c.in-Delete.name in
    let y = after_delete x.disc name in
    done-is (c.answer.ensures.done b _ _ (ready-disc r c.delete.new.self y.disc (c.delete.ensures.disc ∙ ap (λ d. (after_delete d name).disc) r.done.disc))) _
    (ap (λ o. answered o (with_disc y.disc x)) (c.delete.ensures.answer ∙ ap (λ d. (after_delete d name).answer) r.done.disc) ∙ ap (λ k. executed k x) (sym c.in-Delete.is))

pub returns-in-Rename-clause-done : goal.returns-in-Rename-clause-done
returns-in-Rename-clause-done g c = λ b x r.
    let from = c.in-Rename.from in
    let to = c.in-Rename.to in
    let y = after_rename x.disc from to in
    done-is (c.answer-in-Rename.ensures.done b _ _ (ready-disc r c.rename.new.self y.disc (c.rename.ensures.disc ∙ ap (λ d. (after_rename d from to).disc) r.done.disc))) _
    (ap (λ o. answered o (with_disc y.disc x)) (c.rename.ensures.answer ∙ ap (λ d. (after_rename d from to).answer) r.done.disc) ∙ ap (λ k. executed k x) (sym c.in-Rename.is))

pub returns-in-Status-clause-done : goal.returns-in-Status-clause-done
returns-in-Status-clause-done g c = λ b x r. done-is (c.list_tasks.ensures.done b _ x r) _ (ap (λ k. executed k x) (sym c.in-Status.is))

pub returns-in-Map-clause-done : goal.returns-in-Map-clause-done
returns-in-Map-clause-done g c = λ b x r. done-is (c.count_blocks.ensures.done b _ x r) _ (ap (λ k. executed k x) (sym c.in-Map.is))

pub answer-requires-in-Hold-clause-ready : goal.answer-requires-in-Hold-clause-ready
answer-requires-in-Hold-clause-ready g c = (_, _, _, ready-by-call c.requires.ready.2 _ (hold-call c.in-Hold.task) c.hold_task.new.store c.hold_task.result c.hold_task.ensures)

pub returns-in-Hold-clause-done : goal.returns-in-Hold-clause-done
returns-in-Hold-clause-done g c = λ b x r.
    done-is (done-by-call r _ (hold-call c.in-Hold.task) c.hold_task.new.store c.hold_task.result c.hold_task.ensures (c.answer-in-Hold.ensures.done b _)) _ (ap (λ k. executed k x) (sym c.in-Hold.is))

pub answer-requires-in-Release-clause-ready : goal.answer-requires-in-Release-clause-ready
answer-requires-in-Release-clause-ready g c = (_, _, _, ready-by-call c.requires.ready.2 _ (release-call c.in-Release.task) c.release_task.new.store c.release_task.result c.release_task.ensures)

pub returns-in-Release-clause-done : goal.returns-in-Release-clause-done
returns-in-Release-clause-done g c = λ b x r.
    done-is (done-by-call r _ (release-call c.in-Release.task) c.release_task.new.store c.release_task.result c.release_task.ensures (c.answer-in-Release.ensures.done b _)) _ (ap (λ k. executed k x) (sym c.in-Release.is))

pub answer-requires-in-ChangePriority-clause-ready : goal.answer-requires-in-ChangePriority-clause-ready
answer-requires-in-ChangePriority-clause-ready g c = (_, _, _, ready-by-call c.requires.ready.2 _ (priority-call c.in-ChangePriority.task c.in-ChangePriority.priority) c.change_pri-outcome.new.store c.change_pri-outcome.result c.change_pri-outcome.ensures)

pub returns-in-ChangePriority-clause-done : goal.returns-in-ChangePriority-clause-done
returns-in-ChangePriority-clause-done g c = λ b x r.
    done-is (done-by-call r _ (priority-call c.in-ChangePriority.task c.in-ChangePriority.priority) c.change_pri-outcome.new.store c.change_pri-outcome.result c.change_pri-outcome.ensures (c.answer-in-ChangePriority.ensures.done b _)) _ (ap (λ k. executed k x) (sym c.in-ChangePriority.is))

pub answer-requires-in-Break-clause-ready : goal.answer-requires-in-Break-clause-ready
answer-requires-in-Break-clause-ready g c = (_, _, _, ready-by-call c.requires.ready.2 _ (flags-call c.in-Break.task c.in-Break.flags) c.set_flags.new.store c.set_flags.result c.set_flags.ensures)

pub returns-in-Break-clause-done : goal.returns-in-Break-clause-done
returns-in-Break-clause-done g c = λ b x r.
    done-is (done-by-call r _ (flags-call c.in-Break.task c.in-Break.flags) c.set_flags.new.store c.set_flags.result c.set_flags.ensures (c.answer-in-Break.ensures.done b _)) _ (ap (λ k. executed k x) (sym c.in-Break.is))
