use Rattle.shell.specs.ShellListings.TaskLines.{task_lines}
use Rattle.shell.proofs.DoneParts.{ready-shown}
use Rattle.shell.proofs.listings.list_tasks.Goals as goal

pub write_tasks-requires-clause-lists : goal.write_tasks-requires-clause-lists
write_tasks-requires-clause-lists g c = (let r = c.requires.ready.3 in (_, r.done.represents.keeper.lists))

pub prompt-requires-clause-ready : goal.prompt-requires-clause-ready
prompt-requires-clause-ready g c =
    let x = c.requires.ready.2 in
    let r = c.requires.ready.3 in
    (_, _, _, ready-shown r (task_lines x.store.lists.tasks) c.write_tasks.new.bytes (c.write_tasks.ensures.text x.store.lists r.done.represents.keeper.lists))

pub returns-clause-done : goal.returns-clause-done
returns-clause-done g c = λ b d x r. c.prompt.ensures.done b d _ (ready-shown r (task_lines x.store.lists.tasks) c.write_tasks.new.bytes (c.write_tasks.ensures.text x.store.lists r.done.represents.keeper.lists))
