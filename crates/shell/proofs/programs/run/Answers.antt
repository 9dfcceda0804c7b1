use Rattle.std.proofs.Common.{◌∙◌, Ok, Err, ap}
use Rattle.shell.specs.ShellListings.NumberLines.{task_number_line}
use Rattle.shell.specs.ShellPrograms.StartedProgram.{start_program}
use Rattle.shell.specs.Commands.{after_run, by_run, with_started}
use Rattle.shell.proofs.DoneParts.{done-is, ready-shown}
use Rattle.shell.proofs.StartedPrograms.{ready-begun, ready-started, started-answer, started-guest}
use Rattle.shell.proofs.programs.run.Goals as goal

pub start_program-requires : goal.start_program-requires
start_program-requires g c = (_, c.requires.ready.2.done.represents.keeper)

pub begin_task-requires : goal.begin_task-requires
begin_task-requires g c =
    let x = c.requires.ready.1 in
    let r = c.requires.ready.2 in
    let y = c.in-Ok.ensures.started x.store.lists r.done.represents.keeper in
    let z = ready-started r c.args.program.now (Ok tt) c.run_priority-priority.result c.start_program.new.store (g.Q.KindKeeper.tells c.start_program.new.kinds) (g.Q.KindKeeper.room c.start_program.new.kinds) (Ok c.in-Ok.id) y c.start_program.ensures.room in
    let is = started-answer r c.args.program.now (Ok tt) c.run_priority-priority.result c.start_program.new.store (g.Q.KindKeeper.tells c.start_program.new.kinds) (g.Q.KindKeeper.room c.start_program.new.kinds) (Ok c.in-Ok.id) y in
    let guest = started-guest x c.args.program.now (Ok tt) c.run_priority-priority.result c.in-Ok.id is in
    (_, z.done.represents.keeper.lists, guest)

pub prompt-requires-clause-ready : goal.prompt-requires-clause-ready
prompt-requires-clause-ready g c =
    let x = c.requires.ready.1 in
    let r = c.requires.ready.2 in
    let y = c.in-Ok.ensures.started x.store.lists r.done.represents.keeper in
    let z = ready-started r c.args.program.now (Ok tt) c.run_priority-priority.result c.start_program.new.store (g.Q.KindKeeper.tells c.start_program.new.kinds) (g.Q.KindKeeper.room c.start_program.new.kinds) (Ok c.in-Ok.id) y c.start_program.ensures.room in
    let is = started-answer r c.args.program.now (Ok tt) c.run_priority-priority.result c.start_program.new.store (g.Q.KindKeeper.tells c.start_program.new.kinds) (g.Q.KindKeeper.room c.start_program.new.kinds) (Ok c.in-Ok.id) y in
    let guest = started-guest x c.args.program.now (Ok tt) c.run_priority-priority.result c.in-Ok.id is in
    let begins = ready-begun z c.in-Ok.id c.begin_task.new.store guest (c.begin_task.ensures _ z.done.represents.keeper.lists guest) in
    let told = ready-shown begins (task_number_line c.in-Ok.id) c.write_task_number.new.bytes c.write_task_number.ensures.text in
    (_, _, _, told)

pub refuse-requires-clause-ready : goal.refuse-requires-clause-ready
refuse-requires-clause-ready g c =
    let x = c.requires.ready.1 in
    let r = c.requires.ready.2 in
    let y = c.in-Err.ensures.started x.store.lists r.done.represents.keeper in
    let z = ready-started r c.args.program.now (Ok tt) c.run_priority-priority.result c.start_program.new.store (g.Q.KindKeeper.tells c.start_program.new.kinds) (g.Q.KindKeeper.room c.start_program.new.kinds) (Err c.in-Err.code) y c.start_program.ensures.room in
    (_, _, _, z)

pub returns-in-Ok-clause-done : goal.returns-in-Ok-clause-done
returns-in-Ok-clause-done g c = λ b x r.
    let y = c.in-Ok.ensures.started x.store.lists r.done.represents.keeper in
    let z = ready-started r c.args.program.now (Ok tt) c.run_priority-priority.result c.start_program.new.store (g.Q.KindKeeper.tells c.start_program.new.kinds) (g.Q.KindKeeper.room c.start_program.new.kinds) (Ok c.in-Ok.id) y c.start_program.ensures.room in
    let is = started-answer r c.args.program.now (Ok tt) c.run_priority-priority.result c.start_program.new.store (g.Q.KindKeeper.tells c.start_program.new.kinds) (g.Q.KindKeeper.room c.start_program.new.kinds) (Ok c.in-Ok.id) y in
    let guest = started-guest x c.args.program.now (Ok tt) c.run_priority-priority.result c.in-Ok.id is in
    let begins = ready-begun z c.in-Ok.id c.begin_task.new.store guest (c.begin_task.ensures _ z.done.represents.keeper.lists guest) in
    let told = ready-shown begins (task_number_line c.in-Ok.id) c.write_task_number.new.bytes c.write_task_number.ensures.text in
    done-is (c.prompt.ensures.done b _ _ told) _
    (ap (λ a. after_run a (with_started (start_program x.disc c.args.program.now (Ok tt) c.run_priority-priority.result x.store) x)) is
    ∙ ap (λ p. by_run (start_program x.disc c.args.program.now (Ok tt) p x.store) x) c.run_priority-priority.ensures)

pub returns-in-Err-clause-done : goal.returns-in-Err-clause-done
returns-in-Err-clause-done g c = λ b x r.
    let y = c.in-Err.ensures.started x.store.lists r.done.represents.keeper in
    let z = ready-started r c.args.program.now (Ok tt) c.run_priority-priority.result c.start_program.new.store (g.Q.KindKeeper.tells c.start_program.new.kinds) (g.Q.KindKeeper.room c.start_program.new.kinds) (Err c.in-Err.code) y c.start_program.ensures.room in
    let is = started-answer r c.args.program.now (Ok tt) c.run_priority-priority.result c.start_program.new.store (g.Q.KindKeeper.tells c.start_program.new.kinds) (g.Q.KindKeeper.room c.start_program.new.kinds) (Err c.in-Err.code) y in
    done-is (c.refuse.ensures.done b _ _ z) _
    (ap (λ a. after_run a (with_started (start_program x.disc c.args.program.now (Ok tt) c.run_priority-priority.result x.store) x)) is
    ∙ ap (λ p. by_run (start_program x.disc c.args.program.now (Ok tt) p x.store) x) c.run_priority-priority.ensures)
