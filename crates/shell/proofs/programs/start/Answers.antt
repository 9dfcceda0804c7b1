use Rattle.std.proofs.Common.{Ok, Err, ap}
use Rattle.kernel_model.specs.KernelRecord.Kernel.Mode.{Waiting}
use Rattle.shell.specs.ShellPrograms.StartedProgram.{start_program}
use Rattle.shell.specs.declared.shell_programs.programs.Priority.TheVariants.{AboveShell}
use Rattle.shell.specs.Commands.{after_start, program_request, with_started}
use Rattle.shell.proofs.DoneParts.{can-post, done-is, done-mode, done-sent}
use Rattle.shell.proofs.StartedPrograms.{ready-started, started-answer, started-guest, started-low}
use Rattle.shell.proofs.programs.start.Goals as goal

pub start_program-requires : goal.start_program-requires
start_program-requires g c = (_, c.requires.ready.2.done.represents.keeper)

pub send_shell_packet-requires : goal.send_shell_packet-requires
send_shell_packet-requires g c =
    let x = c.requires.ready.1 in
    let r = c.requires.ready.2 in
    let y = c.in-Ok.ensures.started x.store.lists r.done.represents.keeper in
    let z = ready-started r c.args.program.now c.args.rest AboveShell c.start_program.new.store (g.Q.KindKeeper.tells c.start_program.new.kinds) (g.Q.KindKeeper.room c.start_program.new.kinds) (Ok c.in-Ok.id) y c.start_program.ensures.room in
    let is = started-answer r c.args.program.now c.args.rest AboveShell c.start_program.new.store (g.Q.KindKeeper.tells c.start_program.new.kinds) (g.Q.KindKeeper.room c.start_program.new.kinds) (Ok c.in-Ok.id) y in
    let guest = started-guest x c.args.program.now c.args.rest AboveShell c.in-Ok.id is in
    (_, z.done.represents.keeper, can-post z c.in-Ok.id guest.1)

pub refuse-requires-clause-ready : goal.refuse-requires-clause-ready
refuse-requires-clause-ready g c =
    let x = c.requires.ready.1 in
    let r = c.requires.ready.2 in
    let y = c.in-Err.ensures.started x.store.lists r.done.represents.keeper in
    let z = ready-started r c.args.program.now c.args.rest AboveShell c.start_program.new.store (g.Q.KindKeeper.tells c.start_program.new.kinds) (g.Q.KindKeeper.room c.start_program.new.kinds) (Err c.in-Err.code) y c.start_program.ensures.room in
    (_, _, _, z)

pub returns-in-Ok-clause-done : goal.returns-in-Ok-clause-done
returns-in-Ok-clause-done g c = λ b x r.
    let y = c.in-Ok.ensures.started x.store.lists r.done.represents.keeper in
    let z = ready-started r c.args.program.now c.args.rest AboveShell c.start_program.new.store (g.Q.KindKeeper.tells c.start_program.new.kinds) (g.Q.KindKeeper.room c.start_program.new.kinds) (Ok c.in-Ok.id) y c.start_program.ensures.room in
    let is = started-answer r c.args.program.now c.args.rest AboveShell c.start_program.new.store (g.Q.KindKeeper.tells c.start_program.new.kinds) (g.Q.KindKeeper.room c.start_program.new.kinds) (Ok c.in-Ok.id) y in
    let guest = started-guest x c.args.program.now c.args.rest AboveShell c.in-Ok.id is in
    let can = can-post z c.in-Ok.id guest.1 in
    done-is
    (done-mode
    (done-sent z c.in-Ok.id program_request (started-low x c.args.program.now c.args.rest AboveShell c.in-Ok.id is) (c.send_shell_packet.ensures.sent _ z.done.represents.keeper can) c.send_shell_packet.ensures.room _ _ (c.send_shell_packet.ensures.notes _ z.done.represents.keeper can)) (Waiting c.in-Ok.id)
    c.set_mode.new.self c.set_mode.ensures) _ (ap (λ a. after_start a (with_started (start_program x.disc c.args.program.now c.args.rest AboveShell x.store) x)) is)

pub returns-in-Err-clause-done : goal.returns-in-Err-clause-done
returns-in-Err-clause-done g c = λ b x r.
    let y = c.in-Err.ensures.started x.store.lists r.done.represents.keeper in
    let z = ready-started r c.args.program.now c.args.rest AboveShell c.start_program.new.store (g.Q.KindKeeper.tells c.start_program.new.kinds) (g.Q.KindKeeper.room c.start_program.new.kinds) (Err c.in-Err.code) y c.start_program.ensures.room in
    let is = started-answer r c.args.program.now c.args.rest AboveShell c.start_program.new.store (g.Q.KindKeeper.tells c.start_program.new.kinds) (g.Q.KindKeeper.room c.start_program.new.kinds) (Err c.in-Err.code) y in
    done-is (c.refuse.ensures.done b _ _ z) _ (ap (λ a. after_start a (with_started (start_program x.disc c.args.program.now c.args.rest AboveShell x.store) x)) is)
