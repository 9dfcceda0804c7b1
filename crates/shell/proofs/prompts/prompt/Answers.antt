use Rattle.std.proofs.Common.{arith}
use Rattle.kernel_model.specs.KernelRecord.Kernel.Mode.{Reading}
use Rattle.kernel_model.specs.declared.kernel_record.numbers.TheConstants.{CONSOLE}
use Rattle.resident_tasks.specs.declared.console_handler.requests.TheConstants.{READ_LINE}
use Rattle.shell.specs.Prompts.{prompt}
use Rattle.shell.proofs.DoneParts.{can-post, console-there, done-mode, done-sent, ready-shown}
use Rattle.shell.proofs.prompts.prompt.Goals as goal

pub send_shell_packet-requires : goal.send_shell_packet-requires
send_shell_packet-requires g c = (let r = c.requires.ready.3 in (_, r.done.represents.keeper, can-post r CONSOLE (console-there r)))

pub returns-clause-done : goal.returns-clause-done
returns-clause-done g c = λ b d x r.
    let k = r.done.represents.keeper in
    let can = can-post r CONSOLE (console-there r) in
    done-mode
    (done-sent (ready-shown r prompt c.append.new.self c.append.ensures) CONSOLE READ_LINE (omega arith) (c.send_shell_packet.ensures.sent x.store.lists k can) c.send_shell_packet.ensures.room _ _
    (c.send_shell_packet.ensures.notes x.store.lists k can)) Reading c.set_mode.new.self c.set_mode.ensures
