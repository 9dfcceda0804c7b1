use Rattle.std.proofs.Common.{arith}
use Rattle.kernel_model.specs.KernelRecord.Kernel.Mode.{Typing}
use Rattle.kernel_model.specs.declared.kernel_record.numbers.TheConstants.{SHELL}
use Rattle.shell.proofs.DoneParts.{can-post, done-mode, done-posted}
use Rattle.shell.proofs.typing.type_later.Goals as goal

pub post_shell_packet-requires : goal.post_shell_packet-requires
post_shell_packet-requires g c = (let r = c.requires.3 in (_, r.done.represents.keeper, can-post r SHELL r.packet.shell))

pub returns : goal.returns
returns g c = λ b d x r.
    let k = r.done.represents.keeper in
    let can = can-post r SHELL r.packet.shell in
    done-mode
    (done-posted r SHELL (omega arith) (c.post_shell_packet.ensures.sent x.store.lists k can) c.post_shell_packet.ensures.room _ _ (c.post_shell_packet.ensures.notes x.store.lists k can)) Typing c.set_mode.new.self
    c.set_mode.ensures
