use Rattle.std.proofs.Common.{◌≡◌, ◌∙◌, false, sym}
use Rattle.std.specs.List.{list_any}
use Rattle.kernel_model.specs.KernelRecord.Lists.{queued}
use Rattle.kernel_model.specs.KernelRecord.Recovered.{lists_in}
use Rattle.state_text.specs.AwaitedPackets.{is_from}
use Rattle.state_text.proofs.awaited.gather_none.Goals as goal

pub returns-clause-text : goal.returns-clause-text
returns-clause-text g c =
    let none : list_any (is_from c.args.id) (queued (lists_in c.args.store.now)) ≡ false = sym c.has_packet.ensures ∙ c.if-has_packet.false in
    rw (none, ← c.alone_line.ensures) c.gather.ensures.text
