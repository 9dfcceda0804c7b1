use Rattle.std.proofs.Common.{◌≡◌, sym, ap, ◌∙◌}
use Rattle.circular_buffer.specs.Buffer.{buffer}
use Rattle.debugger.proofs.MachineHistory.FilesThen.{back-same}
use Rattle.debugger.proofs.machine_history.returns.restore_files.Goals as goal

pub returns-then-not-is_later-clause-files : goal.returns-then-not-is_later-clause-files
returns-then-not-is_later-clause-files c =
    ap (λ l. buffer l c.args.ring.now.capacity)
    (sym (back-same 17 c.args.parts.now.step c.args.ring.now.items (sym c.is_later.ensures ∙ c.if-not-is_later.true)))
