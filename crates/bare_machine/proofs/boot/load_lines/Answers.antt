use Rattle.std.proofs.Common.{◌≡◌, ◌∙◌, ◌+◌, ◌≤◌, ◌*◌, length, sym, ap, arith}
use Rattle.bare_machine.proofs.CodeLines.{with_lines-next, with_bytes-length}
use Rattle.bare_machine.proofs.boot.load_lines.Goals as goal

pub loop-line-preserved : goal.loop-line-preserved
loop-line-preserved c =
    let bytes = c.code_of-bytes.result.now in
    let fits : c.loop-line.at + length bytes ≤ 4 * length c.loop-line.store = omega (arith, c.size.ensures, c.if-at-bytes.false) in
    let size : length c.load_bytes.new.store ≡ length c.args.store.now = ap length c.load_bytes.ensures ∙ with_bytes-length c.loop-line.store c.loop-line.at bytes ∙ c.loop-line.invariant.size in
    record {
      lines = rw c.load_bytes.ensures (sym (with_lines-next c.loop-line.store c.loop-line.at c.args.lines.now c.loop-line.line-index c.line-item.result bytes c.loop-line-test.true c.line-item.is c.code_of-bytes.ensures fits) ∙ c.loop-line.invariant.lines);
      size = size;
      place = omega (arith, fits, c.loop-line.invariant.size, c.requires);
    }
