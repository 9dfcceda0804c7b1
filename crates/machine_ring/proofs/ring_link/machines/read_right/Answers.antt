use Rattle.std.proofs.Common.{◌∙◌, sym, arith}
use Rattle.module_text.specs.TextReader.Lines.{lines_of}
use Rattle.machine_ring.proofs.RingLink.LineCounts.{length-lines_of}
use Rattle.machine_ring.proofs.RingLink.RefusedLines.{bare_end-up_to, has_bare-lines, read-up_to}
use Rattle.machine_ring.proofs.ring_link.machines.read_right.Goals as goal

pub returns-then-has_bare-clause-within : goal.returns-then-has_bare-clause-within
returns-then-has_bare-clause-within c =
    let three = has_bare-lines (lines_of c.args.text.now) (sym c.has_bare.ensures ∙ c.if-has_bare.true) in
    let few = length-lines_of c.args.text.now in
    rw c.bare_end.ensures (bare_end-up_to _ c.read_session-read.result (omega arith))

pub returns-clause-within : goal.returns-clause-within
returns-clause-within c =
    let few = length-lines_of c.args.text.now in
    read-up_to _ (lines_of c.args.text.now) c.read_session-read.result (omega arith) c.read_session-read.ensures.value
