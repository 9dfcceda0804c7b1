use Rattle.std.proofs.Common.{sym, subst}
use Rattle.resident_tasks.specs.ResidentRequests.Turns.{HasWritten}
use Rattle.resident_tasks.proofs.ResidentRequests.WrittenBuffer.{has-written, writable-free}
use Rattle.resident_tasks.proofs.resident_requests.buffers.write_buffer.Goals as goal

pub returns-clause-written : goal.returns-clause-written
returns-clause-written c = λ l r n h q e fits.
    subst (λ v. HasWritten c.args.store.now v l r c.args.a c.args.bytes.now) (sym c.put_bytes.ensures)
    (has-written c.args.store.now l r c.args.a n c.args.bytes.now h q (writable-free c.args.store.now l r.packet c.args.a n e) fits)
