use Rattle.resident_tasks.proofs.ResidentRequests.BufferTests.{unowned-is}
use Rattle.resident_tasks.proofs.resident_requests.buffers.has_no_kernel_word.Goals as goal

pub returns : goal.returns
returns g c = λ l k. unowned-is l c.args.a c.args.n c.covered.result c.covered.ensures c.are_unowned.result (c.are_unowned.ensures l k)
