use Rattle.std.proofs.Common.{Some, ap, sym, ◌∙◌}
use Rattle.resident_tasks.specs.PipeHandler.PipeTurns.{call_outcome}
use Rattle.resident_tasks.proofs.PipeHandler.PipeTurns.{opens-give-none, writes-give-none}
use Rattle.resident_tasks.proofs.pipe_handler.requests.make.Goals as goal

pub returns-in-OpenEnd-clause-bytes : goal.returns-in-OpenEnd-clause-bytes
returns-in-OpenEnd-clause-bytes g c = λ l k.
    sym
    (ap (λ call. (call_outcome c.args.pipes.now c.args.store.now l c.args.packet (Some call)).bytes) c.in-OpenEnd.is
    ∙ opens-give-none c.args.pipes.now c.args.store.now l c.args.packet c.in-OpenEnd.name c.in-OpenEnd.end)

pub returns-in-WriteBytes-clause-bytes : goal.returns-in-WriteBytes-clause-bytes
returns-in-WriteBytes-clause-bytes g c = λ l k.
    sym
    (ap (λ call. (call_outcome c.args.pipes.now c.args.store.now l c.args.packet (Some call)).bytes) c.in-WriteBytes.is
    ∙ writes-give-none c.args.pipes.now c.args.store.now l c.args.packet c.in-WriteBytes.handle c.in-WriteBytes.buffer c.in-WriteBytes.count)
