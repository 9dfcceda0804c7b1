use Rattle.std.proofs.Common.{◌≡◌, None, replicate}
use Rattle.std.specs.List.{All}
use Rattle.resident_tasks.specs.PipeHandler.Slots.{IsRing, pipes_in}
use Rattle.resident_tasks.proofs.pipe_handler.pipes.Pipes.new.Given as goal

abbrev pub invariant-loop-i : goal.invariant-loop-i
invariant-loop-i l = record {
  rings : All (λ s. IsRing s.held) l.slots.items;
  none : pipes_in l.slots.items ≡ replicate l._i None;
}
