use Rattle.std.proofs.Common.{◌≤◌}
use Rattle.show_run.specs.WordWrites.{writes_text}
use Rattle.show_run.proofs.ToldSteps.{HasTold}
use Rattle.show_run.proofs.word_writes.gather_steps_writing.Given as goal

-- the lines of the steps so far were gathered
abbrev pub invariant-loop : goal.invariant-loop
invariant-loop g l = record {
  so_far : HasTold (λ n s. writes_text n l.address s) l.n l.fn.machine.state l.counter l.machine.state (g.K.Sink.holds l.fn.out) (g.K.Sink.holds l.out) l.fn.pending l.pending;
  later : g.K.Sink.faults l.fn.out ≤ g.K.Sink.faults l.out;
}
