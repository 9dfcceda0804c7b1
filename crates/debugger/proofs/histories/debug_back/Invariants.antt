use Rattle.std.proofs.Common.{◌≡◌, ◌≤◌, [], Some, length}
use Rattle.module_text.specs.TextReader.Lines.{lines_of}
use Rattle.debugger.specs.MachineHistory.Pasts.{now_of}
use Rattle.debugger.specs.Runs.{IsWithin}
use Rattle.debugger.proofs.ReachedStates.{AreReached}
use Rattle.debugger.proofs.ToldLines.{IsTold}
use Rattle.debugger.proofs.histories.debug_back.Given as goal

abbrev pub invariant-loop-line : goal.invariant-loop-line
invariant-loop-line g l = record {
  told : IsTold l.limits (lines_of l.lines) (record { state = l.fn.machine.state; stops = []; past = Some [] }) (record { state = l.machine.state; stops = l.stops; past = Some l.history.past }) (lines_of l.rest) (g.K.Sink.holds l.fn.out) (g.K.Sink.holds l.out) l.fn.pending l.pending;
  reached : AreReached l.limits l.fn.machine.state (record { state = l.machine.state; stops = l.stops; past = Some l.history.past });
  within : IsWithin l.limits l.fn.machine.state;
  now : l.history.now ≡ now_of l.machine.state l.machine.keys;
  later : g.K.Sink.faults l.fn.out ≤ g.K.Sink.faults l.out;
}

abbrev pub decreases-loop-line : goal.decreases-loop-line
decreases-loop-line g l = length l.rest
