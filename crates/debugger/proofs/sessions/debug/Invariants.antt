use Rattle.std.proofs.Common.{◌≤◌, [], None, length}
use Rattle.module_text.specs.TextReader.Lines.{lines_of}
use Rattle.debugger.specs.Debugged.{HasDebugged, steps_left}
use Rattle.debugger.specs.Runs.{IsWithin}
use Rattle.debugger.proofs.ToldLines.{IsTold}
use Rattle.debugger.proofs.sessions.debug.Given as goal

abbrev pub invariant-loop-line : goal.invariant-loop-line
invariant-loop-line g l = record {
  told : IsTold l.limits (lines_of l.lines) (record { state = l.fn.machine.state; stops = []; past = None }) (record { state = l.machine.state; stops = l.stops; past = None }) (lines_of l.rest) (g.K.Sink.holds l.fn.out) (g.K.Sink.holds l.out) l.fn.pending l.pending;
  ran : HasDebugged (steps_left l.limits l.fn.machine.state) l.fn.machine.state l.machine.state;
  within : IsWithin l.limits l.machine.state;
  later : g.K.Sink.faults l.fn.out ≤ g.K.Sink.faults l.out;
}

abbrev pub decreases-loop-line : goal.decreases-loop-line
decreases-loop-line g l = length l.rest
