use Rattle.std.proofs.Common.{◌≡◌}
use Rattle.show_run.specs.TypedWords.Runs.{IsRun}
use Rattle.show_run.proofs.typed_words.calls.waits_for.Given as goal

abbrev pub invariant-loop-turn : goal.invariant-loop-turn
invariant-loop-turn l = record {
  run : IsRun l.session l.debuggee.machine.state;
  stops : l.debuggee.stops ≡ l.fn.debuggee.stops;
}
