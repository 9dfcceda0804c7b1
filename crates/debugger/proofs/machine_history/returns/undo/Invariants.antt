use Rattle.std.proofs.Common.{◌≡◌}
use Rattle.debugger.specs.MachineHistory.Histories.{journal_back, moment_back}
use Rattle.debugger.proofs.machine_history.returns.undo.Given as goal

abbrev pub invariant-loop-i : goal.invariant-loop-i
invariant-loop-i l = record {
  journal : l.journal ≡ journal_back l._i l.fn.journal;
  store : l.store ≡ l.journal.words;
  last : l.last ≡ moment_back l._i l.fn.journal;
}
