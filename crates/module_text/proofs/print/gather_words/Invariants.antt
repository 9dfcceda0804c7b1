use Rattle.std.proofs.Common.{◌≤◌, length, take}
use Rattle.byte_streams.specs.Pending.{IsGathered}
use Rattle.module_text.specs.Canonical.{words_text}
use Rattle.module_text.proofs.print.gather_words.Given as goal

abbrev pub invariant-loop-i : goal.invariant-loop-i
invariant-loop-i g l = record {
  text : IsGathered (g.K.Sink.holds l.fn.out) (g.K.Sink.holds l.out) l.fn.pending l.pending (words_text 0 (length l.words) (take l.i l.words));
  later : g.K.Sink.faults l.fn.out ≤ g.K.Sink.faults l.out;
}
