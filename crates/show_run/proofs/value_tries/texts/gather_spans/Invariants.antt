use Rattle.std.proofs.Common.{◌≤◌, take}
use Rattle.byte_streams.specs.Pending.{IsGathered}
use Rattle.show_run.specs.ValueTries.TryTexts.{spans_text}
use Rattle.show_run.proofs.value_tries.texts.gather_spans.Given as goal

-- the spans so far are gathered
abbrev pub invariant-loop-span : goal.invariant-loop-span
invariant-loop-span g l = record {
  text : IsGathered (g.K.Sink.holds l.fn.out) (g.K.Sink.holds l.out) l.fn.pending l.pending (spans_text (take l.span-index l.spans));
  later : g.K.Sink.faults l.fn.out ≤ g.K.Sink.faults l.out;
}
