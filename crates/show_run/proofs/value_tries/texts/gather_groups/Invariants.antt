use Rattle.std.proofs.Common.{◌≤◌, take}
use Rattle.byte_streams.specs.Pending.{IsGathered}
use Rattle.show_run.specs.ValueTries.TryTexts.{groups_text}
use Rattle.show_run.proofs.value_tries.texts.gather_groups.Given as goal

-- the groups so far are gathered
abbrev pub invariant-loop-group : goal.invariant-loop-group
invariant-loop-group g l = record {
  text : IsGathered (g.K.Sink.holds l.fn.out) (g.K.Sink.holds l.out) l.fn.pending l.pending (groups_text (take l.group-index l.groups));
  later : g.K.Sink.faults l.fn.out ≤ g.K.Sink.faults l.out;
}
