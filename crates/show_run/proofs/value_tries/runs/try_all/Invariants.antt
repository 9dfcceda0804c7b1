use Rattle.std.proofs.Common.{take, map}
use Rattle.std.specs.List.{flat_map}
use Rattle.show_run.specs.ValueTries.Groups.{Gathered}
use Rattle.show_run.specs.ValueTries.Runs.{SameTries, try_of}
use Rattle.show_run.specs.ValueTries.Spans.{values_of}
use Rattle.show_run.proofs.value_tries.runs.try_all.Given as goal

-- the values of the spans so far were tried
abbrev pub invariant-loop-span : goal.invariant-loop-span
invariant-loop-span l = record {
  tries : Gathered l.gathering (map (try_of l.setting l.fn.session) (flat_map values_of (take l.span-index l.spans)));
  same : SameTries l.setting l.fn.session l.session;
}
