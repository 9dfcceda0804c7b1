use Rattle.std.proofs.Common.{◌+◌, ◌-◌, ◌≤◌, List, ◌++◌, map, max}
use Rattle.std.specs.List.{range_with_len}
use Rattle.show_run.specs.ValueTries.Groups.{Gathered}
use Rattle.show_run.specs.ValueTries.Runs.{SameTries, try_of}
use Rattle.show_run.specs.declared.value_tries.outcomes.Try.{Try}
use Rattle.show_run.proofs.value_tries.runs.try_span.Given as goal

-- the values so far were tried
abbrev pub invariant-loop-value : goal.invariant-loop-value
invariant-loop-value l = record {
  tries : (tries : List Try) → Gathered l.fn.gathering tries → Gathered l.gathering (tries ++ map (try_of l.setting l.fn.session) (range_with_len l.fn.span.first (l.value - l.fn.span.first)));
  same : SameTries l.setting l.fn.session l.session;
  within : l.value ≤ max l.fn.span.first (l.fn.span.last + 1);
}
