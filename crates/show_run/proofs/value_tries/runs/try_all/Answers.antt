use Rattle.std.proofs.Common.{map, take}
use Rattle.std.specs.List.{flat_map}
use Rattle.show_run.specs.ValueTries.Groups.{Gathered}
use Rattle.show_run.specs.ValueTries.Runs.{try_of}
use Rattle.show_run.specs.ValueTries.Spans.{values_of}
use Rattle.show_run.proofs.ValueTries.TriedValues.{same-then, tried-span}
use Rattle.show_run.proofs.value_tries.runs.try_all.Goals as goal

pub loop-span-preserved : goal.loop-span-preserved
loop-span-preserved c =
    let k = c.args.setting in
    let s = c.args.session.now in
    let i = c.loop-span.span-index in
    record {
      tries = tried-span (Gathered c.try_span.new.gathering) (try_of k c.loop-span.session) (try_of k s) c.args.spans.now i c.loop-span-test.true c.loop-span.invariant.same.same
          (c.in_ok-try_span.ensures.tries (map (try_of k s) (flat_map values_of (take i c.args.spans.now))) c.loop-span.invariant.tries);
      same = same-then k s c.loop-span.session c.try_span.new.session c.loop-span.invariant.same c.in_ok-try_span.ensures.same;
    }
