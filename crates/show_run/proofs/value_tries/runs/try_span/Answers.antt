use Rattle.std.proofs.Common.{◌≡◌, ◌∙◌, ℕ, ◌+◌, ◌-◌, ◌≤◌, ◌++◌, map, subst, arith}
use Rattle.std.specs.List.{range_with_len}
use Rattle.show_run.specs.ValueTries.Groups.{Gathered}
use Rattle.show_run.specs.ValueTries.Runs.{try_of}
use Rattle.show_run.proofs.ValueTries.TriedValues.{same-then, tried-more}
use Rattle.show_run.proofs.value_tries.runs.try_span.Goals as goal

pub loop-value-preserved : goal.loop-value-preserved
loop-value-preserved c =
    let k = c.args.setting in
    let s = c.args.session.now in
    let first = c.args.span.first in
    let v = c.loop-value.value in
    let low : first ≤ v = omega arith in
    record {
      tries = λ tries before. tried-more (Gathered c.add.new.self) (try_of k s) tries first v c.in_ok-one.one low (c.in_ok-one.ensures.one ∙ c.loop-value.invariant.same.same v)
          (c.in_ok-add.ensures (tries ++ map (try_of k s) (range_with_len first (v - first))) (c.loop-value.invariant.tries tries before));
      same = same-then k s c.loop-value.session c.try_value.new.session c.loop-value.invariant.same c.in_ok-one.ensures.same;
      within = omega arith;
    }

pub returns-in_ok-add-clause-tries : goal.returns-in_ok-add-clause-tries
returns-in_ok-add-clause-tries c tries before =
    let k = c.args.setting in
    let s = c.args.session.now in
    let first = c.args.span.first in
    let v = c.loop-value.value in
    let low : first ≤ v = omega arith in
    let last : v + 1 ≡ c.args.span.last + 1 = omega arith in
    subst (λ (n : ℕ). Gathered c.add.new.self (tries ++ map (try_of k s) (range_with_len first (n - first)))) last
    (tried-more (Gathered c.add.new.self) (try_of k s) tries first v c.in_ok-one.one low (c.in_ok-one.ensures.one ∙ c.loop-value.invariant.same.same v)
    (c.in_ok-add.ensures (tries ++ map (try_of k s) (range_with_len first (v - first))) (c.loop-value.invariant.tries tries before)))
