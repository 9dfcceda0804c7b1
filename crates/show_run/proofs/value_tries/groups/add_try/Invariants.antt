use Rattle.std.proofs.Common.{◌≡◌, ◌++◌, drop, take}
use Rattle.show_run.specs.ValueTries.Groups.{groups_with}
use Rattle.show_run.proofs.value_tries.groups.add_try.Given as goal

abbrev pub invariant-loop-i : goal.invariant-loop-i
invariant-loop-i l = record {
  same : l.groups.items ≡ l.fn.groups.items;
  rest : groups_with l.one l.groups.items ≡ take l.i l.groups.items ++ groups_with l.one (drop l.i l.groups.items);
}
