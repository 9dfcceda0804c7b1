use Rattle.std.proofs.Common.{◌≡◌, ◌++◌, drop, map, take}
use Rattle.show_run.specs.ValueTries.Settings.{line_with_stack}
use Rattle.show_run.proofs.value_tries.settings.set_stacks.Given as goal

abbrev pub invariant-loop-line : goal.invariant-loop-line
invariant-loop-line l = l.lines ≡ map (line_with_stack l.task l.highest) (take l.line-index l.fn.lines) ++ drop l.line-index l.fn.lines
