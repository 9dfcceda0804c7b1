use Rattle.std.proofs.Common.{◌≡◌, drop}
use Rattle.std.specs.List.{list_any}
use Rattle.show_run.specs.ValueTries.Settings.{is_line_of}
use Rattle.show_run.proofs.value_tries.settings.has_task.Given as goal

abbrev pub invariant-loop-line : goal.invariant-loop-line
invariant-loop-line l = list_any (is_line_of l.task) l.lines ≡ list_any (is_line_of l.task) (drop l.line-index l.lines)
