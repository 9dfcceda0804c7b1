use Rattle.std.proofs.Common.{arith}
use Rattle.std.proofs.lemmas.List.Edits.{map_over_more}
use Rattle.show_run.specs.ValueTries.Settings.{line_with_priority}
use Rattle.show_run.proofs.value_tries.settings.set_priorities.Goals as goal

pub loop-line-preserved : goal.loop-line-preserved
loop-line-preserved c =
    rw (c.set_line_priority.ensures, ← c.line-item.is) (map_over_more (line_with_priority c.args.task c.args.priority) c.args.lines.now c.loop-line.lines c.loop-line.line-index c.line-item.result (omega arith) c.loop-line.invariant c.line-item.is)
