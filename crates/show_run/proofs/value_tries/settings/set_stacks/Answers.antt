use Rattle.std.proofs.Common.{arith}
use Rattle.std.proofs.lemmas.List.Edits.{map_over_more}
use Rattle.show_run.specs.ValueTries.Settings.{line_with_stack}
use Rattle.show_run.proofs.value_tries.settings.set_stacks.Goals as goal

pub loop-line-preserved : goal.loop-line-preserved
loop-line-preserved c =
    rw (c.set_line_stack.ensures, ← c.line-item.is) (map_over_more (line_with_stack c.args.task c.args.highest) c.args.lines.now c.loop-line.lines c.loop-line.line-index c.line-item.result (omega arith) c.loop-line.invariant c.line-item.is)
