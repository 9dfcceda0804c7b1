use Rattle.std.proofs.Common.{◌≡◌, ◌++◌, replicate}
use Rattle.tool_texts.proofs.reports.push_blanks.Given as goal

abbrev pub invariant-loop-done : goal.invariant-loop-done
invariant-loop-done l = l.text.items ≡ l.fn.text.items ++ replicate l.done 32
