use Rattle.std.proofs.Common.{◌≡◌, ◌≤◌, ◌-◌, length, drop}
use Rattle.std.specs.List.{list_any}
use Rattle.command_lines.specs.ArgumentTemplates.Line.{items, items_from}
use Rattle.command_lines.specs.ArgumentTemplates.Answer.{is_open}
use Rattle.command_lines.proofs.argument_templates.items.has_open_quote.Given as goal

abbrev pub invariant-loop-item : goal.invariant-loop-item
invariant-loop-item l = record {
  inside : l.at ≤ length l.line;
  left : list_any is_open (items_from l.at (drop l.at l.line)) ≡ list_any is_open (items l.line);
}

abbrev pub decreases-loop-item : goal.decreases-loop-item
decreases-loop-item l = length l.line - l.at
