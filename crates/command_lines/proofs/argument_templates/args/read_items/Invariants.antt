use Rattle.std.proofs.Common.{◌≡◌, ◌≤◌, ◌<◌, ◌-◌, None, length, drop}
use Rattle.std.specs.Option.{IfSome}
use Rattle.command_lines.specs.ArgumentTemplates.Line.{items, items_from}
use Rattle.command_lines.specs.ArgumentTemplates.Answer.{filled}
use Rattle.command_lines.specs.ArgumentTemplates.Template.{entries}
use Rattle.command_lines.proofs.argument_templates.args.read_items.Given as goal

abbrev pub invariant-loop-item : goal.invariant-loop-item
invariant-loop-item l = record {
  inside : l.at ≤ length l.line;
  named : IfSome l.name (λ k. k < 8);
  left : filled (entries l.template) l.line l.values l.name (items_from l.at (drop l.at l.line))
      ≡ filled (entries l.template) l.line l.initial.values None (items l.line);
}

abbrev pub decreases-loop-item : goal.decreases-loop-item
decreases-loop-item l = length l.line - l.at
