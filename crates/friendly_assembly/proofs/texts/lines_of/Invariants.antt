use Rattle.std.proofs.Common.{◌≡◌, ◌++◌, length, map}
use Rattle.friendly_assembly.specs.PlainText.{lines_of}
use Rattle.friendly_assembly.proofs.texts.lines_of.Given as goal

abbrev pub invariant-loop-line : goal.invariant-loop-line
invariant-loop-line l = map (λ line. line.now) l.lines.items ++ lines_of l.rest ≡ lines_of l.text

abbrev pub decreases-loop-line : goal.decreases-loop-line
decreases-loop-line l = length l.rest
