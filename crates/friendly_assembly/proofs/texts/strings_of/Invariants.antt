use Rattle.std.proofs.Common.{◌≡◌, ◌++◌, drop, map}
use Rattle.std.specs.List.{flat_map}
use Rattle.friendly_assembly.specs.Strings.{string_lines}
use Rattle.friendly_assembly.proofs.texts.strings_of.Given as goal

abbrev pub invariant-loop-line : goal.invariant-loop-line
invariant-loop-line l =
    l.text.items ++ flat_map string_lines (map (λ line. line.now) (drop l.line-index l.lines)) ≡ flat_map string_lines (map (λ line. line.now) l.lines)
