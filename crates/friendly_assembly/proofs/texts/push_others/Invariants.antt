use Rattle.std.proofs.Common.{◌≡◌, ◌∷◌, ◌++◌, drop, map}
use Rattle.std.specs.List.{flat_map}
use Rattle.friendly_assembly.specs.KeptNames.{names_by}
use Rattle.friendly_assembly.specs.PlainLine.{plain_line}
use Rattle.friendly_assembly.proofs.texts.push_others.Given as goal

abbrev pub invariant-loop-line : goal.invariant-loop-line
invariant-loop-line l =
    l.text.items ++ flat_map (λ line. 10 ∷ plain_line (names_by l.names.constants.now l.names.firsts.now) line) (map (λ line. line.now) (drop l.line-index l.lines))
    ≡ l.fn.text.items ++ flat_map (λ line. 10 ∷ plain_line (names_by l.names.constants.now l.names.firsts.now) line) (map (λ line. line.now) l.lines)
