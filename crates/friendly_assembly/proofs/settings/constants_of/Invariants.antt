use Rattle.std.proofs.Common.{◌≡◌, ◌+◌, drop, map}
use Rattle.friendly_assembly.specs.KeptNames.{constants_kept}
use Rattle.friendly_assembly.specs.Settings.{constants_of, no_constants}
use Rattle.friendly_assembly.proofs.settings.constants_of.Given as goal

abbrev pub invariant-loop-i : goal.invariant-loop-i
invariant-loop-i l =
    constants_of (constants_kept l.known) (l.i + 1) (map (λ line. line.now) (drop l.i l.lines))
    ≡ constants_of no_constants 1 (map (λ line. line.now) l.lines)
