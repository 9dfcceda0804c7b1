use Rattle.std.proofs.Common.{◌≡◌, ◌+◌, drop}
use Rattle.friendly_assembly.specs.StrangeBytes.{strange_flaw}
use Rattle.friendly_assembly.proofs.strange_bytes.strange_flaw.Given as goal

abbrev pub invariant-loop-i : goal.invariant-loop-i
invariant-loop-i l = strange_flaw (l.i + 1) (drop l.i l.text) ≡ strange_flaw 1 l.text
