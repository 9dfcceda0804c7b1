use Rattle.std.proofs.Common.{◌≡◌, ◌++◌, length}
use Rattle.std.specs.List.{flat_map}
use Rattle.friendly_assembly.specs.Quotes.{codes_in}
use Rattle.friendly_assembly.specs.Strings.{code_line}
use Rattle.friendly_assembly.proofs.strings.push_codes.Given as goal

abbrev pub invariant-loop-code : goal.invariant-loop-code
invariant-loop-code l = l.text.items ++ flat_map code_line (codes_in l.rest) ≡ l.fn.text.items ++ flat_map code_line (codes_in l.quoted)

abbrev pub decreases-loop-code : goal.decreases-loop-code
decreases-loop-code l = length l.rest
