use Rattle.std.proofs.Common.{◌≡◌, ◌+◌, ◌≤◌, length}
use Rattle.friendly_assembly.specs.Quotes.{quote_flaw}
use Rattle.friendly_assembly.proofs.quotes.quote_flaw.Given as goal

abbrev pub invariant-loop-flaw : goal.invariant-loop-flaw
invariant-loop-flaw l = record {
  flaw : quote_flaw l.quote l.column l.after l.rest ≡ quote_flaw l.quote l.column 1 l.text;
  inside : l.after + length l.rest ≤ length l.text + 1;
}

abbrev pub decreases-loop-flaw : goal.decreases-loop-flaw
decreases-loop-flaw l = length l.rest
