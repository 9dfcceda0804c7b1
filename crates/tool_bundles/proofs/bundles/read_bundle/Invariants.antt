use Rattle.std.proofs.Common.{◌≡◌, ◌-◌, length}
use Rattle.tool_bundles.specs.Bundles.{bundle_of, entries_after}
use Rattle.tool_bundles.proofs.bundles.read_bundle.Given as goal

abbrev pub invariant-loop-done : goal.invariant-loop-done
invariant-loop-done l = entries_after (length l.text - l.done) l.entries.items l.rest ≡ bundle_of l.text
