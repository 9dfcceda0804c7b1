use Rattle.std.proofs.Common.{◌≡◌, ◌≤◌, ◌+◌, drop}
use Rattle.run_names.specs.Programs.{others}
use Rattle.run_names.proofs.programs.others.Given as goal

abbrev pub invariant-loop-word : goal.invariant-loop-word
invariant-loop-word l = (l.count + others (drop l.word-index l.known) l.rest ≡ others l.known l.loaded) × (l.count ≤ l.word-index)
