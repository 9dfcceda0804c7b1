use Rattle.std.proofs.Common.{◌≡◌, ◌++◌, drop}
use Rattle.program_places.specs.Answers.{lines_text}
use Rattle.program_places.proofs.answers.lines_text.Given as goal

abbrev pub invariant-loop-hunk : goal.invariant-loop-hunk
invariant-loop-hunk l =
    l.text.items ++ lines_text l.map l.front l.address (drop l.hunk-index l.loaded) ≡ lines_text l.map l.front l.address l.loaded
