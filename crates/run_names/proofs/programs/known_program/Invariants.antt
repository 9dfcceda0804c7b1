use Rattle.std.proofs.Common.{◌≡◌, ◌++◌, drop, map}
use Rattle.std.specs.List.{flat_map}
use Rattle.run_names.specs.Programs.{fixed_words, hunk_length}
use Rattle.run_names.proofs.programs.known_program.Given as goal

abbrev pub invariant-loop-hunk : goal.invariant-loop-hunk
invariant-loop-hunk l =
    (l.lengths.items ++ map hunk_length (drop l.hunk-index l.hunks) ≡ map hunk_length l.hunks)
    × (l.words.items ++ flat_map fixed_words (drop l.hunk-index l.hunks) ≡ flat_map fixed_words l.hunks)
