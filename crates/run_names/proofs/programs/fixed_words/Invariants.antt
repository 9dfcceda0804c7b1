use Rattle.std.proofs.Common.{◌≡◌, ◌++◌, drop, map, Some}
use Rattle.run_names.specs.Programs.{unfixed}
use Rattle.run_names.proofs.programs.fixed_words.Given as goal

abbrev pub invariant-loop-word : goal.invariant-loop-word
invariant-loop-word l = l.words.items ++ map Some (drop l.word-index l.word-items) ≡ map Some l.hunk.words

abbrev pub invariant-loop-offset : goal.invariant-loop-offset
invariant-loop-offset l = unfixed l.words.items (drop l.offset-index l.offset-items) ≡ unfixed (map Some l.hunk.words) l.hunk.relocations
