use Rattle.std.proofs.Common.{◌≡◌, ◌++◌, drop, length}
use Rattle.module_code.specs.HunkWords.{words_from}
use Rattle.module_code.proofs.hunk_words.push_words.Given as goal

abbrev pub invariant-loop-i : goal.invariant-loop-i
invariant-loop-i l = l.text.items ++ words_from l.i (length l.words) (drop l.i l.words) ≡ l.fn.text.items ++ words_from 0 (length l.words) l.words
