use Rattle.std.proofs.Common.{◌≡◌, ◌++◌, drop, length}
use Rattle.module_code.specs.HunkWords.{offsets_from}
use Rattle.module_code.proofs.hunk_words.push_offsets.Given as goal

abbrev pub invariant-loop-i : goal.invariant-loop-i
invariant-loop-i l = l.text.items ++ offsets_from l.i (length l.offsets) (drop l.i l.offsets) ≡ l.fn.text.items ++ offsets_from 0 (length l.offsets) l.offsets
