use Rattle.std.proofs.Common.{◌≡◌, ◌++◌, drop}
use Rattle.assembly.specs.AssemblyText.HunkWords.{pair_words}
use Rattle.assembly.proofs.assembly_text.hunks.push_pairs.Given as goal

abbrev pub invariant-loop-number : goal.invariant-loop-number
invariant-loop-number l = l.words.items ++ pair_words (drop l.number-index l.pairs) ≡ l.fn.words.items ++ pair_words l.pairs
