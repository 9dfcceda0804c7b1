use Rattle.std.proofs.Common.{◌≡◌, ◌++◌, length}
use Rattle.assembly.specs.AssemblyText.HunkWords.{words_of}
use Rattle.assembly.proofs.assembly_text.hunks.push_code.Given as goal

abbrev pub invariant-loop-rest : goal.invariant-loop-rest
invariant-loop-rest l = l.words.items ++ words_of l.rest ≡ l.fn.words.items ++ words_of l.bytes

abbrev pub decreases-loop-rest : goal.decreases-loop-rest
decreases-loop-rest l = length l.rest
