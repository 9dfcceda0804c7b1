use Rattle.std.proofs.Common.{◌≡◌, drop, get_or}
use Rattle.state_text.proofs.LoadedWords.{relocated_one}
use Rattle.state_text.proofs.programs.relocated_word.Given as goal

abbrev pub invariant-loop-offset : goal.invariant-loop-offset
invariant-loop-offset l =
    relocated_one l.base l.i l.word (drop l.offset-index l.offset-items) ≡ relocated_one l.base l.i (get_or l.hunk.words l.i 0) l.hunk.relocations
