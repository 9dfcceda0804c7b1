use Rattle.std.proofs.Common.{ℕ, List}
use Rattle.word_store.specs.Row.{with_words}
use Rattle.kernel_lists.specs.HunkLoader.Private.Follow.{WordsFollow}
use Rattle.kernel_lists.proofs.HunkLoader.CopiedWords.{CopyLeft}
use Rattle.kernel_lists.proofs.hunk_loader.copies.copy_words.Given as goal

abbrev pub invariant-loop-a : goal.invariant-loop-a
invariant-loop-a g l =
    let text = g.X.TextBytes.text l.text in
    (words others : List ℕ) → WordsFollow text l.fn.from l.fn.at l.fn.end words others → CopyLeft text l.store l.place l.a l.fn.end others (with_words l.fn.store l.fn.at words)
